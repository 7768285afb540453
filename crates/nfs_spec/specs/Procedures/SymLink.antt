-- SYMLINK (RFC 1813, section 3.3.10).
use Rattle.std.specs.Prelude.{ℕ, Bool, List, [], ◌∷◌, ◌++◌, length, nat_eq, nat_lt, Option, None, Result}
use Rattle.base.specs.declared.TheConstants.{NEW_LINK_MODE, TARGET_BYTES}
use Rattle.nfs_types.specs.declared.attributes.NewAttributes.{NewAttributes}
use Rattle.nfs_types.specs.declared.attributes.WeakCacheData.{WeakCacheData}
use Rattle.nfs_types.specs.declared.ctx.Ctx.{Ctx}
use Rattle.nfs_types.specs.declared.reply.Created.{Created}
use Rattle.nfs_types.specs.declared.status.Status.{Status}
use Rattle.nfs_types.specs.declared.status.Status.TheVariants as status
use Rattle.nfs_spec.specs.Model.Node.{Node, Link}
use Rattle.nfs_spec.specs.Model.SetAttr.{first_of_tests}
use Rattle.nfs_spec.specs.Model.Tree.{Tree}
use Rattle.nfs_spec.specs.Procedures.FirstTests.{may_change, dentry_tests, unless}
use Rattle.nfs_spec.specs.Procedures.Fresh.{fresh, make, without_size}
use Rattle.nfs_spec.specs.Procedures.MkDir.{is_there}
use Rattle.nfs_spec.specs.Procedures.Places.{named_file}
use Rattle.nfs_spec.specs.Procedures.StepForms.{Acts, Effect}

-- the tests of the new name and what it leads to, and of the target, behind those of the name's place
abbrev pub symlink_tests : List ℕ → List ℕ → Option (ℕ × Node) → List (Bool × Status)
symlink_tests name target found =
    (is_there name found, status.Exist)
    ∷ (nat_eq (length target) 0, status.Inval)
    ∷ (nat_lt TARGET_BYTES (length target), status.NameTooLong)
    ∷ []

abbrev pub make_link : Tree → Ctx → List ℕ → NewAttributes → List ℕ → Option ℕ → ℕ → Node
    → Result (Effect Created) Status
make_link tree ctx name wanted target number at directory =
    unless (first_of_tests (dentry_tests (may_change ctx.credential directory) directory name
    ++ symlink_tests name target (named_file tree directory name)))
    (make tree ctx number at directory name (without_size wanted) (fresh ctx NEW_LINK_MODE None
    (Link target)))

abbrev pub SymLinkStep : Tree → Ctx → List ℕ → List ℕ → NewAttributes → List ℕ → Option ℕ
    → Result Created Status → WeakCacheData → Tree → Type 0
SymLinkStep tree ctx directory name wanted target number outcome file_attributes next =
    Acts tree directory (make_link tree ctx name wanted target number) outcome file_attributes next
