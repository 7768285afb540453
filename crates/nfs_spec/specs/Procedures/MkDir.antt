-- MKDIR (RFC 1813, section 3.3.9).
use Rattle.std.specs.Prelude.{ℕ, Bool, ◌||◌, List, [], ◌∷◌, ◌++◌, is_some, nat_le, Option, None, Result}
use Rattle.std.specs.FinMap as map
use Rattle.base.specs.declared.TheConstants.{MOST_LINKS, NEW_DIRECTORY_MODE}
use Rattle.nfs_types.specs.declared.attributes.NewAttributes.{NewAttributes}
use Rattle.nfs_types.specs.declared.attributes.WeakCacheData.{WeakCacheData}
use Rattle.nfs_types.specs.declared.ctx.Ctx.{Ctx}
use Rattle.nfs_types.specs.declared.reply.Created.{Created}
use Rattle.nfs_types.specs.declared.status.Status.{Status}
use Rattle.nfs_types.specs.declared.status.Status.TheVariants as status
use Rattle.nfs_spec.specs.Model.Node.{Node, Directory}
use Rattle.nfs_spec.specs.Model.SetAttr.{first_of_tests}
use Rattle.nfs_spec.specs.Model.Tree.{Tree}
use Rattle.nfs_spec.specs.Procedures.FirstTests.{may_change, dentry_tests, unless}
use Rattle.nfs_spec.specs.Procedures.Fresh.{fresh, make, without_size}
use Rattle.nfs_spec.specs.Procedures.Places.{is_own_name, named_file}
use Rattle.nfs_spec.specs.Procedures.StepForms.{Acts, Effect}

-- the name is there already, or is one that each directory has
abbrev pub is_there : List ℕ → Option (ℕ × Node) → Bool
is_there name found = is_own_name name || is_some found

-- it has as many links as a file may have
abbrev pub is_full : Node → Bool
is_full node = nat_le MOST_LINKS node.nlink

-- the tests of the new name and what it leads to, behind those of its place
abbrev pub mkdir_tests : List ℕ → Node → Option (ℕ × Node) → List (Bool × Status)
mkdir_tests name directory found =
    (is_there name found, status.Exist)
    ∷ (is_full directory, status.MLink)
    ∷ []

abbrev pub make_directory : Tree → Ctx → List ℕ → NewAttributes → Option ℕ → ℕ → Node
    → Result (Effect Created) Status
make_directory tree ctx name wanted number at directory =
    unless (first_of_tests (dentry_tests (may_change ctx.credential directory) directory name
    ++ mkdir_tests name directory (named_file tree directory name)))
    (make tree ctx number at directory name (without_size wanted)
    (fresh ctx NEW_DIRECTORY_MODE None (Directory map.empty 0 at)))

abbrev pub MkDirStep : Tree → Ctx → List ℕ → List ℕ → NewAttributes → Option ℕ → Result Created Status
    → WeakCacheData → Tree → Type 0
MkDirStep tree ctx directory name wanted number outcome file_attributes next =
    Acts tree directory (make_directory tree ctx name wanted number) outcome file_attributes next
