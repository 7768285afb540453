-- COMMIT (RFC 1813, section 3.3.21). What it makes stable is no matter of the tree: all that was written
-- before it. So its offset and its count are read and change nothing.
use Rattle.std.specs.Prelude.{ℕ, not, List, [], ◌∷◌, Option, Result, Ok}
use Rattle.nfs_types.specs.Verifier.{boot_verifier}
use Rattle.nfs_types.specs.declared.attributes.WeakCacheData.{WeakCacheData}
use Rattle.nfs_types.specs.declared.ctx.Credential.{Credential}
use Rattle.nfs_types.specs.declared.ctx.Ctx.{Ctx}
use Rattle.nfs_types.specs.declared.status.Status.{Status}
use Rattle.nfs_types.specs.declared.status.Status.TheVariants as status
use Rattle.nfs_types.specs.declared.verifier.Verifier.{Verifier}
use Rattle.nfs_spec.specs.Model.Node.{Node}
use Rattle.nfs_spec.specs.Model.Permissions.{may_write_file}
use Rattle.nfs_spec.specs.Model.SetAttr.{first_of_tests, is_regular}
use Rattle.nfs_spec.specs.Model.Tree.{Tree}
use Rattle.nfs_spec.specs.Procedures.FirstTests.{unless}
use Rattle.nfs_spec.specs.Procedures.StepForms.{Acts, Effect}

abbrev pub commit_refusal : Credential → Node → Option Status
commit_refusal caller node = first_of_tests (
    (not (is_regular node.body), status.Inval)
    ∷ (not (may_write_file caller node), status.Acces)
    ∷ [])

abbrev pub commit : Tree → Ctx → ℕ → Node → Result (Effect Verifier) Status
commit tree ctx number node =
    unless (commit_refusal ctx.credential node)
    (Ok (record { answer = boot_verifier ctx.boot; next = tree }))

abbrev pub CommitStep : Tree → Ctx → List ℕ → Result Verifier Status → WeakCacheData → Tree → Type 0
CommitStep tree ctx file outcome file_attributes next = Acts tree file (commit tree ctx) outcome file_attributes next
