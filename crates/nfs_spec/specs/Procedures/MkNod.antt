-- MKNOD (RFC 1813, section 3.3.11): no special file is ever made.
use Rattle.std.specs.Prelude.{ℕ, List, Result, Err}
use Rattle.nfs_types.specs.declared.attributes.WeakCacheData.{WeakCacheData}
use Rattle.nfs_types.specs.declared.reply.Created.{Created}
use Rattle.nfs_types.specs.declared.status.Status.{Status}
use Rattle.nfs_types.specs.declared.status.Status.TheVariants as status
use Rattle.nfs_spec.specs.Model.Tree.{Tree}
use Rattle.nfs_spec.specs.Procedures.StepForms.{Acts}

-- refused behind the tests of the handle, whatever this names
abbrev pub MkNodStep : Tree → List ℕ → Result Created Status → WeakCacheData → Tree → Type 0
MkNodStep tree directory outcome file_attributes next =
    Acts tree directory (λ number node. Err status.NotSupp) outcome file_attributes next
