-- READLINK (RFC 1813, section 3.3.5).
use Rattle.std.specs.Prelude.{ℕ, List, Option, Result, Ok, Err}
use Rattle.nfs_types.specs.declared.attributes.Attributes.{Attributes}
use Rattle.nfs_types.specs.declared.status.Status.{Status}
use Rattle.nfs_types.specs.declared.status.Status.TheVariants as status
use Rattle.nfs_spec.specs.Model.Node.{Body, Regular, Directory, Link}
use Rattle.nfs_spec.specs.Model.Tree.{Tree}
use Rattle.nfs_spec.specs.Procedures.StepForms.{Tells}

-- the target of a link, and of nothing else
abbrev pub target_of : Body → Result (List ℕ) Status
target_of (Regular bytes mapped) = Err status.Inval
target_of (Directory named span parent) = Err status.Inval
target_of (Link target) = Ok target

abbrev pub ReadLinkStep : Tree → List ℕ → Result (List ℕ) Status → Option Attributes → Tree → Type 0
ReadLinkStep tree link outcome file_attributes next =
    Tells tree link (λ number node. target_of node.body) outcome file_attributes next
