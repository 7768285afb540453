-- PATHCONF (RFC 1813, section 3.3.20).
use Rattle.std.specs.Prelude.{ℕ, true, false, List, Option, Result, Ok}
use Rattle.base.specs.declared.TheConstants.{MOST_LINKS, NAME_BYTES}
use Rattle.nfs_types.specs.declared.attributes.Attributes.{Attributes}
use Rattle.nfs_types.specs.declared.reply.PathLimits.{PathLimits}
use Rattle.nfs_types.specs.declared.status.Status.{Status}
use Rattle.nfs_spec.specs.Model.Tree.{Tree}
use Rattle.nfs_spec.specs.Procedures.StepForms.{Tells}

-- long names are refused and never cut, and names differ by case
abbrev pub path_limits : PathLimits
path_limits = record {
  links = MOST_LINKS;
  name_bytes = NAME_BYTES;
  no_truncation = true;
  chown_restricted = false;
  case_insensitive = false;
  case_preserving = true;
}

abbrev pub PathConfStep : Tree → List ℕ → Result PathLimits Status → Option Attributes → Tree → Type 0
PathConfStep tree object outcome file_attributes next =
    Tells tree object (λ number node. Ok path_limits) outcome file_attributes next
