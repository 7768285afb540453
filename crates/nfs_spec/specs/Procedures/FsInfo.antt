-- FSINFO (RFC 1813, section 3.3.19).
use Rattle.std.specs.Prelude.{ℕ, ◌+◌, List, Option, Result, Ok}
use Rattle.base.specs.declared.TheConstants.{CLOCK_STEP, LARGEST_FILE, LISTING_PREFERRED, TRANSFER_BYTES}
use Rattle.base.specs.declared.TheConstants.{TRANSFER_MULTIPLE}
use Rattle.nfs_types.specs.declared.attributes.Attributes.{Attributes}
use Rattle.nfs_types.specs.declared.reply.FileSystemInfo.{FileSystemInfo}
use Rattle.nfs_types.specs.declared.status.Status.{Status}
use Rattle.nfs_spec.specs.Model.Tree.{Tree}
use Rattle.nfs_spec.specs.Procedures.StepForms.{Tells}
use Rattle.nfs_spec.specs.declared.procedures.bits.TheConstants.{HAS_LINKS, HAS_SYMBOLIC_LINKS, IS_HOMOGENEOUS}
use Rattle.nfs_spec.specs.declared.procedures.bits.TheConstants.{SETS_TIMES}

abbrev pub file_system_info : FileSystemInfo
file_system_info = record {
  read_max = TRANSFER_BYTES;
  read_preferred = TRANSFER_BYTES;
  read_multiple = TRANSFER_MULTIPLE;
  write_max = TRANSFER_BYTES;
  write_preferred = TRANSFER_BYTES;
  write_multiple = TRANSFER_MULTIPLE;
  directory_preferred = LISTING_PREFERRED;
  largest_file = LARGEST_FILE;
  time_delta = record { seconds = 0; nanoseconds = CLOCK_STEP };
  properties = HAS_LINKS + HAS_SYMBOLIC_LINKS + IS_HOMOGENEOUS + SETS_TIMES;
}

abbrev pub FsInfoStep : Tree → List ℕ → Result FileSystemInfo Status → Option Attributes → Tree → Type 0
FsInfoStep tree object outcome file_attributes next =
    Tells tree object (λ number node. Ok file_system_info) outcome file_attributes next
