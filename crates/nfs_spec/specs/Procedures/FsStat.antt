-- FSSTAT (RFC 1813, section 3.3.18).
use Rattle.std.specs.Prelude.{ℕ, ◌-◌, ◌*◌, List, Option, Result, Ok}
use Rattle.std.specs.FinMap.{len}
use Rattle.base.specs.declared.TheConstants.{BLOCK_BYTES}
use Rattle.nfs_types.specs.declared.attributes.Attributes.{Attributes}
use Rattle.nfs_types.specs.declared.reply.FileSystemSpace.{FileSystemSpace}
use Rattle.nfs_types.specs.declared.status.Status.{Status}
use Rattle.nfs_spec.specs.Model.Tree.{Tree, free}
use Rattle.nfs_spec.specs.Procedures.StepForms.{Tells}

-- the numbers that files may have: 0 is none's
abbrev pub all_numbers : Tree → ℕ
all_numbers tree = tree.geometry.inodes - 1

abbrev pub unused_numbers : Tree → ℕ
unused_numbers tree = all_numbers tree - len tree.nodes

-- All that is free is free to each caller, and may change at once.
abbrev pub space_of : Tree → FileSystemSpace
space_of tree = record {
  total_bytes = BLOCK_BYTES * tree.geometry.data_blocks;
  free_bytes = BLOCK_BYTES * free tree;
  available_bytes = BLOCK_BYTES * free tree;
  total_files = all_numbers tree;
  free_files = unused_numbers tree;
  available_files = unused_numbers tree;
  unchanged_seconds = 0;
}

abbrev pub FsStatStep : Tree → List ℕ → Result FileSystemSpace Status → Option Attributes → Tree → Type 0
FsStatStep tree object outcome file_attributes next =
    Tells tree object (λ number node. Ok (space_of tree)) outcome file_attributes next
