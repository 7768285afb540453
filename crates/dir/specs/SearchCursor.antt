-- What is known of a name in a directory, by what was read.
use Rattle.std.specs.Prelude.{◌≡◌, ℕ, ◌+◌, ◌*◌, ◌<◌, ◌≤◌, List, Some, None, Ok, length}
use Rattle.base.specs.declared.TheConstants.{BLOCK_BYTES, SLOTS_PER_BLOCK}
use Rattle.disk.specs.Crash.{Image}
use Rattle.layout.specs.declared.inode.Inode.{Inode}
use Rattle.layout.specs.Decode.{inode_at, span_of}
use Rattle.layout.specs.Parts.{content_in}
use Rattle.nfs_spec.specs.Model.Tree.{Tree}
use Rattle.inode.specs.declared.snap.Snap.{Snap}
use Rattle.inode.specs.Read.{Saw}
use Rattle.procs_files.specs.declared.dirent.SlotDirent.{SlotDirent}
use Rattle.dir.specs.declared.cursor.SearchCursor.{SearchCursor}
use Rattle.dir.specs.Slots.{HasBlockAt, IsDirectoryOf, IsFound, NoneHas, NoneRefused, block_slot, slot_at}

-- the layout refuses no slot of the block that a directory has at an index
abbrev pub IsValidAt : Snap → Image → Inode → ℕ → Type 0
IsValidAt snap blocks inode index = (number : ℕ) → HasBlockAt blocks inode index number
    → length (blocks number) ≡ BLOCK_BYTES
    → NoneRefused (block_slot snap.geometry.inodes (SLOTS_PER_BLOCK * index) (blocks number)) (SLOTS_PER_BLOCK * index)
    (SLOTS_PER_BLOCK * index + SLOTS_PER_BLOCK)

-- So many first blocks are known to be valid once the next one, with these slots, was looked through: it too, where
-- those before it are and none of its slots is refused.
pub data IsValidBehind (inodes first : ℕ) (block : List ℕ) (cursor : SearchCursor) (valid_blocks : ℕ) : Type 0 where
  same : valid_blocks ≡ cursor.valid_blocks → IsValidBehind inodes first block cursor valid_blocks
  more : cursor.valid_blocks ≡ cursor.blocks → valid_blocks ≡ cursor.blocks + 1
      → NoneRefused (block_slot inodes first block) first (first + SLOTS_PER_BLOCK)
      → IsValidBehind inodes first block cursor valid_blocks

-- No more blocks were looked through than the directory spans; and none of their slots has the name, or this one has.
-- Nor is a slot refused of those blocks that are counted as valid. So it is in all blocks that have what was read, and
-- stays so however much more is read.
pub record IsSearchCursor (snap : Snap) (cursor : SearchCursor) : Type 0 where
  pub within : (blocks : Image) (inode : Inode) → Saw blocks snap
      → inode_at snap.geometry blocks cursor.directory ≡ Ok (Some inode) → cursor.blocks ≤ span_of inode
  pub none : (blocks : Image) (tree : Tree) (inode : Inode)
      → IsDirectoryOf snap blocks tree cursor.directory inode → cursor.found ≡ None
      → NoneHas (slot_at snap.geometry.inodes (content_in snap.geometry blocks) inode) cursor.name 0
      (SLOTS_PER_BLOCK * cursor.blocks)
  pub some : (blocks : Image) (tree : Tree) (inode : Inode) (search_hit : SlotDirent)
      → IsDirectoryOf snap blocks tree cursor.directory inode → cursor.found ≡ Some search_hit
      → IsFound (slot_at snap.geometry.inodes (content_in snap.geometry blocks) inode) cursor.name 0
      (SLOTS_PER_BLOCK * cursor.blocks) (Some search_hit)
  pub few : cursor.valid_blocks ≤ cursor.blocks
  pub valid_blocks : (blocks : Image) (inode : Inode) (index : ℕ) → Saw blocks snap
      → inode_at snap.geometry blocks cursor.directory ≡ Ok (Some inode) → index < cursor.valid_blocks
      → IsValidAt snap blocks inode index
