-- Which blocks and inodes are in use, and how the bitmaps mark them.
use Rattle.std.specs.Prelude.{◌≡◌, ℕ, ◌*◌, ◌<◌, ◌≤◌, Bool, true, false, not, ◌||◌, List, [], ◌++◌, nat_eq}
use Rattle.std.specs.Prelude.{nat_le, nat_lt, filter, count_by, Option, Some, None, Result, Ok, Err}
use Rattle.std.specs.List.{flat_map, list_any, range_with_len}
use Rattle.base.specs.declared.TheConstants.{BITS_PER_BLOCK}
use Rattle.disk.specs.Crash.{Image}
use Rattle.layout.specs.declared.fault.LayoutFault.{LayoutFault}
use Rattle.layout.specs.declared.geometry.Geometry.{Geometry}
use Rattle.layout.specs.declared.inode.Inode.{Inode}
use Rattle.layout.specs.Decode.{numbers_of, pointer_blocks}
use Rattle.layout.specs.Parts.{Parts}
use Rattle.layout.specs.Geometry.{bitmap_blocks, data_at}

-- the blocks of an inode: those that hold numbers, and those of its indexes
abbrev pub owned_by : Image → Result (Option Inode) LayoutFault → List ℕ
owned_by blocks (Ok (Some inode)) =
    filter (λ number. not (nat_eq number 0)) (pointer_blocks blocks inode ++ numbers_of blocks inode)
owned_by blocks (Ok None) = []
owned_by blocks (Err fault) = []

-- the blocks of all inodes
unfoldable pub owned : Geometry → Parts → List ℕ
owned g parts = flat_map (λ number. owned_by parts.content (parts.table number)) (range_with_len 0 g.inodes)

-- a file has the inode
abbrev pub is_used : Result (Option Inode) LayoutFault → Bool
is_used (Ok (Some inode)) = true
is_used (Ok None) = false
is_used (Err fault) = false

-- the bit of a block is set where the block lies before the data, past the last, or is owned
abbrev pub is_marked_block : Geometry → Parts → ℕ → Bool
is_marked_block g parts number =
    nat_lt number (data_at g.blocks g.inodes) || nat_le g.blocks number
    || list_any (λ one. nat_eq one number) (owned g parts)

-- the bit of an inode is set where it is number 0, past the last, or a file's
abbrev pub is_marked_inode : Geometry → Parts → ℕ → Bool
is_marked_inode g parts number = nat_eq number 0 || nat_le g.inodes number || is_used (parts.table number)

-- no block has two owners, and the bitmaps mark what is in use
pub record IsMarked (g : Geometry) (parts : Parts) : Type 0 where
  pub once : (number : ℕ) → count_by (λ one. nat_eq one number) (owned g parts) ≤ 1
  pub blocks_marked : (number : ℕ) → number < BITS_PER_BLOCK * bitmap_blocks g.blocks
      → parts.block_bits number ≡ is_marked_block g parts number
  pub inodes_marked : (number : ℕ) → number < BITS_PER_BLOCK * bitmap_blocks g.inodes
      → parts.inode_bits number ≡ is_marked_inode g parts number
