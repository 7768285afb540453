-- The objects of an image by their addresses.
use Rattle.std.specs.Prelude.{◌≡◌, ℕ, ◌%◌, ◌<◌, Bool, cond, ◌&&◌, nat_eq, nat_le, nat_lt}
use Rattle.base.specs.declared.TheConstants.{BLOCK_BYTES, FIRST_HOME_BLOCK, INODE_BYTES}
use Rattle.objects.specs.declared.addr.Addr.{Addr}
use Rattle.layout.specs.declared.geometry.Geometry.{Geometry}
use Rattle.layout.specs.declared.grid.TheConstants.{PIECE_BYTES}
use Rattle.layout.specs.Geometry.{data_at, table_at}
use Rattle.layout.specs.Places.{inode_block, inode_offset, is_data}

-- an eighth of a block of a bitmap
abbrev pub is_piece : Geometry → ℕ → ℕ → Bool
is_piece g block offset =
    nat_le FIRST_HOME_BLOCK block && nat_lt block (table_at g.blocks g.inodes) && nat_eq (offset % PIECE_BYTES) 0

-- an inode
abbrev pub is_inode : Geometry → ℕ → ℕ → ℕ → Bool
is_inode g block offset len =
    nat_eq len INODE_BYTES && nat_le (table_at g.blocks g.inodes) block
    && nat_lt block (data_at g.blocks g.inodes) && nat_eq (offset % INODE_BYTES) 0

-- by its length a part of a block is a whole data block, a piece of a bitmap or an inode
abbrev pub is_part : Geometry → ℕ → ℕ → ℕ → Bool
is_part g block offset len =
    cond (nat_eq len BLOCK_BYTES) (is_data g block)
    (cond (nat_eq len PIECE_BYTES) (is_piece g block offset) (is_inode g block offset len))

abbrev pub is_on_grid : Geometry → Addr → Bool
is_on_grid g addr = is_part g addr.block.0 addr.offset addr.len

-- the inode of this number lies at the address
pub record IsInodeAt (g : Geometry) (number : ℕ) (addr : Addr) : Type 0 where
  pub less : number < g.inodes
  pub block : addr.block.0 ≡ inode_block g number
  pub offset : addr.offset ≡ inode_offset number
  pub len : addr.len ≡ INODE_BYTES
