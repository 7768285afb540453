-- The objects of an image: what is read and written at once.
use Rattle.std.specs.Prelude.{◌≡◌, ℕ, ◌*◌, ◌<◌, ◌≤◌, true}
use Rattle.base.specs.declared.TheConstants.{BLOCK_BYTES, FIRST_HOME_BLOCK, INODE_BYTES}
use Rattle.objects.specs.declared.addr.Addr.{Addr}
use Rattle.layout.specs.declared.geometry.Geometry.{Geometry}
use Rattle.layout.specs.declared.grid.TheConstants.{PIECE_BYTES, PIECES_PER_BLOCK}
use Rattle.layout.specs.Geometry.{table_at}
use Rattle.layout.specs.Places.{inode_block, inode_offset, is_data}

-- an inode, an eighth of a block of a bitmap, or a whole data block
pub data IsObject (g : Geometry) (addr : Addr) : Type 0 where
  inode : (number : ℕ) → number < g.inodes → addr.block.0 ≡ inode_block g number
      → addr.offset ≡ inode_offset number → addr.len ≡ INODE_BYTES → IsObject g addr
  bits : (piece : ℕ) → piece < PIECES_PER_BLOCK → FIRST_HOME_BLOCK ≤ addr.block.0
      → addr.block.0 < table_at g.blocks g.inodes → addr.offset ≡ PIECE_BYTES * piece → addr.len ≡ PIECE_BYTES
      → IsObject g addr
  whole : is_data g addr.block.0 ≡ true → addr.offset ≡ 0 → addr.len ≡ BLOCK_BYTES → IsObject g addr
