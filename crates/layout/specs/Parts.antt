-- What is read of an image's blocks: the table of inodes, the data blocks and the bits of the bitmaps. Blocks
-- stand for trees through these parts alone, so that a write is one change of one part.
use Rattle.std.specs.Prelude.{ℕ, ◌+◌, ◌*◌, ◌/◌, ◌%◌, ◌^◌, Bool, cond, if◌then◌else◌, List}
use Rattle.std.specs.Prelude.{◌&&◌, nat_eq, nat_lt, get_or, replicate, Option, Result, Err}
use Rattle.base.specs.declared.TheConstants.{BITS_PER_BLOCK, BLOCK_BYTES, FIRST_HOME_BLOCK}
use Rattle.disk.specs.Crash.{Image}
use Rattle.objects.specs.Spliced.{spliced}
use Rattle.layout.specs.declared.fault.LayoutFault.{LayoutFault}
use Rattle.layout.specs.declared.fault.LayoutFault.TheVariants.{Range}
use Rattle.layout.specs.declared.geometry.Geometry.{Geometry}
use Rattle.layout.specs.declared.inode.Inode.{Inode}
use Rattle.layout.specs.Decode.{inode_at}
use Rattle.layout.specs.InodeForm.{inode_bytes}
use Rattle.layout.specs.Geometry.{bitmap_blocks, inode_bitmap_at}
use Rattle.layout.specs.Places.{inode_block, inode_offset, is_data}

-- a bit of the bitmap that begins with a block: the least bit of a byte comes first
unfoldable pub bit_at : Image → ℕ → ℕ → Bool
bit_at blocks first bit =
    nat_eq (get_or (blocks (first + bit / BITS_PER_BLOCK)) (bit % BITS_PER_BLOCK / 8) 0 / 2 ^ (bit % 8) % 2) 1

-- what the inode of a number is
abbrev pub Table : Type 0
Table = ℕ → Result (Option Inode) LayoutFault

pub record Parts : Type 0 where
  pub table : Table
  pub content : Image
  pub block_bits : ℕ → Bool
  pub inode_bits : ℕ → Bool

-- a function that is another at one number alone
abbrev pub put : {A : Type 0} → (ℕ → A) → ℕ → A → ℕ → A
put f number value other = cond (nat_eq other number) value (f other)

-- each part where it lies, and nothing past its end
abbrev pub table_of : Geometry → Image → Table
table_of g blocks number = cond (nat_lt number g.inodes) (inode_at g blocks number) (Err Range)

abbrev pub content_in : Geometry → Image → Image
content_in g blocks number = cond (is_data g number) (blocks number) (replicate BLOCK_BYTES 0)

abbrev pub bits_of : Image → ℕ → ℕ → ℕ → Bool
bits_of blocks first count bit = nat_lt bit (BITS_PER_BLOCK * count) && bit_at blocks first bit

abbrev pub parts_of : Geometry → Image → Parts
parts_of g blocks = record {
  table = table_of g blocks;
  content = content_in g blocks;
  block_bits = bits_of blocks FIRST_HOME_BLOCK (bitmap_blocks g.blocks);
  inode_bits = bits_of blocks (inode_bitmap_at g.blocks) (bitmap_blocks g.inodes);
}

-- the blocks with these bytes in one of them
abbrev pub with_bytes : Image → ℕ → ℕ → List ℕ → Image
with_bytes blocks at offset bytes = λ block. if nat_eq block at then spliced (blocks block) offset bytes
    else blocks block

-- the blocks with this inode under this number
abbrev pub with_inode : Geometry → Image → ℕ → Inode → Image
with_inode g blocks number inode =
    with_bytes blocks (inode_block g number) (inode_offset number) (inode_bytes inode)
