-- The bits of an image's bitmaps, and what they are to be.
use Rattle.std.specs.Prelude.{◌≡◌, ℕ, ◌*◌, ◌/◌, ◌%◌, ◌^◌, ◌<◌, Bool, false, ◌||◌, List, get_or, length, nat_eq, nat_le}
use Rattle.std.specs.Prelude.{nat_lt, Option, None, is_some}
use Rattle.base.specs.declared.TheConstants.{BITS_PER_BLOCK, FIRST_HOME_BLOCK}
use Rattle.disk.specs.Crash.{Image}
use Rattle.layout.specs.declared.geometry.Geometry.{Geometry}
use Rattle.layout.specs.declared.inode.Inode.{Inode}
use Rattle.layout.specs.Geometry.{bitmap_blocks, data_at, inode_bitmap_at}
use Rattle.layout.specs.Parts.{bit_at}
use Rattle.image_read.specs.ImageCounts.Tally.{Owned}

-- a bit of a block: the least bit of a byte comes first
abbrev pub bit_in : List ℕ → ℕ → Bool
bit_in bytes bit = nat_eq (get_or bytes (bit / 8) 0 / 2 ^ (bit % 8) % 2) 1

-- the bit of a block is to be set where the block lies before the data, past the last, or has an owner
abbrev pub is_block_mark : Geometry → Owned → ℕ → Bool
is_block_mark g is_preserved number =
    nat_lt number (data_at g.blocks g.inodes) || nat_le g.blocks number || get_or is_preserved.has number false

-- the bit of an inode is to be set where it is number 0, past the last of the table, or in use
abbrev pub is_inode_mark : List (Option Inode) → ℕ → Bool
is_inode_mark table number = nat_eq number 0 || nat_le (length table) number || is_some (get_or table number None)

-- so many blocks of the bitmap that begins with a block have these bits
abbrev pub HasBits : Image → ℕ → ℕ → List Bool → Type 0
HasBits image first count marks =
    (number : ℕ) → number < BITS_PER_BLOCK * count → bit_at image first number ≡ get_or marks number false

-- the bitmaps mark what is in use
pub record AreMarked (g : Geometry) (image : Image) (is_preserved : Owned) (table : List (Option Inode)) : Type 0 where
  pub blocks : (number : ℕ) → number < BITS_PER_BLOCK * bitmap_blocks g.blocks
      → bit_at image FIRST_HOME_BLOCK number ≡ is_block_mark g is_preserved number
  pub inodes : (number : ℕ) → number < BITS_PER_BLOCK * bitmap_blocks g.inodes
      → bit_at image (inode_bitmap_at g.blocks) number ≡ is_inode_mark table number
