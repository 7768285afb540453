-- The bits of bytes, of bitmaps, and what has them.
use Rattle.std.specs.Prelude.{◌≡◌, ℕ, ◌+◌, ◌*◌, ◌/◌, ◌<◌, ◌≤◌, Bool, true, false, cond, Option, Some, None}
use Rattle.std.specs.Prelude.{List, nat_eq}
use Rattle.base.specs.declared.TheConstants.{BITS_PER_BLOCK}
use Rattle.disk.specs.Crash.{Image}
use Rattle.nfs_types.specs.Fits.{AreBytes}
use Rattle.layout.specs.declared.geometry.Geometry.{Geometry}
use Rattle.layout.specs.declared.grid.TheConstants.{PIECE_BITS}
use Rattle.layout.specs.Parts.{bit_at, parts_of, put}
use Rattle.layout_records.specs.Bits.{bit_in}

-- a bit of a piece that is clear, or none is
abbrev pub IsClearIn : List ℕ → Option ℕ → Type 0
IsClearIn bytes (Some bit) = (bit < PIECE_BITS) × (bit_in bytes bit ≡ false)
IsClearIn bytes None = (bit : ℕ) → bit < PIECE_BITS → bit_in bytes bit ≡ true

-- a bit of the pieces of a bitmap from one up to another that is clear, or none is
abbrev pub IsClearBetween : Image → ℕ → ℕ → ℕ → Option ℕ → Type 0
IsClearBetween blocks first from end (Some bit) =
    (PIECE_BITS * from ≤ bit) × (bit < PIECE_BITS * end) × (bit_at blocks first bit ≡ false)
IsClearBetween blocks first from end None =
    (bit : ℕ) → PIECE_BITS * from ≤ bit → bit < PIECE_BITS * end → bit_at blocks first bit ≡ true

-- a bit of a bitmap that is clear, or none is
abbrev pub IsClearOf : Image → ℕ → ℕ → Option ℕ → Type 0
IsClearOf blocks first count (Some bit) = (bit < BITS_PER_BLOCK * count) × (bit_at blocks first bit ≡ false)
IsClearOf blocks first count None = (bit : ℕ) → bit < BITS_PER_BLOCK * count → bit_at blocks first bit ≡ true

-- blocks with another value of one bit of the bitmap that begins with a block
pub record PutsBit (first bit : ℕ) (is : Bool) (old new : Image) : Type 0 where
  pub others : (block : ℕ) → (block ≡ first + bit / BITS_PER_BLOCK → ⊥) → new block ≡ old block
  pub bytes : AreBytes (old (first + bit / BITS_PER_BLOCK)) → AreBytes (new (first + bit / BITS_PER_BLOCK))
  pub bits : (other : ℕ) → bit_at new first other ≡ cond (nat_eq other bit) is (bit_at old first other)

-- the blocks of an image are bytes
abbrev pub AreOfBytes : Geometry → Image → Type 0
AreOfBytes g image = (number : ℕ) → number < g.blocks → AreBytes (image number)

-- blocks in which a block is marked as used or as free, and which are the same else
pub record MarksBlock (g : Geometry) (number : ℕ) (is : Bool) (old new : Image) : Type 0 where
  pub bytes : AreOfBytes g old → AreOfBytes g new
  pub parts : parts_of g new
      ≡ record (parts_of g old) { block_bits = put (parts_of g old).block_bits number is }

-- blocks in which the number of an inode is marked so
pub record MarksNumber (g : Geometry) (number : ℕ) (is : Bool) (old new : Image) : Type 0 where
  pub bytes : AreOfBytes g old → AreOfBytes g new
  pub parts : parts_of g new
      ≡ record (parts_of g old) { inode_bits = put (parts_of g old).inode_bits number is }
