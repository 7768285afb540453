-- What blocks stand for where others became free.
use Rattle.std.specs.Prelude.{◌≡◌, ℕ, ◌/◌, ◌%◌, ◌<◌, Bool, false, List, [], ◌∷◌}
use Rattle.disk.specs.Crash.{Image}
use Rattle.layout.specs.declared.geometry.Geometry.{Geometry}
use Rattle.layout.specs.declared.grid.TheConstants.{PIECE_BITS}
use Rattle.layout.specs.Parts.{parts_of, put}
use Rattle.layout_records.specs.Bits.{HasBit}
use Rattle.bitmap.specs.Bits.{AreOfBytes}

-- the bits with those of these numbers clear
abbrev pub without : List ℕ → (ℕ → Bool) → ℕ → Bool
without [] bits = bits
without (number ∷ numbers) bits = without numbers (put bits number false)

-- blocks in which these blocks are marked as free, and which are the same else
pub record Frees (g : Geometry) (numbers : List ℕ) (old new : Image) : Type 0 where
  pub bytes : AreOfBytes g old → AreOfBytes g new
  pub parts : parts_of g new
      ≡ record (parts_of g old) { block_bits = without numbers (parts_of g old).block_bits }

-- one of so many blocks, whose bit is in a piece of the bitmap
abbrev pub IsInPiece : ℕ → ℕ → ℕ → Type 0
IsInPiece blocks piece number = (number < blocks) × (number / PIECE_BITS ≡ piece)

-- bytes in which the bits that these numbers have in their piece were cleared, one after another
abbrev pub AreCleared : List ℕ → List ℕ → List ℕ → Type 0
AreCleared [] old new = new ≡ old
AreCleared (number ∷ numbers) old new = (middle : List ℕ)
    × HasBit (number % PIECE_BITS) false old middle × AreCleared numbers middle new
