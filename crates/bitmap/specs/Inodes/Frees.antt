-- What blocks stand for where others became free.
use Rattle.std.specs.Prelude.{◌≡◌, ℕ, Bool, false, not, List, filter, nat_eq, None, Ok}
use Rattle.disk.specs.Crash.{Image}
use Rattle.layout.specs.declared.geometry.Geometry.{Geometry}
use Rattle.layout.specs.Decode.{numbers_in}
use Rattle.layout.specs.Parts.{parts_of, put}
use Rattle.bitmap.specs.Bits.{AreOfBytes}
pub use Rattle.bitmap.specs.Frees.{Frees, without}

-- the number of a block
abbrev pub is_some : ℕ → Bool
is_some number = not (nat_eq number 0)

-- the blocks that a pointer block names
abbrev pub named_by : Image → ℕ → List ℕ
named_by content pointer = filter is_some (numbers_in content pointer)

-- blocks in which the inode of a number is free too, and its number
pub record Clears (g : Geometry) (number : ℕ) (numbers : List ℕ) (old new : Image) : Type 0 where
  pub bytes : AreOfBytes g old → AreOfBytes g new
  pub parts : parts_of g new ≡ record (parts_of g old) {
    table = put (parts_of g old).table number (Ok None);
    block_bits = without numbers (parts_of g old).block_bits;
    inode_bits = put (parts_of g old).inode_bits number false;
  }
