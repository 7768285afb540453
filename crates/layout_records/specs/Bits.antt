-- The bits of bytes, and a bitmap in pieces.
use Rattle.std.specs.Prelude.{◌≡◌, ℕ, ◌+◌, ◌*◌, ◌/◌, ◌%◌, ◌^◌, Bool, cond, not, List, length, nat_eq, get_or}
use Rattle.std.specs.Prelude.{count_by, take, drop}
use Rattle.std.specs.List.{range_with_len, sum_by}
use Rattle.disk.specs.Crash.{Image}
use Rattle.nfs_types.specs.Fits.{AreBytes}
use Rattle.layout.specs.declared.grid.TheConstants.{PIECE_BYTES, PIECES_PER_BLOCK}

-- a bit of bytes: the least bit of a byte comes first
abbrev pub bit_in : List ℕ → ℕ → Bool
bit_in bytes bit = nat_eq (get_or bytes (bit / 8) 0 / 2 ^ (bit % 8) % 2) 1

-- bytes with another value of one bit
pub record HasBit (bit : ℕ) (is : Bool) (old new : List ℕ) : Type 0 where
  pub len : length new ≡ length old
  pub bytes : AreBytes old → AreBytes new
  pub bits : (other : ℕ) → bit_in new other ≡ cond (nat_eq other bit) is (bit_in old other)

-- the clear bits of a byte
abbrev pub clear_in_byte : ℕ → ℕ
clear_in_byte byte = count_by (λ bit. not (nat_eq (byte / 2 ^ bit % 2) 1)) (range_with_len 0 8)

-- the clear bits of bytes
abbrev pub clear_in : List ℕ → ℕ
clear_in bytes = sum_by clear_in_byte bytes

-- the bytes of a piece of the bitmap that begins with this block
abbrev pub piece_in : Image → ℕ → ℕ → List ℕ
piece_in blocks first piece =
    take PIECE_BYTES (drop (PIECE_BYTES * (piece % PIECES_PER_BLOCK)) (blocks (first + piece / PIECES_PER_BLOCK)))
