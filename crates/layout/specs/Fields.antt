-- Numbers in bytes, the least byte first, as the disk has them.
use Rattle.std.specs.Prelude.{ℕ, Bool, List, nat_eq, drop}
use Rattle.std.specs.Int.{w32, w64, from_le_bytes, to_le_bytes}
use Rattle.std.specs.List.{flat_map, list_all}
-- numbers of 4 bytes, as blocks in memory have them too
unfoldable pub use Rattle.objects.specs.Numbers.{four_at, numbers_at}
pub use Rattle.objects.specs.Numbers.{count_of}

-- the number that the 8 bytes from an offset on spell
unfoldable pub eight_at : ℕ → List ℕ → ℕ
eight_at offset bytes = from_le_bytes w64 (drop offset bytes)

-- a number in 4 bytes
unfoldable pub four_bytes : ℕ → List ℕ
four_bytes number = to_le_bytes w32 number

-- a number in 8 bytes
unfoldable pub eight_bytes : ℕ → List ℕ
eight_bytes number = to_le_bytes w64 number

-- numbers in 4 bytes each
abbrev pub number_bytes : List ℕ → List ℕ
number_bytes numbers = flat_map four_bytes numbers

-- nothing but zeros
abbrev pub is_zeros : List ℕ → Bool
is_zeros bytes = list_all (λ byte. nat_eq byte 0) bytes
