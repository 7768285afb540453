-- Numbers of four bytes, the least byte first, as the disk has them.
use Rattle.std.specs.Prelude.{ℕ, zero, suc, ◌+◌, List, [], ◌∷◌, nat_eq, not, drop, count_by}
use Rattle.std.specs.Int.{w32, from_le_bytes}

-- the number that the 4 bytes from an offset on spell
unfoldable pub four_at : ℕ → List ℕ → ℕ
four_at offset bytes = from_le_bytes w32 (drop offset bytes)

-- so many numbers of 4 bytes, one behind another from an offset on
unfoldable pub numbers_at : ℕ → ℕ → List ℕ → List ℕ
numbers_at zero offset bytes = []
numbers_at (suc count) offset bytes = four_at offset bytes ∷ numbers_at count (offset + 4) bytes

-- how many of these are numbers of blocks
abbrev pub count_of : List ℕ → ℕ
count_of numbers = count_by (λ number. not (nat_eq number 0)) numbers
