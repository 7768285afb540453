-- How items are spelled, each in a multiple of four bytes (RFC 4506).
use Rattle.std.specs.Prelude.{ℕ, ◌-◌, ◌%◌, nat_lt, Bool, true, false, List, ◌++◌, length, replicate, Option}
use Rattle.std.specs.Prelude.{Some}
use Rattle.std.specs.Prelude.{None}
use Rattle.std.specs.Int.{w32, w64, to_be_bytes}

-- an unsigned number, the greatest byte first (sections 4.2 and 4.5)
unfoldable pub word : ℕ → List ℕ
word n = to_be_bytes w32 n

unfoldable pub double : ℕ → List ℕ
double n = to_be_bytes w64 n

-- 0 or 1 (section 4.4)
unfoldable pub flag : Bool → List ℕ
flag false = word 0
flag true = word 1

-- more than four bytes can count (sections 4.10 and 4.13)
abbrev pub is_uncounted : {A : Type 0} → List A → Bool
is_uncounted xs = nat_lt 4294967295 (length xs)

-- how many zeros stand behind so many bytes
abbrev pub padding : ℕ → ℕ
padding n = (4 - n % 4) % 4

-- a length, that many bytes, and zeros up to a multiple of four (sections 4.10 and 4.11)
unfoldable pub opaque : List ℕ → List ℕ
opaque bytes = word (length bytes) ++ bytes ++ replicate (padding (length bytes)) 0

-- whether there is one, and the item where there is (section 4.19)
abbrev pub optional : {A : Type 0} → (A → List ℕ) → Option A → List ℕ
optional spelled None = flag false
optional spelled (Some x) = flag true ++ spelled x
