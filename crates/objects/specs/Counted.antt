-- What the numbers of a block count to.
use Rattle.std.specs.Prelude.{◌≡◌, ℕ, ◌<◌, ◌≤◌, ◌⊎◌, ◌^◌, ◌-◌, List, get_or}
use Rattle.base.specs.declared.TheConstants.{INDIRECT_INDEXES}
use Rattle.objects.specs.declared.counted.Counted.{Counted}
use Rattle.objects.specs.Numbers.{count_of, numbers_at}

-- it is one of these numbers, and isn't 0
abbrev pub IsAmong : List ℕ → ℕ → Type 0
IsAmong numbers number = (0 < number) × (index : ℕ) × (get_or numbers index 0 ≡ number)

-- how many of these numbers aren't 0, and between which two of them these lie
pub record IsCounted (numbers : List ℕ) (counted : Counted) : Type 0 where
  pub count : counted.count ≡ count_of numbers
  pub within : (index : ℕ) → 0 < get_or numbers index 0
      → (counted.least ≤ get_or numbers index 0) × (get_or numbers index 0 ≤ counted.greatest)
  pub least : (counted.least ≡ 2 ^ 32 - 1) ⊎ IsAmong numbers counted.least
  pub greatest : (counted.greatest ≡ 0) ⊎ IsAmong numbers counted.greatest

-- the same of the numbers in a block
abbrev pub IsCountedIn : List ℕ → Counted → Type 0
IsCountedIn bytes counted = IsCounted (numbers_at INDIRECT_INDEXES 0 bytes) counted
