-- What is known of numbers once some of them were met, one after another.
use Rattle.std.specs.Prelude.{◌≡◌, ℕ, ◌+◌, ◌<◌, ◌≤◌, Bool, true, false, List, length, get_or, count_by, nat_eq, min}
use Rattle.std.specs.List.{list_any}
use Rattle.base.specs.declared.TheConstants.{MOST_LINKS}

-- how often a number is in a list, and whether it is
abbrev pub times : List ℕ → ℕ → ℕ
times met number = count_by (λ one. nat_eq one number) met

abbrev pub is_in : List ℕ → ℕ → Bool
is_in met number = list_any (λ one. nat_eq one number) met

-- what is kept of the numbers that were met: a bit for each, how many are set, and whether one was met twice
pub record Owned : Type 0 where
  pub has : List Bool
  pub count : ℕ
  pub shared : Bool

-- It is kept of these: a bit is set just where its number was met, and one is told to be shared just where one
-- was met twice. Where none was, as many bits are set as numbers were met.
pub record IsOwned (met : List ℕ) (owned : Owned) : Type 0 where
  pub has : (number : ℕ) → number < length owned.has → get_or owned.has number false ≡ is_in met number
  pub once : owned.shared ≡ false → (number : ℕ) → times met number ≤ 1
  pub count : owned.shared ≡ false → owned.count ≡ length met
  pub twice : owned.shared ≡ true → (number : ℕ) × (2 ≤ times met number)

-- each number's count says how often it was met, as far as a file may have links
abbrev pub AreCounts : List ℕ → List ℕ → Type 0
AreCounts met counts = (number : ℕ) → number < length counts
    → get_or counts number 0 ≡ min (times met number) (MOST_LINKS + 1)
