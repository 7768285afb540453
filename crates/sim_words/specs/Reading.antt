-- Reading a line word by word, from left to right.
use Rattle.std.specs.Prelude.{◌≡◌, ◌⊎◌, ℕ, List, [], ◌∷◌, Option, Some, None, Result, Ok, Err, nat_lt, if◌then◌else◌}
use Rattle.sim_words.specs.declared.command.TheConstants.{WORKERS}
use Rattle.sim_words.specs.declared.fault.LineFault.{LineFault}
use Rattle.sim_words.specs.declared.fault.LineFault.TheVariants.{NoMemory}
use Rattle.sim_words.specs.Numbers.{number_of}

infixl 10 ◌>>=◌
abbrev pub ◌>>=◌ : {A B : Type 0} → Option A → (A → Option B) → Option B
(Some x) >>= f = f x
None >>= f = None

-- what a reader returned, seen by view, is what reading gives, but that an allocation may have failed
abbrev pub Gives : {X Y : Type 0} → (X → Y) → Result X LineFault → Option Y → Type 0
Gives view (Ok x) read = read ≡ Some (view x)
Gives view (Err fault) read = (read ≡ None) ⊎ (fault ≡ NoMemory)

abbrev pub word_at : List (List ℕ) → Option (List ℕ × List (List ℕ))
word_at [] = None
word_at (word ∷ words) = Some (word, words)

abbrev pub number_at : List (List ℕ) → Option (ℕ × List (List ℕ))
number_at words = do
  word ← word_at words
  number ← number_of word.0
  Some (number, word.1)

abbrev pub worker_at : List (List ℕ) → Option (ℕ × List (List ℕ))
worker_at words = do
  worker ← number_at words
  if nat_lt worker.0 WORKERS then Some worker else None

abbrev pub end_at : List (List ℕ) → Option (Unit {0})
end_at [] = Some tt
end_at (word ∷ words) = None
