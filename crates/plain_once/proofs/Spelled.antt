-- The words of a command line, each at its place.
use Rattle.std.proofs.Common.{◌≡◌, ◌<◌, ℕ, List, Global, Option, None, [], map, get_or, length, string_bytes}
use Rattle.std.proofs.Common.{◌≤◌, subst, sym, ap, ◌∙◌, inl, inr, arith}
use Rattle.std.specs.Prelude.{String, IfNone}
use Rattle.std.proofs.lemmas.List.{get_or-map}
use Rattle.std.proofs.lemmas.List.{length-map}
use Rattle.plain_once.specs.Words.{AsksFor, RisesBy, Spells}
use Rattle.plain_once.specs.declared.words.Asked.{Asked}

module _ (line : List (String Global)) (at : ℕ) (word : String Global) (within : at < length line)
    (is : word ≡ get_or line at word) where
  -- the bytes of a word
  pub bytes_at : get_or (map string_bytes line) at [] ≡ string_bytes word
  bytes_at = get_or-map string_bytes line at word [] within ∙ ap string_bytes (sym is)

  -- nothing is asked for
  abbrev AsksForNone : Option Asked → Type 0
  AsksForNone words_read = IfNone words_read ((asked : Asked) → AsksFor (map string_bytes line) asked → ⊥)

  -- so it is where the word spells no number, and what is asked for goes by it
  pub asks_for_none : ((number : ℕ) → Spells (string_bytes word) number → ⊥) → (words_read : Option Asked)
      → words_read ≡ None → (by : Asked → ℕ)
      → ((asked : Asked) → AsksFor (map string_bytes line) asked
      → Spells (get_or (map string_bytes line) at []) (by asked))
      → AsksForNone words_read
  asks_for_none unspelled words_read none by spells =
      subst AsksForNone (sym none) (λ asked asks. unspelled (by asked)
      (subst (λ w. Spells w (by asked)) bytes_at (spells asked asks)))

-- where there is a sixth word, it spells the rise
pub rises_by : (line : List (String Global)) (rise : ℕ) → 6 ≤ length line → RisesBy (map string_bytes line) rise
    → Spells (get_or (map string_bytes line) 5 []) rise
rises_by line rise long (inl none) =
    let all = length-map line string_bytes in let five = none.0 in absurd (omega (arith, long, all, five))
rises_by line rise long (inr some) = some.1
