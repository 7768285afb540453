-- What the words of the command line ask for.
use Rattle.std.specs.Prelude.{◌≡◌, ◌<◌, ◌^◌, ◌⊎◌, ℕ, List, [], length, get_or}
use Rattle.std.specs.Str.Parse.{IsNumeral, digits_value, without_leading_plus}
use Rattle.plain_once.specs.declared.words.Asked.{Asked}

-- a word spells this number of 32 bits in decimal digits, a plus before them or none
abbrev pub Spells : List ℕ → ℕ → Type 0
Spells word number = IsNumeral 10 (without_leading_plus word)
    × (number ≡ digits_value 10 (without_leading_plus word)) × (number < 2 ^ 32)

-- no word stands for the rise, which is none then; or one that spells it
abbrev pub RisesBy : List (List ℕ) → ℕ → Type 0
RisesBy line rise = ((length line ≡ 5) × (rise ≡ 0)) ⊎ ((length line ≡ 6) × Spells (get_or line 5 []) rise)

-- a command line asks for this: behind the program's name stand four numbers, or five
pub record AsksFor (line : List (List ℕ)) (asked : Asked) : Type 0 where
  pub blocks : Spells (get_or line 1 []) asked.blocks
  pub inodes : Spells (get_or line 2 []) asked.inodes
  pub made : Spells (get_or line 3 []) asked.made
  pub second : Spells (get_or line 4 []) asked.fake_clock.second
  pub rise : RisesBy line asked.fake_clock.rise
