-- Numbers digit by digit.
use Rattle.std.proofs.Common.{◌≡◌, ℕ, ◌+◌, ◌*◌, ◌-◌, ◌^◌, ◌<◌, ◌≤◌, List, [], ◌∷◌, Bool, true, false, Option, Some, None}
use Rattle.std.proofs.Common.{◌&&◌, nat_lt, if◌then◌else◌, length, get_or, drop, inl, inr, refl, sym, ap, ◌∙◌, arith}
use Rattle.std.proofs.lemmas.Bool.{cases_lt, le-ltb, lt-ltb}
use Rattle.std.proofs.lemmas.List.{drop_more}
use Rattle.std.specs.Char.{is_ascii_digit}
use Rattle.sim_words.specs.Numbers.{are_digits, fits, number_after, value_after, with_digit}

-- more digits write no less
value_rises : (number : ℕ) (digits : List ℕ) → number ≤ value_after number digits
value_rises number [] = omega arith
value_rises number (digit ∷ digits) = omega (arith, value_rises (number * 10 + (digit - 48)) digits)

pub fitting : (number : ℕ) → number < 2 ^ 32 → fits number ≡ Some number
fitting number less = ap (λ (t : Bool). if t then Some number else None) (lt-ltb number (2 ^ 32) less)

pub past : (number : ℕ) → 2 ^ 32 ≤ number → fits number ≡ None
past number large = ap (λ (t : Bool). if t then Some number else None) (le-ltb number (2 ^ 32) large)

too_large : (number : ℕ) → fits number ≡ None → 2 ^ 32 ≤ number
too_large number is = elim (cases_lt number (2 ^ 32)) [
  | inl less ↦ absurd (let no : Some number ≡ None = sym (fitting number less) ∙ is in cc)
  | inr large ↦ large
]

held : Option ℕ → ℕ
held None = 0
held (Some number) = number

fits_is : (number more : ℕ) → fits number ≡ Some more → number ≡ more
unfolding held
fits_is number more is = elim (cases_lt number (2 ^ 32)) [
  | inl less ↦ ap held (sym (fitting number less) ∙ is)
  | inr large ↦ absurd (let no : None ≡ Some more = sym (past number large) ∙ is in cc)
]

-- with one digit more the number is this
goes_with : (t : Bool) (value more : ℕ) (digits : List ℕ) → (if t then fits value else None) ≡ Some more
    → (if t && are_digits digits then fits (value_after value digits) else None) ≡ number_after more digits
goes_with false value more digits is = absurd (cc)
goes_with true value more digits is = ap (λ (n : ℕ). number_after n digits) (fits_is value more is)

-- or there is none, and none with more digits
stops_with : (t : Bool) (value : ℕ) (digits : List ℕ) → (if t then fits value else None) ≡ None
    → (if t && are_digits digits then fits (value_after value digits) else None) ≡ None
stops_with false value digits is = refl
stops_with true value digits is =
    let none : fits (value_after value digits) ≡ None
    = past (value_after value digits) (omega (arith, value_rises value digits, too_large value is)) in
    elim (are_digits digits) as (λ (t : Bool). (if t then fits (value_after value digits) else None) ≡ None)
    [ true ↦ none | false ↦ refl ]

-- the number goes on with the digit that stands here
pub digit_goes : (number at more : ℕ) (word : List ℕ) → at < length word
    → with_digit number (get_or word at 0) ≡ Some more
    → number_after number (drop at word) ≡ number_after more (drop (at + 1) word)
digit_goes number at more word within is = ap (number_after number) (drop_more word at 0 within)
    ∙ goes_with (is_ascii_digit (get_or word at 0)) (number * 10 + (get_or word at 0 - 48)) more
    (drop (at + 1) word) is

-- or there is no number
pub digit_stops : (number at : ℕ) (word : List ℕ) → at < length word
    → with_digit number (get_or word at 0) ≡ None → number_after number (drop at word) ≡ None
digit_stops number at word within is = ap (number_after number) (drop_more word at 0 within)
    ∙ stops_with (is_ascii_digit (get_or word at 0)) (number * 10 + (get_or word at 0 - 48))
    (drop (at + 1) word) is

-- behind the last digit it is what it is
pub digits_end : (number : ℕ) → number < 2 ^ 32 → number_after number [] ≡ Some number
digits_end number less = fitting number less
