-- The numbers of a block, counted where they lie.
use Rattle.std.proofs.Common.{◌≡◌, ℕ, ◌+◌, ◌*◌, ◌-◌, ◌^◌, ◌<◌, ◌≤◌, ◌⊎◌, inl, inr, refl, ap, sym, subst, ◌∙◌}
use Rattle.std.proofs.Common.{List, [], ◌∷◌, ◌++◌, length, nat_eq, get_or, arith, cond, not}
use Rattle.std.proofs.lemmas.Bool.{cases_lt, eq-eqb, ne_eqb}
use Rattle.std.proofs.lemmas.List.{get_or_append_left, get_or_push, length_push}
use Rattle.std.proofs.lemmas.List.Sums.{sum_by-append, sum_by-cons}
use Rattle.std.proofs.Math.ListN.{get_or-eq_default}
use Rattle.objects.specs.Counted.{IsAmong, IsCounted}
use Rattle.objects.specs.Numbers.{count_of, four_at, numbers_at}
use Rattle.objects.specs.declared.counted.Counted.{Counted}
use Rattle.objects.proofs.NumbersAt.{no_numbers, one_more}

abbrev pub weight : ℕ → ℕ
weight n = cond (not (nat_eq n 0)) 1 0

pub some_more : (number : ℕ) → (number ≡ 0 → ⊥) → weight number ≡ 1
some_more number some = ap (λ b. cond (not b) 1 0) (ne_eqb number 0 some)

pub none_more : (number : ℕ) → number ≡ 0 → weight number ≡ 0
none_more number none = ap (λ b. cond (not b) 1 0) (eq-eqb number 0 none)

-- a number that isn't 0 stands within the list
pub stands : (xs : List ℕ) (index number : ℕ) → 0 < number → get_or xs index 0 ≡ number → index < length xs
stands xs index number some is =
    elim (cases_lt index (length xs)) as (λ _. index < length xs) [
      | inl less ↦ less
      | inr past ↦ let none = get_or-eq_default xs 0 past in absurd (omega (arith, none, some, is))
    ]

module _ (xs : List ℕ) (number : ℕ) where
  among_more : (one : ℕ) → IsAmong xs one → IsAmong (xs ++ number ∷ []) one
  among_more one among = (
    among.0,
    among.1,
    get_or_append_left xs (number ∷ []) 0 among.1 (stands xs among.1 one among.0 among.2) ∙ among.2,
  )

  among_last : 0 < number → IsAmong (xs ++ number ∷ []) number
  among_last some = (some, length xs, get_or_push xs number 0 (length xs) refl)

  -- what is an end of the numbers before, or the number behind them, is an end of all
  end_more : (none before after : ℕ) → (before ≡ none) ⊎ IsAmong xs before
      → (after ≡ before) ⊎ ((0 < number) × (after ≡ number)) → (after ≡ none) ⊎ IsAmong (xs ++ number ∷ []) after
  end_more none before after was is =
      elim is as (λ _. (after ≡ none) ⊎ IsAmong (xs ++ number ∷ []) after) [
        | inl same ↦
            elim was as (λ _. (after ≡ none) ⊎ IsAmong (xs ++ number ∷ []) after) [
              | inl free ↦ inl (same ∙ free)
              | inr among ↦ inr (subst (IsAmong (xs ++ number ∷ [])) (sym same) (among_more before among))
            ]
        | inr last ↦ inr (subst (IsAmong (xs ++ number ∷ [])) (sym last.1) (among_last last.0))
      ]

  -- the count of the numbers with one behind them
  pub counted_behind : (before after : Counted) → IsCounted xs before → after.count ≡ before.count + weight number
      → after.least ≤ before.least → (0 < number → after.least ≤ number)
      → (after.least ≡ before.least) ⊎ ((0 < number) × (after.least ≡ number))
      → before.greatest ≤ after.greatest → number ≤ after.greatest
      → (after.greatest ≡ before.greatest) ⊎ ((0 < number) × (after.greatest ≡ number))
      → IsCounted (xs ++ number ∷ []) after
  counted_behind before after was count low lower least high higher greatest = record {
    count =
        let both = sum_by-append weight xs (number ∷ []) in
        let one = sum_by-cons weight number [] in
        let sum = was.count in
        omega (arith, both, one, sum, count);
    within = λ index some.
        elim (cases_lt index (length xs)) as (λ _. (after.least ≤ get_or (xs ++ number ∷ []) index 0)
        × (get_or (xs ++ number ∷ []) index 0 ≤ after.greatest)) [
          | inl less ↦
              let same = get_or_append_left xs (number ∷ []) 0 index less in
              let lies = was.within index (omega (arith, some, same)) in
              (let from = lies.0 in omega (arith, from, same, low), let to = lies.1 in omega (arith, to, same, high))
          | inr past ↦
              let long = length_push xs number in
              let there : index < length (xs ++ number ∷ []) = stands (xs ++ number ∷ []) index _ some refl in
              let last : index ≡ length xs = omega (arith, past, there, long) in
              let same = get_or_push xs number 0 index (sym last) in
              let from = lower (omega (arith, some, same)) in
              (omega (arith, from, same), omega (arith, same, higher))
        ];
    least = end_more (2 ^ 32 - 1) before.least after.least was.least least;
    greatest = end_more 0 before.greatest after.greatest was.greatest greatest;
  }

pub none_yet : (bytes : List ℕ) (counted : Counted) → counted.count ≡ 0 → counted.least ≡ 2 ^ 32 - 1
    → counted.greatest ≡ 0 → IsCounted (numbers_at 0 0 bytes) counted
none_yet bytes counted count least greatest =
    subst (λ (xs : List ℕ). IsCounted xs counted) (sym (no_numbers 0 bytes)) (record {
      count = count;
      within = λ index some. absurd (omega (arith, some));
      least = inl least;
      greatest = inl greatest;
    })

-- the count of the numbers in a block with one more
pub one_behind : (index number : ℕ) (bytes : List ℕ) (before after : Counted) → number ≡ four_at (4 * index) bytes
    → IsCounted (numbers_at index 0 bytes) before → after.count ≡ before.count + weight number
    → after.least ≤ before.least → (0 < number → after.least ≤ number)
    → (after.least ≡ before.least) ⊎ ((0 < number) × (after.least ≡ number))
    → before.greatest ≤ after.greatest → number ≤ after.greatest
    → (after.greatest ≡ before.greatest) ⊎ ((0 < number) × (after.greatest ≡ number))
    → IsCounted (numbers_at (index + 1) 0 bytes) after
one_behind index number bytes before after is was count low lower least high higher greatest =
    subst (λ (xs : List ℕ). IsCounted xs after)
    (ap (λ n. numbers_at index 0 bytes ++ n ∷ []) is ∙ sym (one_more index bytes))
    (counted_behind (numbers_at index 0 bytes) number before after was count low lower least high higher greatest)
