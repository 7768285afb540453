-- Numbers below a count, each once.
use Rattle.std.proofs.Common.{◌≡◌, ◌≢◌, ◌<◌, ◌≤◌, ◌+◌, ◌++◌, ◌∷◌, [], ℕ, Bool, true, false, List, All, AllPairs, Contains, length, get_or, sym, refl, subst, arith, ◌∙◌, ap, eqb, true≢false}
use Rattle.std.proofs.lemmas.Bool.{eqb-true}
use Rattle.std.proofs.lemmas.Bool.Decides.{Decides-eqb}
use Rattle.std.proofs.lemmas.List.{length-append, get_or_default, map-id}
use Rattle.std.proofs.lemmas.List.Elements.{All-push}
use Rattle.std.proofs.lemmas.List.Quantifiers.{all_pairs_push}
use Rattle.std.proofs.lemmas.List.Folds.{Any-from_list_any, list_any-from_Any}
use Rattle.std.proofs.lemmas.List.FromFn.{length-range_with_len, get_or-range_with_len, map-range_with_len_more}
use Rattle.std.proofs.lemmas.Map.Made.{IsDistinct-from_AllPairs}
use Rattle.std.proofs.lemmas.Map.Steps.{length-le_from_distinct_below}
use Rattle.std.specs.List.{list_any, range_with_len}

-- no two are equal
abbrev pub AreOnce : List ℕ → Type 0
AreOnce numbers = AllPairs (λ number other. number ≢ other) numbers

-- each is below the count
abbrev pub AreBelow : ℕ → List ℕ → Type 0
AreBelow count numbers = All (λ number. number < count) numbers

-- they are at most so many
pub at_most : (numbers : List ℕ) (count : ℕ) → AreOnce numbers → AreBelow count numbers → length numbers ≤ count
at_most numbers count once below =
    length-le_from_distinct_below numbers count (IsDistinct-from_AllPairs Decides-eqb numbers once)
    (λ q found.
    let any = Any-from_list_any (eqb q) numbers found in
    let is : q ≡ any.1 = eqb-true q any.1 any.4 in
    let at : get_or numbers any.0 any.1 < count = below any.0 any.1 any.2 in
    let P : ℕ → Type 0 = λ n. n < count in
    subst P (any.3 ∙ sym is) at)

-- with one that isn't among them they stay different
pub once_more : (numbers : List ℕ) (number : ℕ) → AreOnce numbers → (Contains numbers number → ⊥)
    → AreOnce (numbers ++ number ∷ [])
once_more numbers number once absent =
    all_pairs_push (λ n other. n ≢ other) numbers number once
    (λ k d within same. absent (k, within, get_or_default numbers k number d within ∙ same))

-- where one isn't among them, they are fewer
pub fewer : (numbers : List ℕ) (count number : ℕ) → AreOnce numbers → AreBelow count numbers → number < count
    → (Contains numbers number → ⊥) → length numbers < count
fewer numbers count number once below within absent =
    let more = at_most (numbers ++ number ∷ []) count (once_more numbers number once absent)
    (All-push (λ n. n < count) numbers number below within) in
    let l = length-append numbers (number ∷ []) in
    omega (arith, more, l)

-- where they are so many, each number is among them
-- the same of the test's two answers
among : (numbers : List ℕ) (count number : ℕ) → AreOnce numbers → AreBelow count numbers → length numbers ≡ count
    → number < count → (b : Bool) → list_any (eqb number) numbers ≡ b → Contains numbers number
among numbers count number once below full within true found =
    let any = Any-from_list_any (eqb number) numbers found in
    let is : number ≡ any.1 = eqb-true number any.1 any.4 in
    (any.0, any.2, get_or_default numbers any.0 number any.1 any.2 ∙ (any.3 ∙ sym is))
among numbers count number once below full within false missed =
    let absent : Contains numbers number → ⊥ = λ has.
    let found = list_any-from_Any (eqb number) numbers (has.0, number, has.1, has.2, (Decides-eqb number number).1 refl) in
    true≢false (sym found ∙ missed) in
    let short = fewer numbers count number once below within absent in
    absurd (omega (arith, short, full))

pub all_among : (numbers : List ℕ) (count number : ℕ) → AreOnce numbers → AreBelow count numbers → length numbers ≡ count
    → number < count → Contains numbers number
all_among numbers count number once below full within =
    among numbers count number once below full within (list_any (eqb number) numbers) refl

-- all numbers below a count
pub range_once : (count : ℕ) → AreOnce (range_with_len 0 count)
range_once count = λ i j d rises within same.
    let l = length-range_with_len 0 count in
    let low = get_or-range_with_len 0 count i d (omega (arith, l)) in
    let high = get_or-range_with_len 0 count j d (omega (arith, l)) in
    omega (arith, low, high, same)

pub range_below : (count : ℕ) → AreBelow count (range_with_len 0 count)
range_below count = λ k d within.
    let l = length-range_with_len 0 count in
    let at = get_or-range_with_len 0 count k d (omega (arith, l)) in
    omega (arith, l, at)

pub range_more : (n : ℕ) → range_with_len 0 (n + 1) ≡ range_with_len 0 n ++ n ∷ []
range_more n =
    sym (map-id (range_with_len 0 (n + 1))) ∙ map-range_with_len_more (λ (x : ℕ). x) 0 n n (omega arith)
    ∙ ap (λ t. t ++ n ∷ []) (map-id (range_with_len 0 n))
