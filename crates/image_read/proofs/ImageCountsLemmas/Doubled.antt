-- Steps, doubled, and as many as there are numbers.
use Rattle.std.proofs.Common.{◌≡◌, ℕ, zero, suc, ◌+◌, ◌-◌, ◌^◌, ◌<◌, ◌≤◌, sym, ap, ◌∙◌, refl, inl, inr, ◌⊎◌, arith}
use Rattle.std.proofs.Common.{cond, nat_lt, List, length}
use Rattle.std.proofs.lemmas.Bool.{cases_eq, cases_lt, le-ltb, lt-ltb}
use Rattle.std.proofs.Math.Nat.{two-pow-succ}
use Rattle.image_read.specs.ImageCounts.Iterated.{AreIterated, in_list, iterated}

-- ---- steps behind steps

module _ (next : ℕ → ℕ) where
  pub none : (n : ℕ) → iterated next 0 n ≡ n
  unfolding iterated
  none n = refl

  pub one : (n : ℕ) → iterated next 1 n ≡ next n
  unfolding iterated
  one n = refl

  pub iterated_sum : (a b n : ℕ) → iterated next (a + b) n ≡ iterated next b (iterated next a n)
  unfolding iterated
  iterated_sum zero b n = let same : 0 + b ≡ b = omega arith in ap (λ k. iterated next k n) same
  iterated_sum (suc a) b n =
      let same : suc a + b ≡ suc (a + b) = omega arith in
      ap (λ k. iterated next k n) same ∙ iterated_sum a b (next n)

  pub iterated_within : (size : ℕ) → ((n : ℕ) → n < size → next n < size) → (steps n : ℕ) → n < size
      → iterated next steps n < size
  unfolding iterated
  iterated_within size within zero n less = less
  iterated_within size within (suc steps) n less = iterated_within size within steps (next n) (within n less)

  -- from a number that leads to itself no steps lead away
  pub stays : (root : ℕ) → next root ≡ root → (steps : ℕ) → iterated next steps root ≡ root
  unfolding iterated
  stays root same zero = refl
  stays root same (suc steps) = ap (iterated next steps) same ∙ stays root same steps

-- ---- numbers below a bound, no two of which are one, are no more than there are

abbrev squeezed : (ℕ → ℕ) → ℕ → ℕ → ℕ
squeezed f v i = cond (nat_lt (f i) v) (f i) (f i - 1)

-- a number is before another or behind it, and is squeezed so
side : (x v : ℕ) → (x ≡ v → ⊥)
    → ((x < v) × (cond (nat_lt x v) x (x - 1) ≡ x)) ⊎ ((v < x) × (cond (nat_lt x v) x (x - 1) ≡ x - 1))
side x v not = elim (cases_lt x v) [
  | inl less ↦ inl (less, ap (λ b. cond b x (x - 1)) (lt-ltb x v less))
  | inr past ↦ inr (behind x v not past, ap (λ b. cond b x (x - 1)) (le-ltb x v past))
]
  where
    behind : (x v : ℕ) → (x ≡ v → ⊥) → v ≤ x → v < x
    behind x v not past = omega (arith, past, not)

abbrev pub Apart : (ℕ → ℕ) → ℕ → Type 0
Apart f n = (i j : ℕ) → i < j → j < n → f i ≡ f j → ⊥

pub no_more : (n m : ℕ) (f : ℕ → ℕ) → ((i : ℕ) → i < n → f i < m) → Apart f n → n ≤ m
no_more zero m f into apart = omega arith
no_more (suc n) zero f into apart = absurd (let some = into n (omega arith) in omega (arith, some))
no_more (suc n) (suc m) f into apart =
    let rest = no_more n m (squeezed f (f n)) within still in omega (arith, rest)
  where
    other : (i : ℕ) → i < n → f i ≡ f n → ⊥
    other i less = apart i n less (omega arith)

    within : (i : ℕ) → i < n → squeezed f (f n) i < m
    within i less =
        let here = into i (omega (arith, less)) in
        let last = into n (omega arith) in
        elim (side (f i) (f n) (other i less)) [
          | inl w ↦ omega (arith, here, last, w.0, w.1)
          | inr w ↦ omega (arith, here, last, w.0, w.1)
        ]

    still : Apart (squeezed f (f n)) n
    still i j before less same =
        elim (side (f i) (f n) (other i (omega (arith, before, less)))) [
          | inl v ↦ (elim (side (f j) (f n) (other j less)) [
            | inl w ↦ apart i j before (omega (arith, less)) (sym v.1 ∙ same ∙ w.1)
            | inr w ↦ omega (arith, same, v.0, v.1, w.0, w.1)
          ])
          | inr v ↦ (elim (side (f j) (f n) (other j less)) [
            | inl w ↦ omega (arith, same, v.0, v.1, w.0, w.1)
            | inr w ↦ apart i j before (omega (arith, less))
                (let back = sym v.1 ∙ same ∙ w.1 in omega (arith, back, v.0, w.0))
          ])
        ]

-- ---- the first step that leads to a number

module _ (next : ℕ → ℕ) (root from : ℕ) where
  -- none before leads there
  abbrev IsFirst : ℕ → Type 0
  IsFirst steps = (iterated next steps from ≡ root) × ((less : ℕ) → less < steps → iterated next less from ≡ root → ⊥)

  first_below : (bound : ℕ) → ((first : ℕ) × (first < bound) × IsFirst first)
      ⊎ ((less : ℕ) → less < bound → iterated next less from ≡ root → ⊥)
  first_below zero = inr (λ less low. absurd (omega (arith, low)))
  first_below (suc bound) = elim (first_below bound) [
    | inl (first, low, is) ↦ inl (first, omega (arith, low), is)
    | inr none ↦ (elim (cases_eq (iterated next bound from) root) [
      | inl is ↦ inl (bound, omega arith, (is, none))
      | inr isnt ↦ inr (λ less low e. elim (cases_lt less bound) [
        | inl under ↦ none less under e
        | inr past ↦ isnt (ap (λ k. iterated next k from) (same less bound low past) ∙ e)
      ])
    ])
  ]
    where
      same : (less bound : ℕ) → less < suc bound → bound ≤ less → bound ≡ less
      same less bound low past = omega (arith, low, past)

  first_of : (steps : ℕ) → iterated next steps from ≡ root → (first : ℕ) × IsFirst first
  first_of steps there = elim (first_below (suc steps)) [
    | inl (first, low, is) ↦ (first, is)
    | inr none ↦ absurd (none steps (omega arith) there)
  ]

  module _ (size : ℕ) (within : (n : ℕ) → n < size → next n < size) (inside : from < size) where
    -- two that lead to one number, the second of which is no later than the first step to the root
    not_two : (first : ℕ) → IsFirst first → (i j : ℕ) → i < j → j ≤ first
        → iterated next i from ≡ iterated next j from → ⊥
    not_two first is i j less late same =
        let left : ℕ = first - j in
        let back : i + left < first = omega (arith, less, late) in
        let whole : j + left ≡ first = omega (arith, late) in
        is.1 (i + left) back
        (iterated_sum next i left from ∙ ap (iterated next left) same ∙ sym (iterated_sum next j left from)
        ∙ ap (λ k. iterated next k from) whole ∙ is.0)

    -- the first step to the root is one of as many as there are numbers
    soon : (first : ℕ) → IsFirst first → first < size
    soon first is =
        let few = no_more (suc first) size (λ k. iterated next k from)
        (λ k low. iterated_within next size within k from inside)
        (λ i j before low same. not_two first is i j before (omega (arith, low)) same) in
        omega (arith, few)

    -- where steps lead to the root, which leads to itself, so do as many steps as there are numbers, or more
    pub there_by : next root ≡ root → (steps : ℕ) → iterated next steps from ≡ root → (furthest : ℕ) → size ≤ furthest
        → iterated next furthest from ≡ root
    there_by fixed steps there furthest past =
        let found = first_of steps there in
        let first = found.0 in
        let low = soon first found.1 in
        let rest : first + (furthest - first) ≡ furthest = omega (arith, low, past) in
        sym (ap (λ k. iterated next k from) rest) ∙ iterated_sum next first (furthest - first) from
        ∙ ap (iterated next (furthest - first)) found.1.0 ∙ stays next root fixed (furthest - first)

-- ---- what is known after a doubling

pub first_iterated : (next : List ℕ) → AreIterated 1 next next
first_iterated next index_within less = sym (one (in_list next) index_within)

pub twice_iterated : (next furthest twice : List ℕ) (steps : ℕ)
    → ((index_within : ℕ) → index_within < length next → in_list next index_within < length next)
    → AreIterated steps next furthest
    → ((index_within : ℕ) → index_within < length next → in_list twice index_within ≡ in_list furthest (in_list furthest index_within))
    → AreIterated (steps + steps) next twice
twice_iterated next furthest twice steps within iterated_to doubles index_within less =
    let there = iterated_to index_within less in
    let low = iterated_within (in_list next) (length next) within steps index_within less in
    doubles index_within less ∙ ap (in_list furthest) there ∙ iterated_to (iterated (in_list next) steps index_within) low
    ∙ sym (iterated_sum (in_list next) steps steps index_within)

pub doubled_power : (n : ℕ) → 2 ^ n + 2 ^ n ≡ 2 ^ (n + 1)
doubled_power n = let next : n + 1 ≡ suc n = omega arith in sym (ap (λ k. 2 ^ k) next ∙ two-pow-succ n)
