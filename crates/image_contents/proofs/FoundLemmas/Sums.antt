-- How often a number is in lists, one for each of a range.
use Rattle.std.proofs.Common.{◌≡◌, ℕ, zero, suc, ◌+◌, ◌<◌, ◌≤◌, inl, inr, sym, ap, ◌∙◌, refl, Bool, true, false, cond}
use Rattle.std.proofs.Common.{List, [], ◌∷◌, ◌++◌, count_by, nat_eq, sum_by, arith}
use Rattle.std.specs.List.{flat_map, range_with_len}
use Rattle.std.proofs.lemmas.Bool.{cases_eq, eq-eqb, ne_eqb}
use Rattle.std.proofs.lemmas.List.Sums.{sum_by-append, sum_by-cons}
use Rattle.bitmap.proofs.Ranges.{nothing, one_if, same_sums}
use Rattle.image_read.specs.ImageCounts.Tally.{times}

pub same_flat : (f h : ℕ → List ℕ) (a k : ℕ) → ((n : ℕ) → n < a + k → f n ≡ h n)
    → flat_map f (range_with_len a k) ≡ flat_map h (range_with_len a k)
same_flat f h a zero same = refl
same_flat f h a (suc k) same =
    let here = same a (omega arith) in
    let rest = same_flat f h (a + 1) k (λ n less. same n (omega (arith, less))) in
    λ i. here i ++ rest i

-- the sum of what counts at one number alone
none_at : (p : ℕ) (h : ℕ → ℕ) (a k : ℕ) → (p < a)
    → sum_by (λ n. cond (nat_eq p n) (h n) 0) (range_with_len a k) ≡ 0
none_at p h a k less =
    same_sums (λ n. cond (nat_eq p n) (h n) 0) (λ n. 0) a k
    (λ n from to. ap (λ b. cond b (h n) 0) (ne_eqb p n (λ is. omega (arith, is, less, from))))
    ∙ nothing (range_with_len a k)

pub none_past : (p : ℕ) (h : ℕ → ℕ) (a k : ℕ) → a + k ≤ p
    → sum_by (λ n. cond (nat_eq p n) (h n) 0) (range_with_len a k) ≡ 0
none_past p h a k past =
    same_sums (λ n. cond (nat_eq p n) (h n) 0) (λ n. 0) a k
    (λ n from to. ap (λ b. cond b (h n) 0) (ne_eqb p n (λ is. omega (arith, is, past, to))))
    ∙ nothing (range_with_len a k)

pub one_at : (p : ℕ) (h : ℕ → ℕ) (a k : ℕ) → a ≤ p → p < a + k
    → sum_by (λ n. cond (nat_eq p n) (h n) 0) (range_with_len a k) ≡ h p
one_at p h a zero from to = absurd (omega (arith, from, to))
one_at p h a (suc k) from to =
    let all = sum_by-cons (λ n. cond (nat_eq p n) (h n) 0) a (range_with_len (a + 1) k) in
    elim (cases_eq a p) [
      | inl is ↦
          let here : cond (nat_eq p a) (h a) 0 ≡ h p =
          ap (λ b. cond b (h a) 0) (eq-eqb p a (sym is)) ∙ ap h is in
          let rest = none_at p h (a + 1) k (omega (arith, is)) in
          omega (arith, all, here, rest)
      | inr other ↦
          let here : cond (nat_eq p a) (h a) 0 ≡ 0 = ap (λ b. cond b (h a) 0) (ne_eqb p a (λ is. other (sym is))) in
          let rest = one_at p h (a + 1) k (past a p from other) (omega (arith, to)) in
          omega (arith, all, here, rest)
    ]
  where
    past : (a x : ℕ) → a ≤ x → (a ≡ x → ⊥) → a + 1 ≤ x
    past a x from other = omega (arith, from, other)

-- a list of those that pass a test has a number as often as all, if it passes
pub passing : (p : ℕ → Bool) (xs : List ℕ) (number : ℕ)
    → times (flat_map (λ x. cond (p x) (x ∷ []) []) xs) number ≡ cond (p number) (times xs number) 0
passing p [] number = by_test (p number)
  where
    by_test : (b : Bool) → ◌≡◌ {A = ℕ} 0 (cond b 0 0)
    by_test true = refl
    by_test false = refl
passing p (x ∷ xs) number =
    let rest = passing p xs number in
    let both = sum_by-append (λ n. one_if (nat_eq n number)) (cond (p x) (x ∷ []) [])
    (flat_map (λ y. cond (p y) (y ∷ []) []) xs) in
    let all = sum_by-cons (λ n. one_if (nat_eq n number)) x xs in
    let here : times (cond (p x) (x ∷ []) []) number ≡ cond (p number) (one_if (nat_eq x number)) 0 = one x in
    let parts = split (p number) (one_if (nat_eq x number)) (times xs number) in
    let whole = ap (λ k. cond (p number) k 0) all in
    omega (arith, rest, both, here, parts, whole)
  where
    split : (b : Bool) (m n : ℕ) → cond b (m + n) 0 ≡ cond b m 0 + cond b n 0
    split true m n = refl
    split false m n = refl

    chosen : (b : Bool) (x : ℕ) → times (cond b (x ∷ []) []) number ≡ cond b (one_if (nat_eq x number)) 0
    chosen true x = let all = sum_by-cons (λ n. one_if (nat_eq n number)) x [] in omega (arith, all)
    chosen false x = refl

    neither : (b : Bool) → ◌≡◌ {A = ℕ} (cond b 0 0) 0
    neither true = refl
    neither false = refl

    one : (x : ℕ) → times (cond (p x) (x ∷ []) []) number ≡ cond (p number) (one_if (nat_eq x number)) 0
    one x =
        let same : cond (p x) (one_if (nat_eq x number)) 0 ≡ cond (p number) (one_if (nat_eq x number)) 0 =
        elim (cases_eq x number) [
          | inl is ↦ ap (λ n. cond (p n) (one_if (nat_eq x number)) 0) is
          | inr other ↦
              ap (λ b. cond (p x) (one_if b) 0) (ne_eqb x number other) ∙ neither (p x)
              ∙ sym (ap (λ b. cond (p number) (one_if b) 0) (ne_eqb x number other) ∙ neither (p number))
        ] in
        chosen (p x) x ∙ same

-- a list with one number for each that passes has it so often, and no other
pub standing_for : (p : ℕ → Bool) (one : ℕ) (xs : List ℕ) (number : ℕ)
    → times (flat_map (λ x. cond (p x) (one ∷ []) []) xs) number ≡ cond (nat_eq one number) (count_by p xs) 0
standing_for p one [] number = by_test (nat_eq one number)
  where
    by_test : (b : Bool) → ◌≡◌ {A = ℕ} 0 (cond b 0 0)
    by_test true = refl
    by_test false = refl
standing_for p one (x ∷ xs) number =
    let rest = standing_for p one xs number in
    let both = sum_by-append (λ n. one_if (nat_eq n number)) (cond (p x) (one ∷ []) [])
    (flat_map (λ y. cond (p y) (one ∷ []) []) xs) in
    let all = sum_by-cons (λ y. one_if (p y)) x xs in
    let here = first (p x) in
    let parts = split (nat_eq one number) (one_if (p x)) (count_by p xs) in
    let whole = ap (λ k. cond (nat_eq one number) k 0) all in
    omega (arith, rest, both, here, parts, whole)
  where
    split : (b : Bool) (m n : ℕ) → cond b (m + n) 0 ≡ cond b m 0 + cond b n 0
    split true m n = refl
    split false m n = refl

    either : (b : Bool) → one_if b ≡ cond b 1 0
    either true = refl
    either false = refl

    neither : (b : Bool) → ◌≡◌ {A = ℕ} 0 (cond b 0 0)
    neither true = refl
    neither false = refl

    first : (b : Bool) → times (cond b (one ∷ []) []) number ≡ cond (nat_eq one number) (one_if b) 0
    first true =
        let all = sum_by-cons (λ n. one_if (nat_eq n number)) one [] in
        let same = either (nat_eq one number) in
        omega (arith, all, same)
    first false = neither (nat_eq one number)
