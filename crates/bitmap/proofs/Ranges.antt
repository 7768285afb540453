-- Sums over a range of numbers.
use Rattle.std.proofs.Common.{◌≡◌, ℕ, zero, suc, ◌+◌, ◌-◌, ◌<◌, ◌≤◌, inl, inr, sym, ap, ◌∙◌, refl, Bool, true, false}
use Rattle.std.proofs.Common.{cond, List, [], ◌∷◌, length, nat_eq, nat_lt, sum_by, count_by, arith}
use Rattle.std.specs.List.{AllByRecursion, range_with_len}
use Rattle.std.proofs.lemmas.Bool.{cases_eq, eq-eqb, lt-ltb, ltb-false, ltb-true, ne_eqb}
use Rattle.std.proofs.lemmas.List.Sums.{sum_by-cons}

module _ (f h : ℕ → ℕ) where
  -- sums of what is the same at each number
  pub same_sums : (a k : ℕ) → ((n : ℕ) → a ≤ n → n < a + k → f n ≡ h n)
      → sum_by f (range_with_len a k) ≡ sum_by h (range_with_len a k)
  same_sums a zero same = refl
  same_sums a (suc k) same =
      let here = same a (omega arith) (omega arith) in
      let rest = same_sums (a + 1) k (λ n from to. same n (omega (arith, from)) (omega (arith, to))) in
      omega (
        arith,
        here,
        rest,
        sum_by-cons f a (range_with_len (a + 1) k),
        sum_by-cons h a (range_with_len (a + 1) k),
      )

  pub both_sums : (xs : List ℕ) → sum_by (λ n. f n + h n) xs ≡ sum_by f xs + sum_by h xs
  both_sums [] = refl
  both_sums (x ∷ xs) =
      let rest = both_sums xs in
      omega (arith, rest, sum_by-cons f x xs, sum_by-cons h x xs, sum_by-cons (λ n. f n + h n) x xs)

-- one number more
pub one_more : (f : ℕ → ℕ) (a k : ℕ)
    → sum_by f (range_with_len a (suc k)) ≡ sum_by f (range_with_len a k) + f (a + k)
one_more f a zero =
    let first = sum_by-cons f a [] in
    let at : f a ≡ f (a + 0) = ap f (omega arith) in
    omega (arith, first, at)
one_more f a (suc k) =
    let rest = one_more f (a + 1) k in
    let at : f (a + 1 + k) ≡ f (a + suc k) = ap f (omega arith) in
    omega (
      arith,
      rest,
      at,
      sum_by-cons f a (range_with_len (a + 1) (suc k)),
      sum_by-cons f a (range_with_len (a + 1) k),
    )

-- a sum over a range in two parts, and over its first numbers
abbrev pub sum_from : (ℕ → ℕ) → ℕ → ℕ → ℕ
sum_from f a k = sum_by f (range_with_len a k)

pub parted : (f : ℕ → ℕ) (a k m : ℕ) → sum_from f a (k + m) ≡ sum_from f a k + sum_from f (a + k) m
parted f a zero m =
    let none : sum_from f a 0 ≡ 0 = refl in
    let count : 0 + m ≡ m = omega arith in
    let from : a ≡ a + 0 = omega arith in
    let all : sum_from f a (0 + m) ≡ sum_from f a m = ap (sum_from f a) count in
    let last : sum_from f a m ≡ sum_from f (a + 0) m = ap (λ n. sum_from f n m) from in
    omega (arith, none, all, last)
parted f a (suc k) m =
    let rest = parted f (a + 1) k m in
    let count : suc k + m ≡ suc (k + m) = omega arith in
    let from : a + 1 + k ≡ a + suc k = omega arith in
    let all : sum_from f a (suc k + m) ≡ sum_from f a (suc (k + m)) = ap (sum_from f a) count in
    let one : sum_from f a (suc (k + m)) ≡ f a + sum_from f (a + 1) (k + m) =
    sum_by-cons f a (range_with_len (a + 1) (k + m)) in
    let first : sum_from f a (suc k) ≡ f a + sum_from f (a + 1) k = sum_by-cons f a (range_with_len (a + 1) k) in
    let last : sum_from f (a + 1 + k) m ≡ sum_from f (a + suc k) m = ap (λ n. sum_from f n m) from in
    omega (arith, rest, all, one, first, last)

pub beginning : (f : ℕ → ℕ) (a k n : ℕ) → k ≤ n → sum_from f a k ≤ sum_from f a n
beginning f a k n less =
    let both = parted f a k (n - k) in
    let count : k + (n - k) ≡ n = omega (arith, less) in
    let all : sum_from f a (k + (n - k)) ≡ sum_from f a n = ap (sum_from f a) count in
    omega (arith, both, all)

-- what is before a number, and what is from it on
pub in_two : (f : ℕ → ℕ) (start all : ℕ) → start ≤ all
    → sum_from f 0 all ≡ sum_from f 0 start + sum_from f start (all - start)
in_two f start all less =
    let both = parted f 0 start (all - start) in
    let count : start + (all - start) ≡ all = omega (arith, less) in
    let offsets_agree : 0 + start ≡ start = omega arith in
    let whole : sum_from f 0 (start + (all - start)) ≡ sum_from f 0 all = ap (sum_from f 0) count in
    let from : sum_from f (0 + start) (all - start) ≡ sum_from f start (all - start) =
    ap (λ n. sum_from f n (all - start)) offsets_agree in
    omega (arith, both, whole, from)

pub nothing : (xs : List ℕ) → sum_by (λ n. 0) xs ≡ 0
nothing [] = refl
nothing (x ∷ xs) = let rest = nothing xs in omega (arith, rest, sum_by-cons (λ n. 0) x xs)

-- how many numbers of a range are below a bound
abbrev pub one_if : Bool → ℕ
one_if b = cond b 1 0

abbrev pub is_below : ℕ → ℕ → ℕ
is_below bound n = one_if (nat_lt n bound)

pub counts_below : (bound k : ℕ) → ((bound ≤ k → sum_by (is_below bound) (range_with_len 0 k) ≡ bound)
    × (k ≤ bound → sum_by (is_below bound) (range_with_len 0 k) ≡ k))
counts_below bound zero = (λ less. omega (arith, less), λ less. refl)
counts_below bound (suc k) =
    let more : sum_by (is_below bound) (range_with_len 0 (suc k))
    ≡ sum_by (is_below bound) (range_with_len 0 k) + is_below bound k =
    one_more (is_below bound) 0 k ∙ ap (λ n. sum_by (is_below bound) (range_with_len 0 k) + is_below bound n)
    (omega arith) in
    let before = counts_below bound k in (
      λ less. last (nat_lt k bound) refl less before more,
      λ less.
          let all = before.1 (omega (arith, less)) in
          let here = ap one_if (lt-ltb k bound (omega (arith, less))) in
          omega (arith, more, all, here),
    )
  where
    last : (b : Bool) → nat_lt k bound ≡ b → bound ≤ suc k
        → ((bound ≤ k → sum_by (is_below bound) (range_with_len 0 k) ≡ bound)
        × (k ≤ bound → sum_by (is_below bound) (range_with_len 0 k) ≡ k))
        → sum_by (is_below bound) (range_with_len 0 (suc k))
        ≡ sum_by (is_below bound) (range_with_len 0 k) + is_below bound k
        → sum_by (is_below bound) (range_with_len 0 (suc k)) ≡ bound
    last true e less before more =
        let here = ap one_if e in
        let under : k < bound = ltb-true k bound e in
        let all = before.1 (omega (arith, under)) in
        omega (arith, here, all, more, less, under)
    last false e less before more =
        let here = ap one_if e in
        let past : bound ≤ k = ltb-false k bound e in
        let all = before.0 past in
        omega (arith, here, all, more)

-- ---- each element of a list is met at one number

abbrev hit : ℕ → ℕ → ℕ
hit x n = one_if (nat_eq x n)

hit_none : (x n : ℕ) → (x ≡ n → ⊥) → hit x n ≡ 0
hit_none x n other = ap one_if (ne_eqb x n other)

hit_one : (x : ℕ) → hit x x ≡ 1
hit_one x = ap one_if (eq-eqb x x refl)

none_before : (x a k : ℕ) → x < a → sum_by (hit x) (range_with_len a k) ≡ 0
none_before x a k less =
    same_sums (hit x) (λ n. 0) a k (λ n from to. hit_none x n (λ is. omega (arith, is, less, from)))
    ∙ nothing (range_with_len a k)

hit_once : (x a k : ℕ) → a ≤ x → x < a + k → sum_by (hit x) (range_with_len a k) ≡ 1
hit_once x a zero from to = absurd (omega (arith, from, to))
hit_once x a (suc k) from to =
    let all = sum_by-cons (hit x) a (range_with_len (a + 1) k) in
    elim (cases_eq a x) [
      | inl is ↦
          let here : hit x a ≡ 1 = ap (hit x) is ∙ hit_one x in
          let rest = none_before x (a + 1) k (omega (arith, is)) in
          omega (arith, all, here, rest)
      | inr other ↦
          let here = hit_none x a (λ is. other (sym is)) in
          let rest = hit_once x (a + 1) k (past a x from other) (omega (arith, to)) in
          omega (arith, all, here, rest)
    ]
  where
    past : (a x : ℕ) → a ≤ x → (a ≡ x → ⊥) → a + 1 ≤ x
    past a x from other = omega (arith, from, other)

abbrev pub times : List ℕ → ℕ → ℕ
times xs n = count_by (λ one. nat_eq one n) xs

-- as often as any number below a bound is in a list of such numbers, so long it is
pub met_once : (k : ℕ) (xs : List ℕ) → AllByRecursion (λ x. x < k) xs
    → sum_by (times xs) (range_with_len 0 k) ≡ length xs
met_once k [] below = nothing (range_with_len 0 k)
met_once k (x ∷ xs) below =
    let parts = same_sums (times (x ∷ xs)) (λ n. hit x n + times xs n) 0 k (λ n from to.
    sum_by-cons (λ one. cond (nat_eq one n) 1 0) x xs) in
    let both = both_sums (hit x) (times xs) (range_with_len 0 k) in
    let one = hit_once x 0 k (omega arith) (omega (arith, below.0)) in
    let rest = met_once k xs below.1 in
    omega (arith, parts, both, one, rest)
