-- The first of some numbers, with zeros for the others.
use Rattle.std.proofs.Common.{◌≡◌, ℕ, zero, suc, ◌+◌, ◌-◌, ◌<◌, ◌≤◌, min, inl, inr, sym, ap, ◌∙◌, refl, Bool, true}
use Rattle.std.proofs.Common.{false, cond, not, ◌||◌, List, [], ◌∷◌, ◌++◌, length, take, drop, replicate, nat_eq}
use Rattle.std.proofs.Common.{count_by, filter, length-append, append-nil, arith}
use Rattle.std.proofs.lemmas.Bool.{cases_lt}
use Rattle.std.proofs.lemmas.Bool.Decides.{nat_tests}
use Rattle.std.proofs.lemmas.List.{length-replicate, take-append-drop, take_all}
use Rattle.std.proofs.lemmas.List.Elements.{filter-append}
use Rattle.std.proofs.lemmas.List.Sums.{sum_by-append, sum_by-cons}
use Rattle.inode_sizes.specs.Cut.{first_of, has_some, is_some, left_over, lost, one_of}
use Rattle.inode_sizes.specs.Doubles.{times}

pub more_zeros : (a b : ℕ) → replicate {A = ℕ} a 0 ++ replicate b 0 ≡ replicate (a + b) 0
more_zeros zero b = ap (λ k. replicate {A = ℕ} k 0) (omega arith)
more_zeros (suc a) b = ap (λ l. 0 ∷ l) (more_zeros a b) ∙ ap (λ k. replicate {A = ℕ} k 0) there
  where
    there : suc (a + b) ≡ suc a + b
    there = omega arith

-- ---- where none of them stays, and where one more does

pub first_nil : (k : ℕ) → first_of k [] ≡ []
first_nil zero = refl
first_nil (suc k) = ap (λ m. replicate {A = ℕ} m 0) none
  where
    none : 0 - suc k ≡ 0
    none = omega arith

first_none : (l : List ℕ) → first_of 0 l ≡ replicate (length l) 0
first_none l = ap (λ m. replicate {A = ℕ} m 0) all
  where
    all : length l - 0 ≡ length l
    all = omega arith

first_cons : (k x : ℕ) (l : List ℕ) → first_of (suc k) (x ∷ l) ≡ x ∷ first_of k l
first_cons k x l = ap (λ m. x ∷ (take k l ++ replicate {A = ℕ} m 0)) left
  where
    left : suc (length l) - suc k ≡ length l - k
    left = omega arith

pub first-length : (k : ℕ) (l : List ℕ) → length (first_of k l) ≡ length l
first-length k [] = ap (λ (l : List ℕ). length l) (first_nil k)
first-length zero (x ∷ l) =
    ap (λ (l : List ℕ). length l) (first_none (x ∷ l)) ∙ length-replicate {A = ℕ} (length (x ∷ l)) 0
first-length (suc k) (x ∷ l) = ap (λ (l : List ℕ). length l) (first_cons k x l) ∙ ap suc (first-length k l)

-- ---- of two lists, one behind the other

pub first_both : (k : ℕ) (a b : List ℕ) → first_of k (a ++ b) ≡ first_of k a ++ first_of (k - length a) b
first_both k [] b = λ i. sym (first_nil k) i ++ first_of (sym none i) b
  where
    none : k - 0 ≡ k
    none = omega arith
first_both zero (x ∷ a) b =
    first_none (x ∷ (a ++ b)) ∙ ap (λ n. replicate {A = ℕ} n 0) (length-append (x ∷ a) b)
    ∙ sym (more_zeros (length (x ∷ a)) (length b))
    ∙ (λ i. sym (first_none (x ∷ a)) i ++ (sym (first_none b) ∙ ap (λ n. first_of n b) none) i)
  where
    none : 0 ≡ 0 - length (x ∷ a)
    none = omega arith
first_both (suc k) (x ∷ a) b =
    first_cons k x (a ++ b) ∙ ap (λ l. x ∷ l) (first_both k a b)
    ∙ (λ i. sym (first_cons k x a) i ++ first_of (left i) b)
  where
    left : k - length a ≡ suc k - length (x ∷ a)
    left = omega arith

-- ---- of fewer numbers than that

pub first_all : (k : ℕ) (l : List ℕ) → length l ≤ k → first_of k l ≡ l
first_all k l most =
    (λ i. take_all k l most i ++ replicate {A = ℕ} (none i) 0) ∙ append-nil l
  where
    none : length l - k ≡ 0
    none = omega (arith, most)

pub first_min : (k : ℕ) (l : List ℕ) → first_of (min k (length l)) l ≡ first_of k l
first_min k l = elim (cases_lt k (length l)) [
  | inl less ↦ ap (λ n. first_of n l) (few less)
  | inr past ↦ ap (λ n. first_of n l) (many past) ∙ first_all (length l) l (omega arith) ∙ sym (first_all k l past)
]
  where
    few : k < length l → min k (length l) ≡ k
    few less = omega (arith, less)

    many : length l ≤ k → min k (length l) ≡ length l
    many past = omega (arith, past)

-- ---- those of blocks

no_zeros : (n : ℕ) → filter is_some (replicate n 0) ≡ []
no_zeros zero = refl
no_zeros (suc n) = no_zeros n

no_some_zeros : (n : ℕ) → has_some (replicate n 0) ≡ false
no_some_zeros zero = refl
no_some_zeros (suc n) = no_some_zeros n

no_first : (a b : Bool) → (a || b) ≡ false → (a ≡ false) × (b ≡ false)
no_first true b e = cc
no_first false b e = (refl, e)

-- none of the first is one where none of all is
pub none_first : (k : ℕ) (l : List ℕ) → has_some l ≡ false → has_some (first_of k l) ≡ false
none_first k [] none = ap has_some (first_nil k)
none_first zero (x ∷ l) none = ap has_some (first_none (x ∷ l)) ∙ no_some_zeros (length (x ∷ l))
none_first (suc k) (x ∷ l) none =
    let both = no_first (is_some x) (has_some l) none in
    ap has_some (first_cons k x l) ∙ (λ i. both.0 i || none_first k l both.1 i)

pub none_dropped : (k : ℕ) (l : List ℕ) → has_some l ≡ false → filter is_some (drop k l) ≡ []
none_dropped k [] none = nil k
  where
    nil : (k : ℕ) → filter is_some (drop k []) ≡ []
    nil zero = refl
    nil (suc k) = refl
none_dropped zero (x ∷ l) none =
    let both = no_first (is_some x) (has_some l) none in
    ap (λ t. cond t (x ∷ filter is_some l) (filter is_some l)) both.0 ∙ none_dropped zero l both.1
none_dropped (suc k) (x ∷ l) none = none_dropped k l (no_first (is_some x) (has_some l) none).1

-- so many of them are, or none
pub count_first : (x : ℕ) (l : List ℕ) → count_by is_some (x ∷ l) ≡ one_of x + count_by is_some l
count_first x l = sum_by-cons (λ (n : ℕ). cond (is_some n) 1 0) x l

pub count_both : (a b : List ℕ) → count_by is_some (a ++ b) ≡ count_by is_some a + count_by is_some b
count_both a b = sum_by-append (λ (n : ℕ). cond (is_some n) 1 0) a b

pub count_one : (x : ℕ) → count_by is_some (x ∷ []) ≡ one_of x
count_one x = let all = count_first x [] in omega (arith, all)

not_none : (n : ℕ) → nat_eq (1 + n) 0 ≡ false
not_none n = grind (arith, nat_tests)

none_more : (n : ℕ) → nat_eq (0 + n) 0 ≡ nat_eq n 0
none_more n = ap (λ m. nat_eq m 0) same
  where
    same : 0 + n ≡ n
    same = omega arith

pub count_none : (l : List ℕ) → nat_eq (count_by is_some l) 0 ≡ not (has_some l)
count_none [] = refl
count_none (x ∷ l) = ap (λ n. nat_eq n 0) (count_first x l) ∙ by_first (is_some x) (count_by is_some l) (count_none l)
  where
    by_first : (t : Bool) (n : ℕ) → nat_eq n 0 ≡ not (has_some l)
        → nat_eq (cond t 1 0 + n) 0 ≡ not (t || has_some l)
    by_first true n rest = not_none n
    by_first false n rest = none_more n ∙ rest

pub none_counted : (l : List ℕ) → has_some l ≡ false → count_by is_some l ≡ 0
none_counted [] none = refl
none_counted (x ∷ l) none =
    let both = no_first (is_some x) (has_some l) none in
    let first = ap {B = ℕ} (λ (t : Bool). cond t 1 0) both.0 in
    let rest = none_counted l both.1 in
    let all = count_first x l in omega (arith, first, rest, all)

-- the block that holds them
pub left_over_is : (pointer : ℕ) (l : List ℕ) → cond (nat_eq (count_by is_some l) 0) 0 pointer ≡ left_over pointer l
left_over_is pointer l = ap (λ t. cond t 0 pointer) (count_none l) ∙ turned (has_some l)
  where
    turned : (t : Bool) → cond (not t) 0 pointer ≡ cond t pointer 0
    turned true = refl
    turned false = refl

pub lost_is : (pointer : ℕ) (l : List ℕ) → cond (nat_eq (count_by is_some l) 0) pointer 0 ≡ lost pointer l
lost_is pointer l = ap (λ t. cond t pointer 0) (count_none l) ∙ turned (has_some l)
  where
    turned : (t : Bool) → cond (not t) pointer 0 ≡ cond t 0 pointer
    turned true = refl
    turned false = refl

-- ---- how often a number is among them

pub times_both : (q : ℕ) (xs ys : List ℕ) → times q (xs ++ ys) ≡ times q xs + times q ys
times_both q xs ys =
    ap (count_by (λ one. nat_eq one q)) (filter-append is_some xs ys)
    ∙ sum_by-append (λ one. cond (nat_eq one q) 1 0) (filter is_some xs) (filter is_some ys)

pub times_first : (q x : ℕ) (xs : List ℕ) → times q (x ∷ xs) ≡ times q (x ∷ []) + times q xs
times_first q x xs = times_both q (x ∷ []) xs

pub parted : (q k : ℕ) (l : List ℕ) → times q (first_of k l) + times q (drop k l) ≡ times q l
parted q k l =
    let stay = times_both q (take k l) (replicate (length l - k) 0) in
    let none = ap (count_by (λ one. nat_eq one q)) (no_zeros (length l - k)) in
    let all = times_both q (take k l) (drop k l) in
    let whole = ap (times q) (take-append-drop k l) in
    omega (arith, stay, none, all, whole)

-- the block is kept or lost
pub left_over_or_lost : (q pointer : ℕ) (l : List ℕ)
    → times q (left_over pointer l ∷ []) + times q (lost pointer l ∷ []) ≡ times q (pointer ∷ [])
left_over_or_lost q pointer l = by_test (has_some l)
  where
    by_test : (t : Bool)
        → times q (cond t pointer 0 ∷ []) + times q (cond t 0 pointer ∷ []) ≡ times q (pointer ∷ [])
    by_test true = omega arith
    by_test false = omega arith
