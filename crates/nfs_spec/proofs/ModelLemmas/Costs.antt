-- What files take of the data blocks: more indexes take no less, and none take none.
use Rattle.std.proofs.Common.{◌≡◌, ℕ, zero, suc, ◌+◌, ◌<◌, ◌≤◌, inl, inr, sym, ap, ◌∙◌, refl, Bool, true, false, cond, List, [], ◌∷◌, length}
use Rattle.std.proofs.Common.{count_by, arith}
use Rattle.std.specs.FinSet.{FinSet, empty, items, len, len-empty}
use Rattle.std.specs.List.{list_any, range_with_len}
use Rattle.std.specs.Ordering.{nat_cmp}
use Rattle.std.proofs.lemmas.Bool.{cases_eq}
use Rattle.std.proofs.lemmas.List.FromFn.{length-range_with_len}
use Rattle.std.proofs.lemmas.List.Sums.{sum_by-cons}
use Rattle.base.specs.declared.TheConstants.{INDIRECT_INDEXES}
use Rattle.nfs_spec.specs.Model.Cost.{file_cost, inner_cost, is_double, is_indirect, is_inner}
use Rattle.nfs_spec.proofs.ModelLemmas.Sets.{any_items, any_more, has}

pub one_more : (a b : Bool) → (a ≡ true → b ≡ true) → cond a 1 0 ≤ cond b 1 0
one_more true true h = omega arith
one_more true false h = let no = h refl in cc
one_more false true h = omega arith
one_more false false h = omega arith

counted_more : (p q : ℕ → Bool) → ((k : ℕ) → p k ≡ true → q k ≡ true) → (xs : List ℕ)
    → count_by p xs ≤ count_by q xs
counted_more p q more [] = omega arith
counted_more p q more (x ∷ xs) =
    let one = sum_by-cons (λ y. cond (p y) 1 0) x xs in
    let other = sum_by-cons (λ y. cond (q y) 1 0) x xs in
    let here = one_more (p x) (q x) (more x) in
    let rest = counted_more p q more xs in
    omega (arith, one, other, here, rest)

-- one more of a range, where one passes that didn't
counted_next : (p q : ℕ → Bool) → ((k : ℕ) → p k ≡ true → q k ≡ true) → (r : ℕ) → p r ≡ false → q r ≡ true
    → (a n : ℕ) → a ≤ r → r < a + n → 1 + count_by p (range_with_len a n) ≤ count_by q (range_with_len a n)
counted_next p q more r was is a zero from to = absurd (omega (arith, from, to))
counted_next p q more r was is a (suc n) from to =
    let one = sum_by-cons (λ y. cond (p y) 1 0) a (range_with_len (a + 1) n) in
    let two = sum_by-cons (λ y. cond (q y) 1 0) a (range_with_len (a + 1) n) in
    elim (cases_eq r a) [
      | inl same ↦
          let no : ◌≡◌ {A = ℕ} (cond (p a) 1 0) 0 = ap (λ b. cond b 1 0) (ap p (sym same) ∙ was) in
          let yes : ◌≡◌ {A = ℕ} (cond (q a) 1 0) 1 = ap (λ b. cond b 1 0) (ap q (sym same) ∙ is) in
          let rest = counted_more p q more (range_with_len (a + 1) n) in omega (arith, one, two, no, yes, rest)
      | inr other ↦
          let here = one_more (p a) (q a) (more a) in
          let rest = counted_next p q more r was is (a + 1) n (past a r from other) (omega (arith, to)) in
          omega (arith, one, two, here, rest)
    ]
  where
    past : (a r : ℕ) → a ≤ r → (r ≡ a → ⊥) → a + 1 ≤ r
    past a r from other = omega (arith, from, other)

at_most_all : (p : ℕ → Bool) (xs : List ℕ) → count_by p xs ≤ length xs
at_most_all p [] = omega arith
at_most_all p (x ∷ xs) =
    let one = sum_by-cons (λ y. cond (p y) 1 0) x xs in
    let here = one_more (p x) true (λ e. refl) in
    let rest = at_most_all p xs in
    omega (arith, one, here, rest)

none_counted : (p : ℕ → Bool) → ((k : ℕ) → p k ≡ false) → (xs : List ℕ) → count_by p xs ≡ 0
none_counted p none [] = refl
none_counted p none (x ∷ xs) =
    let one = sum_by-cons (λ y. cond (p y) 1 0) x xs in
    let here : ◌≡◌ {A = ℕ} (cond (p x) 1 0) 0 = ap (λ b. cond b 1 0) (none x) in
    let rest = none_counted p none xs in
    omega (arith, one, here, rest)

pub inner_few : (count : ℕ) (mapped : FinSet nat_cmp) → inner_cost count mapped ≤ count
unfolding inner_cost
inner_few count mapped =
    let most = at_most_all (λ inner. list_any (is_inner inner) (items mapped)) (range_with_len 0 count) in
    let long = length-range_with_len 0 count in
    omega (arith, most, long)

module _ (less more : FinSet nat_cmp)
    (within : (q : ℕ) → has (items less) q ≡ true → has (items more) q ≡ true) where
  pub inner_more : (count : ℕ) → inner_cost count less ≤ inner_cost count more
  unfolding inner_cost
  inner_more count =
      counted_more (λ inner. list_any (is_inner inner) (items less)) (λ inner. list_any (is_inner inner) (items more))
      (λ inner. any_more (is_inner inner) (items less) (items more) within) (range_with_len 0 count)

  -- and one more, where an inner block names an index first
  pub inner_next : (count row : ℕ) → row < count → list_any (is_inner row) (items less) ≡ false
      → list_any (is_inner row) (items more) ≡ true → 1 + inner_cost count less ≤ inner_cost count more
  unfolding inner_cost
  inner_next count row low was is =
      counted_next (λ inner. list_any (is_inner inner) (items less)) (λ inner. list_any (is_inner inner) (items more))
      (λ inner. any_more (is_inner inner) (items less) (items more) within) row was is 0 count (omega arith)
      (omega (arith, low))

  -- a file that maps more indexes takes no fewer blocks
  pub more_cost : len less ≤ len more → file_cost less ≤ file_cost more
  more_cost indexes =
      let indirect = one_more _ _ (any_more is_indirect (items less) (items more) within) in
      let double = one_more _ _ (any_more is_double (items less) (items more) within) in
      let inner = inner_more INDIRECT_INDEXES in
      omega (arith, indexes, indirect, double, inner)

no_inner : (count : ℕ) → inner_cost count empty ≡ 0
unfolding inner_cost
no_inner count =
    none_counted (λ inner. list_any (is_inner inner) (items {R = nat_cmp} empty)) (λ inner. any_items (is_inner inner) [])
    (range_with_len 0 count)

-- one that maps none takes none
pub no_cost : file_cost empty ≡ 0
no_cost =
    let indirect : ◌≡◌ {A = ℕ} (cond (list_any is_indirect (items {R = nat_cmp} empty)) 1 0) 0 =
    ap (λ b. cond b 1 0) (any_items is_indirect []) in
    let double : ◌≡◌ {A = ℕ} (cond (list_any is_double (items {R = nat_cmp} empty)) 1 0) 0 =
    ap (λ b. cond b 1 0) (any_items is_double []) in
    let none = len-empty nat_cmp in
    let inner = no_inner INDIRECT_INDEXES in
    omega (arith, indirect, double, none, inner)
