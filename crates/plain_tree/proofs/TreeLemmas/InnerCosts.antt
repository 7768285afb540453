-- How many inner blocks name one of some indexes, counted one inner block after another.
use Rattle.std.proofs.Common.{◌≡◌, ℕ, zero, suc, ◌+◌, ◌*◌, ap, ◌∙◌, refl, Bool, true, false, cond, ◌&&◌, ◌||◌}
use Rattle.std.proofs.Common.{List, [], ◌∷◌, ◌++◌, count_by, nat_le, nat_lt, arith}
use Rattle.std.specs.FinSet as set
use Rattle.std.specs.List.{list_any, range_with_len}
use Rattle.std.specs.Ordering.{nat_cmp}
use Rattle.std.proofs.lemmas.Bool.Decides.{nat_tests}
use Rattle.std.proofs.lemmas.List.Sums.{sum_by-append, sum_by-cons}
use Rattle.base.specs.declared.TheConstants.{FIRST_DOUBLE_INDEX, INDIRECT_INDEXES}
use Rattle.nfs_spec.specs.Model.Cost.{inner_cost, is_double, is_inner}
use Rattle.nfs_spec.proofs.ModelLemmas.Sets.{any_items}

more_range : (a n : ℕ) → range_with_len a (suc n) ≡ range_with_len a n ++ (a + n) ∷ []
more_range a zero = ap (λ k. k ∷ []) (omega arith)
more_range a (suc n) =
    ap (λ l. a ∷ l) (more_range (a + 1) n ∙ ap (λ k. range_with_len (a + 1) n ++ k ∷ []) (omega arith))

one_counted : (p : ℕ → Bool) (n : ℕ)
    → count_by p (range_with_len 0 (n + 1)) ≡ count_by p (range_with_len 0 n) + cond (p n) 1 0
one_counted p n =
    let next : n + 1 ≡ suc n = omega arith in
    let at : 0 + n ≡ n = omega arith in
    let split = sum_by-append (λ y. cond (p y) 1 0) (range_with_len 0 n) (n ∷ []) in
    let last = sum_by-cons (λ y. cond (p y) 1 0) n [] in
    ap (λ k. count_by p (range_with_len 0 k)) next
    ∙ ap (count_by p) (more_range 0 n ∙ ap (λ k. range_with_len 0 n ++ k ∷ []) at)
    ∙ omega (arith, split, last)

none_counted : (p : ℕ → Bool) → ((k : ℕ) → p k ≡ false) → (xs : List ℕ) → count_by p xs ≡ 0
none_counted p none [] = refl
none_counted p none (x ∷ xs) =
    let one = sum_by-cons (λ y. cond (p y) 1 0) x xs in
    let here : ◌≡◌ {A = ℕ} (cond (p x) 1 0) 0 = ap (λ b. cond b 1 0) (none x) in
    let rest = none_counted p none xs in
    omega (arith, one, here, rest)

no_either : (a b : Bool) → (a || b) ≡ false → (a ≡ false) × (b ≡ false)
no_either true b e = cc
no_either false b e = (refl, e)

not_inner : (inner index : ℕ) → is_double index ≡ false → is_inner inner index ≡ false
not_inner inner index e =
    let few : nat_le (FIRST_DOUBLE_INDEX + INDIRECT_INDEXES * inner) index ≡ false = grind (arith, nat_tests) in
    ap (λ t. t && nat_lt index (FIRST_DOUBLE_INDEX + INDIRECT_INDEXES * inner + INDIRECT_INDEXES)) few

all_not_inner : (inner : ℕ) (indexes : List ℕ) → list_any is_double indexes ≡ false
    → list_any (is_inner inner) indexes ≡ false
all_not_inner inner [] e = refl
all_not_inner inner (index ∷ indexes) e =
    let both = no_either (is_double index) (list_any is_double indexes) e in
    λ i. not_inner inner index both.0 i || all_not_inner inner indexes both.1 i

module _ (indexes : List ℕ) where
  abbrev all : set.FinSet nat_cmp
  all = set.from_list indexes

  pub none_yet : inner_cost 0 all ≡ 0
  unfolding inner_cost
  none_yet = refl

  pub next_inner : (count : ℕ)
      → inner_cost (count + 1) all ≡ inner_cost count all + cond (list_any (is_inner count) indexes) 1 0
  unfolding inner_cost
  next_inner count =
      one_counted (λ inner. list_any (is_inner inner) (set.items all)) count
      ∙ ap (λ b. count_by (λ inner. list_any (is_inner inner) (set.items all)) (range_with_len 0 count)
      + cond b 1 0) (any_items (is_inner count) indexes)

  pub no_inner : list_any is_double indexes ≡ false → (count : ℕ) → inner_cost count all ≡ 0
  unfolding inner_cost
  no_inner none count =
      none_counted (λ inner. list_any (is_inner inner) (set.items all))
      (λ inner. any_items (is_inner inner) indexes ∙ all_not_inner inner indexes none) (range_with_len 0 count)
