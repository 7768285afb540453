-- Sums over the entries of a map after an entry was put in or taken out, whatever its keys are.
use Rattle.std.proofs.Common.{◌≡◌, ℕ, ◌+◌, sym, ap, ◌∙◌, refl, Bool, true, false, cond, List, [], ◌∷◌}
use Rattle.std.proofs.Common.{Option, Some, None, sum_by, length, get_or, count_by, suc, ◌<◌, arith}
use Rattle.std.proofs.lemmas.List.Sums.{get_or-le-sum_by, sum_by-cons, sum_by-le}
use Rattle.std.specs.Cmp.{IsTotalOrder, tied_itself}
use Rattle.std.specs.FinMap.{FinMap, IsAntisymmetric, entries, entries-insert, find, get, get-entries}
use Rattle.std.specs.FinMap.{get-insert}
use Rattle.std.specs.FinMap.{get-remove, insert, put, remove, same_map}
use Rattle.std.specs.FinMap.Entries.{by_order}
use Rattle.std.specs.Ordering.{eq_by_cmp, is_eq}
use Rattle.std.specs.declared.cmp.Ordering.{Ordering}
use Rattle.std.specs.declared.cmp.Ordering.TheVariants.{Less, Equal, Greater}
use Rattle.nfs_spec.proofs.ProceduresLemmas.Tests.{one_or_none}

tied : (r : Ordering) → is_eq r ≡ true → r ≡ Equal
tied Less e = cc
tied Equal e = refl
tied Greater e = cc

-- keys that the order ties are one
pub one_key : {K : Type 0} {R : K → K → Ordering} → IsAntisymmetric R → (q k : K) → eq_by_cmp R q k ≡ true
    → q ≡ k
one_key {R = R} same q k e = same q k (tied (R q k) e)

-- what the entry of a key counts in a sum, if there is one
abbrev pub part : {K X : Type 0} → (K × X → ℕ) → K → Option X → ℕ
part f k None = 0
part f k (Some v) = f (k, v)

module _ {K X : Type 0} {R : K → K → Ordering} (total : IsTotalOrder R) (same : IsAntisymmetric R) where
  again : (b : Bool) (v : X) (o : Option X) → cond b (Some v) (cond b None o) ≡ cond b (Some v) o
  again true v o = refl
  again false v o = refl

  -- a value that replaces another, as if there had been none
  pub insert_again : (m : FinMap R X) (k : K) (v : X) → insert (remove m k) k v ≡ insert m k v
  insert_again m k v = same_map total same _ _ (λ q.
      get-insert total (remove m k) k v q ∙ ap (cond (eq_by_cmp R q k) (Some v)) (get-remove total m k q)
      ∙ again (eq_by_cmp R q k) v (get m q) ∙ sym (get-insert total m k v q))

  as_it_is : (m : FinMap R X) (k : K) (o : Option X) (q : K) (b : Bool) → get m k ≡ o
      → eq_by_cmp R q k ≡ b → cond b o (get m q) ≡ get m q
  as_it_is m k o q true was e = sym was ∙ ap (get m) (sym (one_key same q k e))
  as_it_is m k o q false was e = refl

  -- the value that is there already
  pub insert_same : (m : FinMap R X) (k : K) (v : X) → get m k ≡ Some v → insert m k v ≡ m
  insert_same m k v was = same_map total same _ _ (λ q.
      get-insert total m k v q ∙ as_it_is m k (Some v) q (eq_by_cmp R q k) was refl)

  -- what isn't there
  pub remove_none : (m : FinMap R X) (k : K) → get m k ≡ None → remove m k ≡ m
  remove_none m k was = same_map total same _ _ (λ q.
      get-remove total m k q ∙ as_it_is m k None q (eq_by_cmp R q k) was refl)

  crossed : (b c : Bool) (o p r : Option X) → (b ≡ true → c ≡ true → ⊥)
      → cond b o (cond c p r) ≡ cond c p (cond b o r)
  crossed true true o p r apart = absurd (apart refl refl)
  crossed true false o p r apart = refl
  crossed false c o p r apart = refl

  -- values under two keys, in either order
  pub insert_swap : (m : FinMap R X) (k j : K) (v w : X) → (k ≡ j → ⊥)
      → insert (insert m k v) j w ≡ insert (insert m j w) k v
  insert_swap m k j v w apart = same_map total same _ _ (λ q.
      get-insert total (insert m k v) j w q
      ∙ ap (cond (eq_by_cmp R q j) (Some w)) (get-insert total m k v q)
      ∙ crossed (eq_by_cmp R q j) (eq_by_cmp R q k) (Some w) (Some v) (get m q)
      (λ a b. apart (sym (one_key same q k b) ∙ one_key same q j a))
      ∙ ap (cond (eq_by_cmp R q k) (Some v)) (sym (get-insert total m j w q))
      ∙ sym (get-insert total (insert m j w) k v q))

  module _ (f : K × X → ℕ) where
    placed : (k : K) (v : X) (r : Ordering) (e : K × X) (es : List (K × X))
        → (find R k es ≡ None → sum_by f (put R k v es) ≡ sum_by f es + f (k, v))
        → cond (is_eq r) (Some e.1) (find R k es) ≡ None
        → sum_by f (by_order r ((k, v) ∷ e ∷ es) ((e.0, v) ∷ es) (e ∷ put R k v es))
        ≡ sum_by f (e ∷ es) + f (k, v)
    placed k v Less e es more none = let all = sum_by-cons f (k, v) (e ∷ es) in omega (arith, all)
    placed k v Equal e es more none = cc
    placed k v Greater e es more none =
        let rest = more none in
        omega (arith, rest, sum_by-cons f e (put R k v es), sum_by-cons f e es)

    put_new : (k : K) (v : X) (es : List (K × X)) → find R k es ≡ None
        → sum_by f (put R k v es) ≡ sum_by f es + f (k, v)
    put_new k v [] none = let one = sum_by-cons f (k, v) [] in omega (arith, one)
    put_new k v (e ∷ es) none = placed k v (R k e.0) e es (put_new k v es) none

    -- a new entry adds to a sum
    pub insert_new : (m : FinMap R X) (k : K) (v : X) → get m k ≡ None
        → sum_by f (entries (insert m k v)) ≡ sum_by f (entries m) + f (k, v)
    insert_new m k v none =
        ap (sum_by f) (entries-insert total m k v)
        ∙ put_new k v (entries m) (sym (get-entries m k) ∙ none)

    gone : (m : FinMap R X) (k : K) → get (remove m k) k ≡ None
    gone m k = get-remove total m k k ∙ ap (λ r. cond (is_eq r) None (get m k)) (tied_itself total k)

    by_old : (m : FinMap R X) (k : K) (o : Option X) → get m k ≡ o
        → sum_by f (entries (remove m k)) + part f k o ≡ sum_by f (entries m)
    by_old m k None was =
        let is = ap (λ n. sum_by f (entries n)) (remove_none m k was) in omega (arith, is)
    by_old m k (Some v) was =
        let back = ap (λ n. sum_by f (entries n)) (insert_again m k v ∙ insert_same m k v was) in
        let put = insert_new (remove m k) k v (gone m k) in
        omega (arith, back, put)

    -- an entry that goes takes what it counts with it
    pub sum_remove : (m : FinMap R X) (k : K)
        → sum_by f (entries (remove m k)) + part f k (get m k) ≡ sum_by f (entries m)
    sum_remove m k = by_old m k (get m k) refl

    -- a value counts in place of the one that it replaces
    pub sum_insert : (m : FinMap R X) (k : K) (v : X)
        → sum_by f (entries (insert m k v)) + part f k (get m k) ≡ sum_by f (entries m) + f (k, v)
    sum_insert m k v =
        let less = sum_remove m k in
        let put = ap (λ n. sum_by f (entries n)) (sym (insert_again m k v))
        ∙ insert_new (remove m k) k v (gone m k) in
        omega (arith, less, put)

-- a sum in which nothing counts
pub sum_none : {A : Type 0} (f : A → ℕ) (xs : List A)
    → ((index : ℕ) (d : A) → index < length xs → f (get_or xs index d) ≡ 0) → sum_by f xs ≡ 0
sum_none f xs each =
    let most = sum_by-le f 0 xs (λ index d inside. let none = each index d inside in omega (arith, none)) in
    omega (arith, most)

-- where none passes, each fails
pub each_fails : {A : Type 0} (p : A → Bool) (xs : List A) → count_by p xs ≡ 0 → (index : ℕ) (d : A)
    → index < length xs → p (get_or xs index d) ≡ false
each_fails p xs none index d inside =
    let most = get_or-le-sum_by (λ x. cond (p x) 1 0) xs index d inside in
    one_or_none (p (get_or xs index d)) (omega (arith, most, none))

-- tests that agree on each item count alike
pub count_alike : {A : Type 0} (p q : A → Bool) (xs : List A)
    → ((index : ℕ) (d : A) → index < length xs → p (get_or xs index d) ≡ q (get_or xs index d))
    → count_by p xs ≡ count_by q xs
count_alike p q [] alike = refl
count_alike p q (x ∷ xs) alike =
    let first : ◌≡◌ {A = ℕ} (cond (p x) 1 0) (cond (q x) 1 0) =
    ap (λ b. cond b 1 0) (alike 0 x (omega arith)) in
    let rest = count_alike p q xs (λ index d inside. alike (suc index) d (omega arith)) in
    omega (
      arith,
      first,
      rest,
      sum_by-cons (λ y. cond (p y) 1 0) x xs,
      sum_by-cons (λ y. cond (q y) 1 0) x xs,
    )
