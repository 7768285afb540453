-- On the entries of finite maps with numbers as keys.
use Rattle.std.proofs.Common.{◌≡◌, ℕ, ◌+◌, sym, ap, ◌∙◌, refl, Bool, true, false, cond, List, [], ◌∷◌, length}
use Rattle.std.proofs.Common.{Some, None, is_some, sum_by, arith}
use Rattle.std.proofs.lemmas.List.Sums.{sum_by-cons}
use Rattle.std.specs.declared.cmp.Ordering.{Ordering}
use Rattle.std.specs.declared.cmp.Ordering.TheVariants.{Less, Equal, Greater}
use Rattle.std.specs.Ordering.{nat_cmp, is_eq, eq_by_cmp}
use Rattle.std.specs.Cmp.{nat_cmp_total}
use Rattle.std.specs.FinMap.{FinMap, empty, entries, insert, get, len, contains_key, len-empty, len-entries}
use Rattle.std.specs.FinMap.{len-insert, get-entries, get-insert, get-empty, entries-insert, find, put}
use Rattle.std.specs.FinMap.{nat_cmp-IsAntisymmetric}
use Rattle.nfs_spec.proofs.ModelLemmas.Sets.{eq_by_cmp-is}
use Rattle.std.specs.FinMap.Entries.{by_order}

none_long : {A : Type 0} (xs : List A) → length xs ≡ 0 → xs ≡ []
none_long [] e = refl
none_long (x ∷ xs) e = absurd (omega arith)

pub entries-empty : {K X : Type 0} (R : K → K → Ordering) → entries (empty {X = X} {R = R}) ≡ []
entries-empty {K} {X} R = none_long _ (sym (len-entries (empty {X = X} {R = R})) ∙ len-empty R X)

-- the one entry of a map into which one was put
pub entries-one : {X : Type 0} (k : ℕ) (v : X) → entries (insert (empty {R = nat_cmp}) k v) ≡ (k, v) ∷ []
entries-one k v = entries-insert nat_cmp_total empty k v ∙ ap (put nat_cmp k v) (entries-empty nat_cmp)

pub get-one : {X : Type 0} (k : ℕ) (v : X) (q : ℕ)
    → get (insert (empty {R = nat_cmp}) k v) q ≡ cond (eq_by_cmp nat_cmp q k) (Some v) None
get-one k v q = get-insert nat_cmp_total empty k v q
    ∙ ap (cond (eq_by_cmp nat_cmp q k) (Some v)) (get-empty nat_cmp q)

chosen : {X : Type 0} (b : Bool) (v w : X) → cond b (Some v) None ≡ Some w → (b ≡ true) × (w ≡ v)
chosen true v w e = (refl, cc)
chosen false v w e = cc

-- what is in a map of one entry is that entry
pub only_one : {X : Type 0} (k q : ℕ) (v w : X) → get (insert (empty {R = nat_cmp}) k v) q ≡ Some w
    → (q ≡ k) × (w ≡ v)
only_one k q v w e =
    let c = chosen (eq_by_cmp nat_cmp q k) v w (sym (get-one k v q) ∙ e) in
    (eq_by_cmp-is q k c.0, c.1)

module _ {X : Type 0} (f : ℕ × X → ℕ) (k : ℕ) (old new : X) where
  placed : (r : Ordering) (e : ℕ × X) (es : List (ℕ × X)) → nat_cmp k e.0 ≡ r
      → (length (put nat_cmp k new es) ≡ length es → find nat_cmp k es ≡ Some old
      → sum_by f (put nat_cmp k new es) + f (k, old) ≡ sum_by f es + f (k, new))
      → length (by_order r ((k, new) ∷ e ∷ es) ((e.0, new) ∷ es) (e ∷ put nat_cmp k new es)) ≡ length (e ∷ es)
      → cond (is_eq r) (Some e.1) (find nat_cmp k es) ≡ Some old
      → sum_by f (by_order r ((k, new) ∷ e ∷ es) ((e.0, new) ∷ es) (e ∷ put nat_cmp k new es)) + f (k, old)
      ≡ sum_by f (e ∷ es) + f (k, new)
  placed Less e es is more long found = absurd (omega arith)
  placed Equal e es is more long found =
      let same : k ≡ e.0 = nat_cmp-IsAntisymmetric k e.0 is in
      let value : e.1 ≡ old = cc in
      let head : f (e.0, new) ≡ f (k, new) = ap (λ q. f (q, new)) (sym same) in
      let before : f e ≡ f (k, old) = λ i. f (sym same i, value i) in
      omega (arith, sum_by-cons f (e.0, new) es, sum_by-cons f e es)
  placed Greater e es is more long found =
      let rest = more (omega arith) found in
      omega (arith, sum_by-cons f e (put nat_cmp k new es), sum_by-cons f e es)

  -- a value that replaces another changes a sum by the difference
  sum_put : (es : List (ℕ × X)) → length (put nat_cmp k new es) ≡ length es → find nat_cmp k es ≡ Some old
      → sum_by f (put nat_cmp k new es) + f (k, old) ≡ sum_by f es + f (k, new)
  sum_put [] long found = absurd (omega arith)
  sum_put (e ∷ es) long found = placed (nat_cmp k e.0) e es refl (sum_put es) long found

  pub sum_insert : (m : FinMap nat_cmp X) → get m k ≡ Some old
      → sum_by f (entries (insert m k new)) + f (k, old) ≡ sum_by f (entries m) + f (k, new)
  sum_insert m found =
      let is : entries (insert m k new) ≡ put nat_cmp k new (entries m) =
      entries-insert nat_cmp_total m k new in
      let has : contains_key m k ≡ true = ap is_some found in
      let same : len (insert m k new) ≡ len m = len-insert nat_cmp_total m k new
      ∙ ap (λ b. cond b (len m) (len m + 1)) has in
      let long : length (put nat_cmp k new (entries m)) ≡ length (entries m) =
      ap length (sym is) ∙ sym (len-entries (insert m k new)) ∙ same ∙ len-entries m in
      ap (λ es. sum_by f es + f (k, old)) is ∙ sum_put (entries m) long (sym (get-entries m k) ∙ found)
