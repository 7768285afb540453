-- Keys of which none stands twice.
use Rattle.std.proofs.Common.{◌≡◌, ℕ, suc, ◌+◌, sym, ap, ◌∙◌, refl, Bool, true, false, cond, List, [], ◌∷◌, length, map}
use Rattle.std.proofs.Common.{Some, None, is_some, arith}
use Rattle.std.specs.Cmp.{IsTotalOrder}
use Rattle.std.specs.FinMap.{IsAntisymmetric, contains_key, find, from_entries, get-from_entries, len, len-empty}
use Rattle.std.specs.FinMap.{len-insert}
use Rattle.std.specs.List.{AllByRecursion, IsDistinct}
use Rattle.std.specs.Ordering.{eq_by_cmp}
use Rattle.std.specs.declared.cmp.Ordering.{Ordering}
use Rattle.std.proofs.lemmas.Map.Keys.{IsDistinct-head, IsDistinct-tail}
use Rattle.dir.proofs.Distinct.{Once, first_once}
use Rattle.dir.proofs.Members.{none_some}

module _ {K X : Type 0} {R : K → K → Ordering} (o : IsTotalOrder R) (exact : IsAntisymmetric R) where
  abbrev keys : List (K × X) → List K
  keys es = map (λ (e : K × X). e.0) es

  none_found : (k : K) (es : List (K × X)) → find R k es ≡ None
      → AllByRecursion (λ q. eq_by_cmp R k q ≡ false) (keys es)
  none_found k [] e = tt
  none_found k (x ∷ es) e = by_first (eq_by_cmp R k x.0) refl (none_found k es) e
    where
      by_first : (b : Bool) → eq_by_cmp R k x.0 ≡ b
          → (find R k es ≡ None → AllByRecursion (λ q. eq_by_cmp R k q ≡ false) (keys es))
          → cond b (Some x.1) (find R k es) ≡ None → AllByRecursion (λ q. eq_by_cmp R k q ≡ false) (keys (x ∷ es))
      by_first true tied rest e = absurd (none_some x.1 (sym e))
      by_first false tied rest e = (tied, rest e)

  found_none : (k : K) (es : List (K × X)) → AllByRecursion (λ q. eq_by_cmp R k q ≡ false) (keys es)
      → find R k es ≡ None
  found_none k [] all = refl
  found_none k (x ∷ es) all =
      ap (λ b. cond b (Some x.1) (find R k es)) all.0 ∙ found_none k es all.1

  pub once_distinct : (es : List (K × X)) → Once o exact es → IsDistinct (eq_by_cmp R) (keys es)
  unfolding IsDistinct
  once_distinct [] once = tt
  once_distinct (e ∷ es) once =
      let first = first_once o exact e es once in
      (none_found e.0 es first.1, once_distinct es first.0)

  pub distinct_once : (es : List (K × X)) → IsDistinct (eq_by_cmp R) (keys es) → Once o exact es
  distinct_once [] distinct = len-empty R X
  distinct_once (e ∷ es) distinct =
      let new : contains_key (from_entries {R = R} es) e.0 ≡ false =
      ap is_some (get-from_entries o es e.0
      ∙ found_none e.0 es (IsDistinct-head (eq_by_cmp R) e.0 (keys es) distinct)) in
      let rest = distinct_once es (IsDistinct-tail (eq_by_cmp R) e.0 (keys es) distinct) in
      len-insert o (from_entries {R = R} es) e.0 e.1
      ∙ ap (λ b. cond b (len (from_entries {R = R} es)) (len (from_entries {R = R} es) + 1)) new
      ∙ more (len (from_entries {R = R} es)) (length es) rest
    where
      more : (n m : ℕ) → n ≡ m → n + 1 ≡ suc m
      more n m e = omega (arith, e)
