-- On sums over the entries of a map of files, and what a change of one file needs.
use Rattle.std.proofs.Common.{◌≡◌, ℕ, zero, suc, ◌+◌, ◌-◌, ◌<◌, ap, ◌∙◌, refl, Bool, true, false, cond}
use Rattle.std.proofs.Common.{◌&&◌}
use Rattle.std.proofs.Common.{T, List, [], ◌∷◌, length, get_or, Option, Some, None, sum_by, arith, subst}
use Rattle.std.proofs.lemmas.List.Sums.{sum_by-cons}
use Rattle.std.specs.Cmp.{nat_cmp_total}
use Rattle.std.specs.FinMap.{FinMap, entries, entries_sorted, find, get, get-entries, insert}
use Rattle.std.specs.FinMap.{is_sorted, nat_cmp-IsAntisymmetric}
use Rattle.std.specs.FinMap.Entries.{below_all}
use Rattle.std.specs.Ordering.{eq_by_cmp, is_eq, is_lt, nat_cmp}
use Rattle.std.specs.declared.cmp.Ordering.{Ordering}
use Rattle.std.specs.declared.cmp.Ordering.TheVariants.{Less, Equal, Greater}
use Rattle.nfs_spec.proofs.ModelLemmas.Maps.{sum_insert}
use Rattle.nfs_spec.proofs.ProceduresLemmas.Parts.{insert_new}
use Rattle.nfs_spec.proofs.ModelLemmas.Sets.{eq_by_cmp-is, itself}
use Rattle.nfs_spec.specs.Model.Cost.{cost}
use Rattle.nfs_spec.specs.Model.Node.{Node}
use Rattle.nfs_spec.specs.Model.Tree.{Tree, cost_at, need, node_at, with_node}

-- a new entry adds to a sum
pub sum_insert_new : {X : Type 0} (f : ℕ × X → ℕ) (k : ℕ) (v : X) (m : FinMap nat_cmp X) → get m k ≡ None
    → sum_by f (entries (insert m k v)) ≡ sum_by f (entries m) + f (k, v)
sum_insert_new f k v m none = insert_new nat_cmp_total nat_cmp-IsAntisymmetric f m k v none

pub and_first : (a b : Bool) → T (a && b) → T a
and_first true b t = tt
and_first false b t = absurd t

pub and_second : (a b : Bool) → T (a && b) → T b
and_second true b t = t
and_second false b t = absurd t

equal_of : (r : Ordering) → is_eq r ≡ true → r ≡ Equal
equal_of Less e = cc
equal_of Equal e = refl
equal_of Greater e = cc

-- a key above another isn't it
pub apart : (k q : ℕ) → T (is_lt (nat_cmp k q)) → (b : Bool) → eq_by_cmp nat_cmp q k ≡ b → b ≡ false
apart k q less false e = refl
apart k q less true e =
    let same : q ≡ k = eq_by_cmp-is q k e in
    let tied : nat_cmp k k ≡ Equal = equal_of (nat_cmp k k) (itself k) in
    absurd (subst (λ r. T (is_lt r)) (ap (nat_cmp k) same ∙ tied) less)

module _ {X : Type 0} where
  pub below_at : (k : ℕ) (es : List (ℕ × X)) (d : ℕ × X) (index : ℕ) → index < length es
      → T (below_all nat_cmp k es) → T (is_lt (nat_cmp k (get_or es index d).0))
  below_at k [] d index inside below = absurd (omega arith)
  below_at k (e ∷ es) d zero inside below = and_first _ _ below
  below_at k (e ∷ es) d (suc index) inside below =
      below_at k es d index (omega arith) (and_second _ _ below)

  pub skipped : (b : Bool) (v : X) (o : Option X) → b ≡ false → cond b (Some v) o ≡ o
  skipped true v o e = cc
  skipped false v o e = refl

  taken : (b : Bool) (v : X) (o : Option X) → b ≡ true → cond b (Some v) o ≡ Some v
  taken true v o e = refl
  taken false v o e = cc

  found_at : (es : List (ℕ × X)) (d : ℕ × X) (index : ℕ) → index < length es → T (is_sorted nat_cmp es)
      → find nat_cmp (get_or es index d).0 es ≡ Some (get_or es index d).1
  found_at [] d index inside sorted = absurd (omega arith)
  found_at (e ∷ es) d zero inside sorted =
      taken (eq_by_cmp nat_cmp e.0 e.0) e.1 (find nat_cmp e.0 es) (itself e.0)
  found_at (e ∷ es) d (suc index) inside sorted =
      let key = (get_or es index d).0 in
      skipped (eq_by_cmp nat_cmp key e.0) e.1 (find nat_cmp key es)
      (apart e.0 key (below_at e.0 es d index (omega arith) (and_first _ _ sorted)) _ refl)
      ∙ found_at es d index (omega arith) (and_second _ _ sorted)

  -- each entry of a map is what its key leads to
  pub got_at : (m : FinMap nat_cmp X) (d : ℕ × X) (index : ℕ) → index < length (entries m)
      → get m (get_or (entries m) index d).0 ≡ Some (get_or (entries m) index d).1
  got_at m d index inside =
      get-entries m _ ∙ found_at (entries m) d index inside (entries_sorted m)

  none_each : (f : ℕ × X → ℕ) (es : List (ℕ × X)) (d : ℕ × X)
      → ((index : ℕ) → index < length es → f (get_or es index d) ≡ 0) → sum_by f es ≡ 0
  none_each f [] d each = refl
  none_each f (e ∷ es) d each =
      let first = each 0 (omega arith) in
      let rest = none_each f es d (λ index inside. each (suc index) (omega arith)) in
      omega (arith, first, rest, sum_by-cons f e es)

-- A change of one file needs what the new one costs beyond the old one.
pub need_of_one : (tree : Tree) (number : ℕ) (old new : Node) → node_at tree number ≡ Some old
    → need tree (with_node tree number new) ≡ cost new.body - cost old.body
need_of_one tree number old new was =
    let f : ℕ × Node → ℕ = λ e. cost e.1.body - cost_at (node_at tree e.0) in
    let sum = sum_insert f number old new tree.nodes was in
    let nothing : sum_by f (entries tree.nodes) ≡ 0 =
    none_each f (entries tree.nodes) (number, old) (λ index inside.
    let e = get_or (entries tree.nodes) index (number, old) in
    let there = ap (λ o. cost e.1.body - cost_at o) (got_at tree.nodes (number, old) index inside) in
    omega (arith, there)) in
    let old_is : f (number, old) ≡ cost old.body - cost old.body = ap (λ o. cost old.body - cost_at o) was in
    let new_is : f (number, new) ≡ cost new.body - cost old.body = ap (λ o. cost new.body - cost_at o) was in
    omega (arith, sum, nothing, old_is, new_is)
