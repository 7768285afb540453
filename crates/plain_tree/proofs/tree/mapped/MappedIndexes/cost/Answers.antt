use Rattle.std.proofs.Common.{◌≡◌, ℕ, ◌+◌, ◌≤◌, length, Bool, cond, List, ap, ◌∙◌, sym, true, false, arith}
use Rattle.std.specs.List.{list_any}
use Rattle.std.specs.Ordering.{nat_cmp}
use Rattle.std.specs.FinSet as set
use Rattle.base.specs.declared.TheConstants.{INDIRECT_INDEXES}
use Rattle.nfs_spec.specs.Model.Cost.{file_cost, inner_cost, is_double, is_indirect}
use Rattle.nfs_spec.proofs.ModelLemmas.Sets.{any_items}
use Rattle.plain_tree.proofs.TreeLemmas.Few.{few_indexes}
use Rattle.plain_tree.proofs.tree.mapped.MappedIndexes.cost.Goals as goal

-- 1 where some index passes
one : (p : ℕ → Bool) (ks listed : List ℕ) (b : Bool) (extra : ℕ) → listed ≡ ks → b ≡ list_any p listed
    → extra ≡ cond b 1 0 → extra ≡ cond (list_any p (set.items (set.from_list {R = nat_cmp} ks))) 1 0
one p ks listed b extra same b_is extra_is =
    extra_is ∙ ap (λ v. cond v 1 0) (b_is ∙ ap (list_any p) same ∙ sym (any_items p ks))

one_at_most : (b : Bool) (extra : ℕ) → extra ≡ cond b 1 0 → extra ≤ 1
one_at_most true extra is = omega (arith, is)
one_at_most false extra is = omega (arith, is)

pub returns-clause-cost : goal.returns-clause-cost
returns-clause-cost c =
    let ks : List ℕ = c.self.inside.indexes.items in
    let long : c.len.result ≡ length ks = cc in
    let len : c.len.result ≡ set.len (set.from_list {R = nat_cmp} ks) = long ∙ sym c.self.invariant.0 in
    let indirect = one is_indirect ks c.deref.result.now c.any_is_indirect.result c.one_if-indirect.result
    c.deref.ensures.value c.any_is_indirect.ensures c.one_if-indirect.ensures in
    let double = one is_double ks c.deref-2.result.now c.any_is_double.result c.one_if-double.result
    c.deref-2.ensures.value c.any_is_double.ensures c.one_if-double.ensures in
    let inner : c.inner_cost.result ≡ inner_cost INDIRECT_INDEXES (set.from_list ks) =
    c.inner_cost.ensures.is ∙ ap (λ l. inner_cost INDIRECT_INDEXES (set.from_list l)) c.deref-3.ensures.value in
    (λ i. len i + indirect i + double i + inner i) ∙ ap file_cost c.self.view_is

pub returns-clause-small : goal.returns-clause-small
returns-clause-small c =
    let ks : List ℕ = c.self.inside.indexes.items in
    let few = few_indexes (set.from_list ks) c.self.invariant.1 in
    let long : c.len.result ≡ length ks = cc in
    let len : c.len.result ≡ set.len (set.from_list {R = nat_cmp} ks) = long ∙ sym c.self.invariant.0 in
    let indirect = one_at_most c.any_is_indirect.result c.one_if-indirect.result c.one_if-indirect.ensures in
    let double = one_at_most c.any_is_double.result c.one_if-double.result c.one_if-double.ensures in
    omega (arith, few, len, indirect, double, c.inner_cost.ensures.few)
