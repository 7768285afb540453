use Rattle.std.proofs.Common.{◌≡◌, false, nat_eq, subst, ap, ◌∙◌}
use Rattle.std.proofs.Common.{sym}
use Rattle.std.specs.List.{list_any}
use Rattle.std.specs.Ordering.{nat_cmp}
use Rattle.std.specs.Cmp.{nat_cmp_total}
use Rattle.std.specs.FinSet as set
use Rattle.nfs_spec.proofs.ModelLemmas.Sets.{Distinct, distinct-push, insert_again}
use Rattle.plain_tree.specs.Tree.Indexes.{AreIndexes}
use Rattle.plain_tree.proofs.TreeLemmas.Few.{with_index}
use Rattle.plain_tree.proofs.tree.mapped.MappedIndexes.map_index.Goals as goal

pub invariant_of-self : goal.invariant_of-self
invariant_of-self c =
    let absent : set.contains (set.from_list {R = nat_cmp} c.self.inside.indexes.items) c.args.index ≡ false =
    set.contains-from_list_nat c.self.inside.indexes.items c.args.index
    ∙ ap (list_any (λ y. nat_eq y c.args.index)) (sym c.deref.ensures.value)
    ∙ sym c.contains.ensures.value ∙ c.if-not-contains.true in
    let d : Distinct c.self.inside.indexes.items = record { count = c.self.invariant.0 } in
    let e : Distinct c.push.new.self.items =
    subst Distinct (sym c.in_ok-push.ensures.items) (distinct-push _ _ absent d) in
    let all = ap set.from_list (c.in_ok-push.ensures.items)
    ∙ set.from_list_push nat_cmp_total set.nat_cmp-IsAntisymmetric _ _ in
    (e.count, subst AreIndexes (sym all) (with_index _ c.args.index c.requires c.self.invariant.1))

pub returns-in_ok-push-clause-ok : goal.returns-in_ok-push-clause-ok
returns-in_ok-push-clause-ok c =
    ap set.from_list (c.in_ok-push.ensures.items)
    ∙ set.from_list_push nat_cmp_total set.nat_cmp-IsAntisymmetric _ _
    ∙ ap (λ s. set.insert s c.args.index) c.self.view_is

pub returns-else-not-contains-clause-ok : goal.returns-else-not-contains-clause-ok
returns-else-not-contains-clause-ok c =
    sym (insert_again c.args.self.now c.args.index
    (ap (λ s. set.contains s c.args.index) (sym c.self.view_is)
    ∙ set.contains-from_list_nat c.self.inside.indexes.items c.args.index
    ∙ ap (list_any (λ y. nat_eq y c.args.index)) (sym c.deref.ensures.value) ∙ sym c.contains.ensures.value
    ∙ c.if-not-contains.false))
