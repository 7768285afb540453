use Rattle.std.proofs.Common.{◌*◌, nat_lt, subst, ap, ◌∙◌, sym}
use Rattle.std.specs.FinSet as set
use Rattle.base.specs.declared.TheConstants.{BLOCK_BYTES}
use Rattle.nfs_spec.proofs.ModelLemmas.Sets.{Distinct, distinct-filter, retain_listed}
use Rattle.plain_tree.specs.Tree.Indexes.{AreIndexes}
use Rattle.plain_tree.proofs.TreeLemmas.Few.{fewer_indexes}
use Rattle.plain_tree.proofs.tree.mapped.MappedIndexes.cut.Goals as goal

pub invariant_of-self : goal.invariant_of-self
invariant_of-self c =
    let d : Distinct c.self.inside.indexes.items = record { count = c.self.invariant.0 } in
    let e : Distinct c.retain_below.new.indexes.items =
    subst Distinct (sym c.retain_below.ensures) (distinct-filter _ _ d) in
    let is_preserved = ap set.from_list c.retain_below.ensures ∙ sym (retain_listed _ _) in
    (e.count, subst AreIndexes (sym is_preserved) (fewer_indexes _ _ c.self.invariant.1))

pub returns : goal.returns
returns c =
    ap set.from_list c.retain_below.ensures ∙ sym (retain_listed _ _)
    ∙ ap (λ s. set.retain s (λ index. nat_lt (index * BLOCK_BYTES) c.args.size)) c.self.view_is
