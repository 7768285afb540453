use Rattle.std.proofs.Common.{sym, ap, ◌∙◌, length, subst}
use Rattle.std.specs.Ordering.{nat_cmp}
use Rattle.std.specs.FinSet as set
use Rattle.plain_tree.specs.Tree.Indexes.{AreIndexes}
use Rattle.plain_tree.proofs.TreeLemmas.Few.{no_indexes}
use Rattle.plain_tree.proofs.tree.mapped.MappedIndexes.new.Goals as goal

pub invariant_of-result : goal.invariant_of-result
invariant_of-result c =
    let none = ap length c.new.ensures.items in (
      ap (λ ks. set.len (set.from_list {R = nat_cmp} ks)) c.new.ensures.items ∙ set.len-empty nat_cmp
          ∙ sym none,
      subst (λ ks. AreIndexes (set.from_list ks)) (sym c.new.ensures.items) no_indexes,
    )
