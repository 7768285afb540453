use Rattle.std.proofs.Common.{sym, ap, subst, ◌∙◌, T}
use Rattle.plain_tree.specs.Tree.Named.{are_sorted, named_by}
use Rattle.plain_tree.proofs.TreeLemmas.Placed.{no_names}
use Rattle.plain_tree.proofs.tree.plain_names.PlainNames.new.Goals as goal

pub invariant_of-result : goal.invariant_of-result
invariant_of-result c = subst (λ es. T (are_sorted es)) (sym c.new.ensures.items) tt

pub returns : goal.returns
returns c = ap named_by c.new.ensures.items ∙ no_names
