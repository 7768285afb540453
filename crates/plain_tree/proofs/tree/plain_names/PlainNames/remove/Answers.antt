use Rattle.std.proofs.Common.{sym, ap, subst, ◌∙◌, T}
use Rattle.std.specs.FinMap as finmap
use Rattle.plain_tree.specs.Tree.Named.{are_sorted, named_by}
use Rattle.plain_tree.proofs.TreeLemmas.Placed.{named_others, sorted_others}
use Rattle.plain_tree.proofs.tree.plain_names.PlainNames.remove.Goals as goal

pub invariant_of-self : goal.invariant_of-self
invariant_of-self c =
    subst (λ es. T (are_sorted es)) (sym c.retain_others.ensures)
    (sorted_others c.args.name.now c.self.inside.entries.items c.self.invariant)

pub returns : goal.returns
returns c =
    ap named_by c.retain_others.ensures
    ∙ named_others c.args.name.now c.self.inside.entries.items c.self.invariant
    ∙ ap (λ m. finmap.remove m c.args.name.now) c.self.view_is
