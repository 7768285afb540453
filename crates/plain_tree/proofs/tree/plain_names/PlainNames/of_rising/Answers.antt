use Rattle.std.proofs.Common.{sym, ap, subst, ◌∙◌, T}
use Rattle.plain_tree.specs.Tree.Named.{are_sorted}
use Rattle.plain_tree.proofs.TreeLemmas.Placed.{entries_named}
use Rattle.plain_tree.proofs.tree.plain_names.PlainNames.of_rising.Goals as goal

pub returns-then-do_names_rise-clause-some : goal.returns-then-do_names_rise-clause-some
returns-then-do_names_rise-clause-some c =
    entries_named c.args.entries.items
    (subst T (sym (ap are_sorted (sym c.deref.ensures.value) ∙ sym c.do_names_rise.ensures
    ∙ c.if-do_names_rise.true)) tt)
