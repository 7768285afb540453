use Rattle.std.proofs.Common.{sym, ap, ◌∙◌, is_none}
use Rattle.nfs_spec.specs.Model.Tree.{node_at}
use Rattle.plain_tree.specs.Tree.Plain.{tree_of}
use Rattle.plain_steps.proofs.Numbered.{got_none, is_got}
use Rattle.plain_steps.proofs.Ranges.{some_there}
use Rattle.plain_steps.proofs.tree_files.numbers.is_unused.Goals as goal

pub returns-in-Some : goal.returns-in-Some
returns-in-Some c =
    some_there (node_at (tree_of c.args.tree.now) c.args.number)
    (is_got c.args.tree.now.nodes.items c.args.number c.in-Some.field-0
    (sym c.position_of.ensures ∙ c.in-Some.is))

pub returns-in-None : goal.returns-in-None
returns-in-None c =
    ap is_none (sym (got_none c.args.tree.now.nodes.items c.args.number
    (sym c.position_of.ensures ∙ c.in-None.is)))
