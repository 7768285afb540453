use Rattle.std.proofs.Common.{sym, ap, ◌∙◌}
use Rattle.nfs_spec.specs.Model.Cost.{cost}
use Rattle.nfs_spec.specs.Model.Tree.{cost_at}
use Rattle.plain_tree.specs.Tree.Plain.{body_of}
use Rattle.plain_tree.specs.declared.tree.tree.NumberedNode.{NumberedNode}
use Rattle.plain_steps.proofs.Numbered.{got_none, got_some}
use Rattle.plain_steps.proofs.tree_files.space.cost_at.Goals as goal

pub returns-in-Some-clause-is : goal.returns-in-Some-clause-is
returns-in-Some-clause-is c =
    c.cost.ensures.cost
    ∙ ap (λ (f : NumberedNode). cost (body_of f.node.body)) (sym c.index-files-index.is)
    ∙ ap cost_at (sym (got_some c.args.files.now c.args.number c.in-Some.index c.index-files-index.result
    (sym c.position_of.ensures ∙ c.in-Some.is) c.index-files-index.is))

pub returns-in-None-clause-is : goal.returns-in-None-clause-is
returns-in-None-clause-is c =
    ap cost_at (sym (got_none c.args.files.now c.args.number (sym c.position_of.ensures ∙ c.in-None.is)))
