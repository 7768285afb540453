use Rattle.std.proofs.Common.{ap, ◌∙◌}
use Rattle.plain_tree.specs.declared.tree.tree.NumberedNode.{NumberedNode}
use Rattle.plain_steps.specs.Numbered.{files_of}
use Rattle.plain_steps.proofs.OneChange.{files_with}
use Rattle.plain_steps.proofs.tree_files.nodes.with_node.Goals as goal

pub returns : goal.returns
returns c =
    let file : NumberedNode = record { number = c.args.number; node = c.args.node } in
    let files = ap files_of c.in_ok-push.ensures.items
    ∙ files_with (files_of c.args.tree.nodes.items) _ file (ap (λ t. t.nodes) c.without_node-next.ensures) in
    λ i. record { geometry = (c.without_node-next.ensures i).geometry; nodes = files i }
