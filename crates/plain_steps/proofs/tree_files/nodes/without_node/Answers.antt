use Rattle.std.proofs.Common.{ap, ◌∙◌}
use Rattle.plain_steps.specs.Numbered.{files_of}
use Rattle.plain_steps.proofs.OneChange.{files_without}
use Rattle.plain_steps.proofs.tree_files.nodes.without_node.Goals as goal

pub returns : goal.returns
returns c =
    let tree = c.args.tree in
    let files = ap files_of c.retain_others.ensures ∙ files_without c.args.number tree.nodes.items in
    λ i. record {
      geometry = record { data_blocks = tree.data_blocks; inodes = tree.inodes };
      nodes = files i;
    }
