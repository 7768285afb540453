use Rattle.layout.proofs.OneTree.{one_tree}
use Rattle.layout.proofs.fresh.blocks_stand_for_one_tree.Goals as goal

pub returns : goal.returns
returns c = one_tree
