use Rattle.layout.proofs.SuperBytes.{one_super}
use Rattle.layout.proofs.spellings.a_block_is_one_super_block.Goals as goal

pub returns : goal.returns
returns c = one_super
