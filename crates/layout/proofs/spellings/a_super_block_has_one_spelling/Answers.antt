use Rattle.layout.proofs.SuperBytes.{spelled}
use Rattle.layout.proofs.spellings.a_super_block_has_one_spelling.Goals as goal

pub returns : goal.returns
returns c = spelled
