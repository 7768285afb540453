use Rattle.layout.proofs.ReadBytes.{read_is, is_read}
use Rattle.layout.proofs.spellings.an_inode_is_its_bytes.Goals as goal

pub returns : goal.returns
returns c = λ g bytes one are long.
    (read_is g bytes are long one, is_read g bytes are long one)
