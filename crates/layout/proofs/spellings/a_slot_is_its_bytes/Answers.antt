use Rattle.layout.proofs.SlotBytes.{read_is, is_read}
use Rattle.layout.proofs.spellings.a_slot_is_its_bytes.Goals as goal

pub returns : goal.returns
returns c = λ inodes bytes one are long.
    (read_is inodes bytes are long one, is_read inodes bytes are long one)
