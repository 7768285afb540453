use Rattle.layout.specs.SlotForm.{read_slot, IsInDirectory}
use Rattle.layout.proofs.SlotBytes.{read_is, is_read, fault_is}
use Rattle.layout.proofs.Refused.{refused, is_refused}
use Rattle.layout.proofs.spellings.other_bytes_are_no_slot.Goals as goal

pub returns : goal.returns
returns c = λ inodes bytes fault are long. (
  refused (IsInDirectory inodes bytes) (read_slot inodes bytes)
      (is_read inodes bytes are long) (read_is inodes bytes are long)
      (fault_is inodes bytes are long) fault,
  is_refused (IsInDirectory inodes bytes) (read_slot inodes bytes)
      (is_read inodes bytes are long) (read_is inodes bytes are long)
      (fault_is inodes bytes are long) fault,
)
