use Rattle.layout.specs.InodeForm.{read_inode, IsInTable}
use Rattle.layout.proofs.ReadBytes.{read_is, is_read, fault_is}
use Rattle.layout.proofs.Refused.{refused, is_refused}
use Rattle.layout.proofs.spellings.other_bytes_are_no_inode.Goals as goal

pub returns : goal.returns
returns c = λ g bytes fault are long. (
  refused (IsInTable g bytes) (read_inode g bytes)
      (is_read g bytes are long) (read_is g bytes are long)
      (fault_is g bytes are long) fault,
  is_refused (IsInTable g bytes) (read_inode g bytes)
      (is_read g bytes are long) (read_is g bytes are long)
      (fault_is g bytes are long) fault,
)
