use Rattle.std.proofs.Common.{arith}
use Rattle.std.proofs.lemmas.Grind.{common_steps}
use Rattle.layout.specs.InodeForm.{header_bytes}
use Rattle.layout.proofs.inode_bytes.put_header_fields.Goals as goal

pub returns-clause-bytes : goal.returns-clause-bytes
unfolding header_bytes
returns-clause-bytes c = grind (arith, common_steps)
