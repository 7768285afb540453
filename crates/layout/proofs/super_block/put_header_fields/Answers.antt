use Rattle.std.proofs.Common.{arith}
use Rattle.std.proofs.lemmas.Grind.{common_steps}
use Rattle.layout.specs.SuperForm.{super_header}
use Rattle.layout.proofs.super_block.put_header_fields.Goals as goal

pub returns-clause-bytes : goal.returns-clause-bytes
unfolding super_header
returns-clause-bytes c = grind (arith, common_steps)
