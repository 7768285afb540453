use Rattle.std.proofs.Common.{◌∙◌}
use Rattle.procs_inspection.proofs.blocks.read_block.Goals as goal

pub returns-in-Some-clause-is : goal.returns-in-Some-clause-is
returns-in-Some-clause-is c = λ blocks saw read. c.bytes.ensures.bytes ∙ c.in-Some.ensures.is blocks saw read
