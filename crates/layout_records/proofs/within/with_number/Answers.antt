use Rattle.std.proofs.Common.{rules}
use Rattle.layout.specs.Fields.{four_bytes}
use Rattle.layout_records.proofs.within.with_number.Goals as goal

pub returns-clause-made : goal.returns-clause-made
unfolding four_bytes
returns-clause-made c = search rules
