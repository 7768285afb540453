use Rattle.std.proofs.Common.{rules}
use Rattle.layout.specs.Fields.{four_bytes}
use Rattle.layout.proofs.slot.Slot.named.Goals as goal

pub returns-clause-bytes : goal.returns-clause-bytes
unfolding four_bytes
returns-clause-bytes c = search rules
