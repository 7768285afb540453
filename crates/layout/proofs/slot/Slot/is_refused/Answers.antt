use Rattle.std.proofs.Common.{arith}
use Rattle.std.proofs.lemmas.Grind.{common_steps}
use Rattle.layout.specs.SlotForm.{read_slot}
use Rattle.layout.proofs.slot.Slot.is_refused.Goals as goal

pub returns-then-four_at-eq0-clause-some : goal.returns-then-four_at-eq0-clause-some
unfolding read_slot
returns-then-four_at-eq0-clause-some c = grind (arith, common_steps)

pub returns-then-four_at-eq0-clause-none : goal.returns-then-four_at-eq0-clause-none
unfolding read_slot
returns-then-four_at-eq0-clause-none c = grind (arith, common_steps)

pub returns-clause-some : goal.returns-clause-some
unfolding read_slot
returns-clause-some c = grind (arith, common_steps)

pub returns-clause-none : goal.returns-clause-none
unfolding read_slot
returns-clause-none c = grind (arith, common_steps)
