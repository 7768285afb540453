use Rattle.std.proofs.Common.{arith}
use Rattle.std.proofs.lemmas.Grind.{common_steps}
use Rattle.layout.specs.SlotForm.{read_slot}
use Rattle.layout.proofs.slot.read_slot.Goals as goal

pub returns-then-number-eq0 : goal.returns-then-number-eq0
unfolding read_slot
returns-then-number-eq0 c = grind (arith, common_steps)

pub returns-then-not-is_sound_slot : goal.returns-then-not-is_sound_slot
unfolding read_slot
returns-then-not-is_sound_slot c = grind (arith, common_steps)

pub returns : goal.returns
unfolding read_slot
returns c = grind (arith, common_steps)
