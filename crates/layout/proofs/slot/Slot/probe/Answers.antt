use Rattle.std.proofs.Common.{arith, IsOk}
use Rattle.std.proofs.lemmas.Grind.{common_steps}
use Rattle.layout.specs.SlotForm.{read_slot}
use Rattle.layout.proofs.NamedSlot.{none_under}
use Rattle.layout.proofs.slot.Slot.probe.Goals as goal

pub returns-then-is_zeros : goal.returns-then-is_zeros
unfolding read_slot
returns-then-is_zeros c = grind (arith, common_steps)

pub returns-else-is_zeros : goal.returns-else-is_zeros
unfolding read_slot
returns-else-is_zeros c = grind (arith, common_steps)

pub returns-then-not-is_sound_slot : goal.returns-then-not-is_sound_slot
unfolding read_slot
returns-then-not-is_sound_slot c = grind (arith, common_steps)

pub returns-then-not-may_have : goal.returns-then-not-may_have
unfolding read_slot
returns-then-not-may_have c =
    let ok : IsOk (read_slot c.args.inodes c.args.bytes.now) = grind (arith, common_steps) in
    none_under c.args.name.now (read_slot c.args.inodes c.args.bytes.now) ok
    (c.may_have.ensures c.if-not-may_have.true c.args.inodes)

pub returns-then-is_eq : goal.returns-then-is_eq
unfolding read_slot
returns-then-is_eq c = grind (arith, common_steps)

pub returns-else-is_eq : goal.returns-else-is_eq
unfolding read_slot
returns-else-is_eq c = grind (arith, common_steps)
