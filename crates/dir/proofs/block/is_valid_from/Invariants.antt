-- no slot so far is refused
use Rattle.dir.specs.Slots.{NoneRefused, block_slot}
use Rattle.dir.proofs.block.is_valid_from.Given as goal

abbrev pub invariant-slots : goal.invariant-slots
invariant-slots l = NoneRefused (block_slot l.inodes l.first l.block) l.from l.slot
