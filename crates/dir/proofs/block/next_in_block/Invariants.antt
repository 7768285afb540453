-- each slot so far is free
use Rattle.dir.specs.Slots.{AreFree, block_slot}
use Rattle.dir.proofs.block.next_in_block.Given as goal

abbrev pub invariant-slots : goal.invariant-slots
invariant-slots l = AreFree (block_slot l.inodes l.first l.block) l.from l.slot
