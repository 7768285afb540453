-- no slot so far is free
use Rattle.std.proofs.Common.{ℕ}
use Rattle.dir.specs.Slots.{block_slot}
use Rattle.dir.specs.Vacant.{NoneFree}
use Rattle.dir.proofs.vacant.free_in_block.Given as goal

abbrev pub invariant-slots : goal.invariant-slots
invariant-slots l = (inodes : ℕ) → NoneFree (block_slot inodes l.first l.block) l.first l.slot
