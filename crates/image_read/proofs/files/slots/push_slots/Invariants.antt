use Rattle.image_read.specs.Files.Slots.{ArePushed}
use Rattle.image_read.proofs.files.slots.push_slots.Given as goal

abbrev pub invariant-places : goal.invariant-places
invariant-places l = ArePushed l.inodes l.block l.index_within l.fn.slots.items l.slots.items
