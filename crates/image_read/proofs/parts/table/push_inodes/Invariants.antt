use Rattle.image_read.specs.Parts.Table.{ArePushed}
use Rattle.image_read.proofs.parts.table.push_inodes.Given as goal

abbrev pub invariant-slots : goal.invariant-slots
invariant-slots l = ArePushed l.geometry l.block l.slot l.fn.table.items l.table.items
