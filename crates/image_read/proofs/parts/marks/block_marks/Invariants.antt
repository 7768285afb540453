use Rattle.image_read.specs.Parts.Marks.{is_block_mark}
use Rattle.image_read.proofs.PartsLemmas.Bits.{AreMarks}
use Rattle.image_read.proofs.parts.marks.block_marks.Given as goal

abbrev pub invariant-numbers : goal.invariant-numbers
invariant-numbers l = AreMarks (is_block_mark l.geometry l.owners) l.number l.marks.items
