use Rattle.image_read.specs.Parts.Marks.{is_inode_mark}
use Rattle.image_read.proofs.PartsLemmas.Bits.{AreMarks}
use Rattle.image_read.proofs.parts.marks.inode_marks.Given as goal

abbrev pub invariant-numbers : goal.invariant-numbers
invariant-numbers l = AreMarks (is_inode_mark l.table) l.number l.marks.items
