use Rattle.image_read.proofs.CountsLemmas.Parents.{AreParents}
use Rattle.image_read.proofs.counts.reached.parents_of.Given as goal

abbrev pub invariant-numbers : goal.invariant-numbers
invariant-numbers l = AreParents l.table l.number l.parents.items
