use Rattle.std.proofs.Common.{ℕ, ◌<◌, get_or, length, None}
use Rattle.image_read.specs.Counts.Linked.{IsLinked}
use Rattle.image_read.proofs.counts.links.each_is_linked.Given as goal

abbrev pub invariant-numbers : goal.invariant-numbers
invariant-numbers l = (number : ℕ) → number < l.number
    → IsLinked (length l.table) l.links number (get_or l.table number None)
