-- it is known where so many steps lead, twice as many with each round
use Rattle.std.proofs.Common.{◌≡◌, ◌^◌, length}
use Rattle.image_read.specs.ImageCounts.Iterated.{AreIterated}
use Rattle.image_read.proofs.image_counts.iterated.furthest_of.Given as goal

abbrev pub invariant-doublings : goal.invariant-doublings
invariant-doublings l = (length l.furthest.items ≡ length l.next) × AreIterated (2 ^ l.doubling) l.next l.furthest.items
