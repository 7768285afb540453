use Rattle.std.proofs.Common.{◌≡◌, ◌++◌, ◌∷◌, ℕ, List, filter, length, take}
use Rattle.image_read.specs.ImageCounts.Tally.{IsOwned}
use Rattle.image_read.specs.Counts.Adds.{is_some}
use Rattle.image_read.proofs.counts.blocks.meet_blocks.Given as goal

abbrev pub invariant-places : goal.invariant-places
invariant-places l = record {
  size : length l.owners.has ≡ length l.fn.owners.has;
  met : (met : List ℕ) → IsOwned met l.fn.owners
      → IsOwned (met ++ filter is_some (l.indirect ∷ take l.index_within l.numbers)) l.owners;
}
