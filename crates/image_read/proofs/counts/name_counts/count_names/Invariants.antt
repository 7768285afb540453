use Rattle.std.proofs.Common.{ℕ, List, length, map, take}
use Rattle.image_read.specs.Counts.Linked.{HasCounts}
use Rattle.image_read.specs.Counts.Adds.{AreNamed}
use Rattle.image_read.proofs.CountsLemmas.More.{AreNamedToo, number_of}
use Rattle.image_read.proofs.counts.name_counts.count_names.Given as goal

abbrev pub invariant-places : goal.invariant-places
invariant-places l = record {
  counts : HasCounts (length l.table) l.links;
  named : (names by_parent children : List ℕ) → AreNamed names by_parent children l.fn.links
      → AreNamedToo names by_parent children l.table l.directory (map number_of (take l.index_within l.slots)) l.links;
}
