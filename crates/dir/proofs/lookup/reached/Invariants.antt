-- the least isn't past the most, which is within the span; the block before the least was read, and at the most the
-- reading stops
use Rattle.std.proofs.Common.{◌-◌, ◌<◌, ◌≤◌}
use Rattle.inode.specs.Asked.{IsReadAt}
use Rattle.dir.specs.Asked.{StopsAt}
use Rattle.dir.proofs.lookup.reached.Given as goal

abbrev pub invariant-halves : goal.invariant-halves
invariant-halves l =
    (l.least ≤ l.most) × (l.most ≤ l.span)
    × (0 < l.least → IsReadAt l.snap l.inode (l.least - 1))
    × (l.most < l.span → StopsAt l.snap l.inode l.most)

abbrev pub decreases-halves : goal.decreases-halves
decreases-halves l = l.most - l.least
