use Rattle.std.proofs.Common.{length, ◌-◌}
use Rattle.sim_stops.proofs.wanted.difference.Given as goal

abbrev pub decreases-loop-at : goal.decreases-loop-at
decreases-loop-at l = length l.found - l.at
