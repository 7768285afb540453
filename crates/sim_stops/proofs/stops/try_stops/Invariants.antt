use Rattle.sim_stops.specs.Tried.{AreTriedStops}
use Rattle.sim_stops.proofs.stops.try_stops.Given as goal

abbrev pub invariant-stops : goal.invariant-stops
invariant-stops g l = AreTriedStops l.asked l.files.items l.calls l.images
