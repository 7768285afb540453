use Rattle.std.proofs.Common.{refl}
use Rattle.sim.proofs.simulation.poked.Goals as goal

pub returns-in_ok-poke_within-in-Stopped : goal.returns-in_ok-poke_within-in-Stopped
returns-in_ok-poke_within-in-Stopped c =
    rw c.in-Stopped.is (c.poke_within.new.disk, refl, refl, c.in_ok-poke_within-in-Stopped.ensures)
