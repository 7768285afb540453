use Rattle.sim.proofs.Printed.{play_ends}
use Rattle.sim.proofs.simulation.finish.Goals as goal

pub returns-in-Open : goal.returns-in-Open
returns-in-Open g c =
    let played = c.in_ok-play-in-Open.ensures in (
      played.0,
      played.1,
      rw c.in-Open.is (play_ends c.in-Open.disk c.in-Open.segment c.in_ok-play-in-Open.field-0
          played.0 played.2),
    )
