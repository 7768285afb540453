use Rattle.std.proofs.Common.{[], ap, inl, refl}
use Rattle.sim.specs.Segments.{Happened}
use Rattle.sim.specs.declared.stage.Stage.TheVariants.{Open}
use Rattle.std.proofs.KnownBytes.{Appends-nil}
use Rattle.sim.proofs.simulation.made.Goals as goal

pub returns-in-Ok : goal.returns-in-Ok
returns-in-Ok g c = (
  [],
  Appends-nil _,
  rw c.in-First.is (inl (
    c.in-Ok.disk,
    c.in-Ok.ensures.made,
    ap (λ (happened : Happened). Open c.in-Ok.disk happened) c.new.ensures,
    refl,
  )),
)
