use Rattle.std.proofs.Common.{inl, refl, subst}
use Rattle.sim.specs.Simulated.{HasPlayed, Prints}
use Rattle.sim.proofs.simulation.stopped.Goals as goal

pub returns-in_ok-crashed-in-Some : goal.returns-in_ok-crashed-in-Some
returns-in_ok-crashed-in-Some g c =
    let played = subst (λ left. Prints (g.W.Write.contents c.args.out.now) (g.W.Write.contents c.play.new.out)
    (HasPlayed c.in-Open.disk c.in-Open.segment left)) c.in-Some.is c.in_ok-disk-in-Open.ensures in (
      played.0,
      played.1,
      rw c.in-Open.is (inl (
        c.in-Some.disk,
        c.in_ok-crashed-in-Some.field-0,
        played.2,
        c.in_ok-crashed-in-Some.ensures,
        refl,
      )),
    )
