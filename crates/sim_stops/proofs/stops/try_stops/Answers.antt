use Rattle.std.proofs.Common.{List, ℕ, Vec, inr, rules, subst}
use Rattle.std.specs.declared.alloc.Global.{Global}
use Rattle.image_contents.specs.declared.lines.line.Line.{Line}
use Rattle.sim_stops.proofs.Totals.{stops_more}
use Rattle.sim_stops.specs.Tried.{AreTriedStops, IsTriedStop}
use Rattle.sim_stops.proofs.stops.try_stops.Goals as goal

pub stops-preserved : goal.stops-preserved
stops-preserved g c =
    let tried = subst (λ (files : List (Vec Line Global)). IsTriedStop c.in-Some.asked files c.in_ok-tried.tried)
    c.deref.ensures.value c.in_ok-tried.ensures in
    rw c.saturating_add-images.ensures
    (stops_more c.in-Some.asked c.in_ok-files.files.items c.stops.calls c.stops.images c.in_ok-tried.tried
    c.stops.invariant tried)

pub returns : goal.returns
returns g c = inr (
  c.in-Some.asked,
  c.in_ok-files.files.items,
  subst (λ (n : ℕ). AreTriedStops c.in-Some.asked c.in_ok-files.files.items n c.stops.images) (search rules)
      c.stops.invariant,
)
