use Rattle.std.proofs.Common.{◌≡◌, ◌++◌, ◌∷◌, []}
use Rattle.store_promise.specs.declared.events.Event.TheVariants as event
use Rattle.sim.specs.Events.{repeated}
use Rattle.sim.proofs.events.drive.Given as goal

abbrev pub invariant-drives : goal.invariant-drives
invariant-drives l = l.events.items ≡ l.fn.events.items ++ repeated l._made (event.Work l.fn.worker ∷ event.Read l.fn.worker ∷ [])
