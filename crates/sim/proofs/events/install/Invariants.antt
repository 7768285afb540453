use Rattle.std.proofs.Common.{◌≡◌, ◌++◌, ◌∷◌, []}
use Rattle.store_promise.specs.declared.events.Event.TheVariants as event
use Rattle.sim.specs.Events.{repeated}
use Rattle.sim.proofs.events.install.Given as goal

abbrev pub invariant-calls : goal.invariant-calls
invariant-calls l = l.events.items ≡ l.fn.events.items ++ repeated l._made (event.Install ∷ event.InstIo ∷ event.Install ∷ [])
