use Rattle.std.proofs.Common.{◌≡◌, ◌∙◌, [], ◌∷◌, ◌++◌, rules, sym}
use Rattle.store_promise.specs.declared.events.Event.TheVariants as event
use Rattle.sim.proofs.Repeated.{repeated_none, three_more}
use Rattle.sim.proofs.events.log.Goals as goal

pub calls-init : goal.calls-init
calls-init c = sym (repeated_none c.args.events.now.items _)

pub calls-preserved : goal.calls-preserved
calls-preserved c =
    let pushed : c.push-in-calls-2.new.self.items ≡ c.calls.events.items ++ event.Log ∷ [] ++ event.LogIo ∷ [] ++ event.Log ∷ [] = search rules in
    pushed ∙ three_more c.calls.events.items c.args.events.now.items c.calls._made _ _ _ c.calls.invariant
