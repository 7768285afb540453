use Rattle.std.proofs.Common.{◌≡◌, ◌∙◌, [], ◌∷◌, ◌++◌, rules, sym}
use Rattle.store_promise.specs.declared.events.Event.TheVariants as event
use Rattle.sim.proofs.Repeated.{repeated_none, two_more}
use Rattle.sim.proofs.events.drive.Goals as goal

pub drives-init : goal.drives-init
drives-init c = sym (repeated_none c.args.events.now.items _)

pub drives-preserved : goal.drives-preserved
drives-preserved c =
    let pushed : c.push-in-drives.new.self.items ≡ c.drives.events.items ++ event.Work c.args.worker ∷ []
    ++ event.Read c.args.worker ∷ [] = search rules in
    pushed ∙ two_more c.drives.events.items c.args.events.now.items c.drives._made _ _ c.drives.invariant
