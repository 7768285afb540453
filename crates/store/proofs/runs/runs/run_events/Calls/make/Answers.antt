use Rattle.std.proofs.Common.{◌≡◌, refl, sym, subst}
use Rattle.disk.specs.declared.block.Side.{Side}
use Rattle.disk.specs.declared.block.Side.TheVariants as sides
use Rattle.wal_calls.specs.Callers.Making.{IsTried}
use Rattle.wal.specs.Sides.{call_is_made}
use Rattle.store.specs.Runs.Running.{IsWithin, other_caller, of_side}
use Rattle.store.specs.declared.runs.runs.run_events.Calls.{Calls}
use Rattle.store.proofs.runs.runs.run_events.Calls.make.Goals as goal

pub returns-in-Log-clause-made : goal.returns-in-Log-clause-made
returns-in-Log-clause-made g c =
    let was = c.args.self.now in
    let later : Calls = record was { logger = c.make.new.self } in
    subst (λ (of : Side). IsTried (call_is_made of) (g.D.CrashDisk.device c.args.disk.now) (of_side of was).io
    (of_side of was).made c.make.result (g.D.CrashDisk.device c.make.new.disk) (of_side of later).made)
    (sym c.in-Log.is) (c.make.ensures.made sides.Log)

pub returns-in-Log-clause-io : goal.returns-in-Log-clause-io
returns-in-Log-clause-io g c =
    let was = c.args.self.now in
    let later : Calls = record was { logger = c.make.new.self } in
    subst (λ (of : Side). (of_side of later).io ≡ (of_side of was).io) (sym c.in-Log.is) c.make.ensures.io

pub returns-in-Log-clause-other_caller : goal.returns-in-Log-clause-other_caller
returns-in-Log-clause-other_caller g c =
    let was = c.args.self.now in
    let later : Calls = record was { logger = c.make.new.self } in
    subst (λ (of : Side). other_caller of later ≡ other_caller of was) (sym c.in-Log.is) refl

pub returns-in-Log-clause-within : goal.returns-in-Log-clause-within
returns-in-Log-clause-within g c = λ blocks within. record {
  logging = subst (IsWithin blocks) (sym c.make.ensures.io) within.logging;
  installing = within.installing;
}

pub returns-in-Home-clause-made : goal.returns-in-Home-clause-made
returns-in-Home-clause-made g c =
    let was = c.args.self.now in
    let later : Calls = record was { installer = c.make-in-Home.new.self } in
    subst (λ (of : Side). IsTried (call_is_made of) (g.D.CrashDisk.device c.args.disk.now) (of_side of was).io
    (of_side of was).made c.make-in-Home.result (g.D.CrashDisk.device c.make-in-Home.new.disk)
    (of_side of later).made) (sym c.in-Home.is) (c.make-in-Home.ensures.made sides.Home)

pub returns-in-Home-clause-io : goal.returns-in-Home-clause-io
returns-in-Home-clause-io g c =
    let was = c.args.self.now in
    let later : Calls = record was { installer = c.make-in-Home.new.self } in
    subst (λ (of : Side). (of_side of later).io ≡ (of_side of was).io) (sym c.in-Home.is) c.make-in-Home.ensures.io

pub returns-in-Home-clause-other_caller : goal.returns-in-Home-clause-other_caller
returns-in-Home-clause-other_caller g c =
    let was = c.args.self.now in
    let later : Calls = record was { installer = c.make-in-Home.new.self } in
    subst (λ (of : Side). other_caller of later ≡ other_caller of was) (sym c.in-Home.is) refl

pub returns-in-Home-clause-within : goal.returns-in-Home-clause-within
returns-in-Home-clause-within g c = λ blocks within. record {
  logging = within.logging;
  installing = subst (IsWithin blocks) (sym c.make-in-Home.ensures.io) within.installing;
}
