use Rattle.std.proofs.Common.{◌≡◌, refl, sym, subst, ℕ}
use Rattle.disk.specs.declared.block.Side.{Side}
use Rattle.disk.specs.declared.block.Side.TheVariants as sides
use Rattle.wal_calls.specs.Callers.Steps.{HasStepped, comes_back, goes_out}
use Rattle.wal.specs.Sides.{may_call}
use Rattle.store.proofs.RunsLemmas.BySide.{stays_within}
use Rattle.store.specs.Runs.Running.{IsWithin, other_caller, of_side}
use Rattle.store.specs.declared.runs.runs.run_events.Calls.{Calls}
use Rattle.store.proofs.runs.runs.run_events.Calls.step.Goals as goal

pub returns-in-Log-clause-step : goal.returns-in-Log-clause-step
returns-in-Log-clause-step c =
    let was = c.args.self.now in
    let later : Calls = record was { logger = c.step.new.self } in
    subst (λ (of : Side). HasStepped (may_call of) (goes_out of) (comes_back of) c.args.core.now (of_side of was).io
    (of_side of was).made c.step.result c.step.new.core (of_side of later).io (of_side of later).made)
    (sym c.in-Log.is) c.step.ensures.step

pub returns-in-Log-clause-other_caller : goal.returns-in-Log-clause-other_caller
returns-in-Log-clause-other_caller c =
    let was = c.args.self.now in
    let later : Calls = record was { logger = c.step.new.self } in
    subst (λ (of : Side). other_caller of later ≡ other_caller of was) (sym c.in-Log.is) refl

pub returns-in-Log-clause-within : goal.returns-in-Log-clause-within
returns-in-Log-clause-within c = λ within.
    let was = c.args.self.now in
    let next = c.step.new.self in
    record {
      logging = subst (λ (n : ℕ). IsWithin n next.io) (sym c.step.ensures.blocks)
          (stays_within sides.Log c.args.core.now c.step.new.core was.logger.io was.logger.made c.step.result next.io
          next.made c.step.ensures.step within.logging);
      installing = subst (λ (n : ℕ). IsWithin n was.installer.io) (sym c.step.ensures.blocks) within.installing;
    }

pub returns-in-Home-clause-step : goal.returns-in-Home-clause-step
returns-in-Home-clause-step c =
    let was = c.args.self.now in
    let later : Calls = record was { installer = c.step-in-Home.new.self } in
    subst (λ (of : Side). HasStepped (may_call of) (goes_out of) (comes_back of) c.args.core.now (of_side of was).io
    (of_side of was).made c.step-in-Home.result c.step-in-Home.new.core (of_side of later).io
    (of_side of later).made) (sym c.in-Home.is) c.step-in-Home.ensures.step

pub returns-in-Home-clause-other_caller : goal.returns-in-Home-clause-other_caller
returns-in-Home-clause-other_caller c =
    let was = c.args.self.now in
    let later : Calls = record was { installer = c.step-in-Home.new.self } in
    subst (λ (of : Side). other_caller of later ≡ other_caller of was) (sym c.in-Home.is) refl

pub returns-in-Home-clause-within : goal.returns-in-Home-clause-within
returns-in-Home-clause-within c = λ within.
    let was = c.args.self.now in
    let next = c.step-in-Home.new.self in
    record {
      logging = subst (λ (n : ℕ). IsWithin n was.logger.io) (sym c.step-in-Home.ensures.blocks) within.logging;
      installing = subst (λ (n : ℕ). IsWithin n next.io) (sym c.step-in-Home.ensures.blocks)
          (stays_within sides.Home c.args.core.now c.step-in-Home.new.core was.installer.io was.installer.made
          c.step-in-Home.result next.io next.made c.step-in-Home.ensures.step within.installing);
    }
