use Rattle.std.proofs.Common.{rules, inl, inr, ◌∙◌, refl, sym, subst, Some, None}
use Rattle.wal_calls.proofs.CallersLemmas.Cases.{gave, took, waited}
use Rattle.wal_calls.specs.Callers.Steps.{HasStepped, comes_back, goes_out}
use Rattle.wal_calls.specs.declared.callers.stepped.Stepped.TheVariants.{Next, Done}
use Rattle.store_promise.specs.Running.{IsLogStep}
use Rattle.store_promise.specs.declared.events.Step.{Step}
use Rattle.txn_law.specs.Core.{CoreState}
use Rattle.wal.specs.Sides.{may_call}
use Rattle.circ.specs.Log.Calls.{idle, out}
use Rattle.circ.specs.declared.log.calls.IoCall.{IoCall}
use Rattle.store_images.proofs.LogSteps.{none_out, some_made, some_out}
use Rattle.store_images.specs.LogCallState.{MayStep, gives_back, pending_of, store_state_with, takes}
use Rattle.store.proofs.RunsLemmas.BySide.{of_calls}
use Rattle.store.proofs.RunsLemmas.NoStep.{none_to_give, none_to_take}
use Rattle.store.specs.Runs.Running.{other_caller, of_side, out_of, store_state_of}
use Rattle.store.proofs.runs.runs.run_events.Running.step_call.Goals as goal

pub returns-in-Some-Next-clause-step : goal.returns-in-Some-Next-clause-step
returns-in-Some-Next-clause-step g c =
    let d = g.D.CrashDisk.device c.args.self.now.store.disk in
    let of = c.args.role in
    let calls = c.args.self.now.calls in
    let later = c.step-stepped.new.self in
    let core = c.args.self.now.store.core in
    let new = c.step-stepped.new.core in
    let had = of_side of calls in
    let next = of_side of later in
    let other = out_of (other_caller of calls) in
    let call = c.in-Some-Next.call in
    let is : HasStepped (may_call of) (goes_out of) (comes_back of) core had.io had.made (Some (Next call)) new
    next.io next.made = search rules in
    let one = took (may_call of) (goes_out of) (comes_back of) core new had.io had.made next.io next.made call is in
    let io = one.io in
    subst (λ (s : Step). IsLogStep (MayStep of) (store_state_of d core calls) (Some s) (store_state_of d new later))
    (sym c.taken.ensures.step)
    (of_calls (MayStep of) (Some (takes of call)) d d core new calls later idle (out io) of
    (none_out had.io had.made one.none) (some_out next.io next.made io one.some one.unmade)
    c.step-stepped.ensures.other_caller
    (subst (λ (call : IoCall). IsLogStep (MayStep of) (store_state_with of d core idle other) (Some (takes of call))
    (store_state_with of d new (out io) other)) one.call_is
    (c.the_calls_of_a_role_are_steps.ensures.taken of d core new io other c.lawful.ensures.log one.goes
    c.lawful-2.ensures.log c.lawful-2.ensures.well_formed)))

pub returns-in-Some-Done-clause-step : goal.returns-in-Some-Done-clause-step
returns-in-Some-Done-clause-step g c =
    let d = g.D.CrashDisk.device c.args.self.now.store.disk in
    let of = c.args.role in
    let calls = c.args.self.now.calls in
    let later = c.step-stepped.new.self in
    let core = c.args.self.now.store.core in
    let new = c.step-stepped.new.core in
    let had = of_side of calls in
    let next = of_side of later in
    let ok = c.in-Some-Done.ok in
    let is : HasStepped (may_call of) (goes_out of) (comes_back of) core had.io had.made (Some (Done ok)) new
    next.io next.made = search rules in
    let one = gave (may_call of) (goes_out of) (comes_back of) core new had.io had.made next.io next.made ok is in
    let io = one.io in
    subst (λ (s : Step). IsLogStep (MayStep of) (store_state_of d core calls) (Some s) (store_state_of d new later))
    (sym c.given.ensures.step)
    (of_calls (MayStep of) (Some (gives_back of ok)) d d core new calls later (pending_of (Some io) (Some ok)) idle of
    (some_made had.io had.made io ok one.some one.was_made) (none_out next.io next.made one.none)
    c.step-stepped.ensures.other_caller
    (c.the_calls_of_a_role_are_steps.ensures.given of d core new io ok (out_of (other_caller of calls))
    c.lawful.ensures.log one.back c.lawful-2.ensures.log c.lawful-2.ensures.well_formed))

pub returns-in-None-clause-step : goal.returns-in-None-clause-step
returns-in-None-clause-step g c =
    let d = g.D.CrashDisk.device c.args.self.now.store.disk in
    let of = c.args.role in
    let calls = c.args.self.now.calls in
    let later = c.step-stepped.new.self in
    let core = c.args.self.now.store.core in
    let new = c.step-stepped.new.core in
    let had = of_side of calls in
    let next = of_side of later in
    let other = out_of (other_caller of calls) in
    let is : HasStepped (may_call of) (goes_out of) (comes_back of) core had.io had.made None new next.io
    next.made = search rules in
    let one = waited (may_call of) (goes_out of) (comes_back of) core new had.io had.made next.io next.made is in
    let moved = c.a_device_counts_the_calls_of_its_steps.ensures.none d None refl in
    elim one.why [
      | inl none ↦
          of_calls (MayStep of) None d d core new calls later idle idle of (none_out had.io had.made none.0)
          (none_out next.io next.made (one.next_is ∙ none.0)) c.step-stepped.ensures.other_caller
          (subst (λ (k : CoreState). IsLogStep (MayStep of) (store_state_with of d core idle other) None
          (store_state_with of d k idle other)) (sym one.same)
          (none_to_take d core other moved of c.lawful.ensures.log none.1))
      | inr some ↦
          of_calls (MayStep of) None d d core new calls later (out some.0) (out some.0) of
          (some_out had.io had.made some.0 some.1 some.2)
          (some_out next.io next.made some.0 (one.next_is ∙ some.1) (one.later_is ∙ some.2))
          c.step-stepped.ensures.other_caller
          (subst (λ (k : CoreState). IsLogStep (MayStep of) (store_state_with of d core (out some.0) other) None
          (store_state_with of d k (out some.0) other)) (sym one.same) (none_to_give d core other moved of some.0))
    ]
