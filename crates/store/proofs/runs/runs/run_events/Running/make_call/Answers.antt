use Rattle.std.proofs.Common.{rules, inl, inr, ◌≡◌, ◌∙◌, refl, sym, subst, Option, Some, None}
use Rattle.disk.specs.Device.{Device}
use Rattle.wal_calls.proofs.CallersLemmas.Cases.{not_tried, tried}
use Rattle.wal_calls.specs.Callers.Making.{IsTried}
use Rattle.store_promise.specs.Running.{IsLogStep}
use Rattle.store_promise.specs.declared.events.Step.{Step}
use Rattle.wal.specs.Sides.{call_is_made}
use Rattle.circ.specs.Log.Calls.{idle, out}
use Rattle.circ.specs.Log.Io.{Io, IsCallWithin}
use Rattle.store_images.proofs.LogSteps.{none_out, some_made, some_out}
use Rattle.store_images.specs.LogCallState.{MayMake, makes, pending_of, store_state_with}
use Rattle.store.proofs.RunsLemmas.BySide.{does_made, is_within, of_calls}
use Rattle.store.proofs.RunsLemmas.NoStep.{none_to_make, was_made_before}
use Rattle.store.specs.Runs.Running.{DoesItsStep, IsWithin, other_caller, of_side, out_of, store_state_of}
use Rattle.store.proofs.runs.runs.run_events.Running.make_call.Goals as goal

pub returns-clause-step : goal.returns-clause-step
returns-clause-step g c =
    let d = g.D.CrashDisk.device c.args.self.now.store.disk in
    let e = g.D.CrashDisk.device c.make.new.disk in
    let of = c.args.role in
    let calls = c.args.self.now.calls in
    let later = c.make.new.self in
    let core = c.args.self.now.store.core in
    let had = of_side of calls in
    let next = of_side of later in
    let ok = c.in_ok-ok.ok in
    let is : IsTried (call_is_made of) d had.io had.made (Some ok) e next.made = search rules in
    let one = tried (call_is_made of) d e had.io had.made ok next.made is in
    let io = one.io in
    let size : d.size ≡ core.log.blocks = search rules in
    let within : IsCallWithin core.log.blocks io.call =
    subst (λ (found : Option Io). IsWithin core.log.blocks found) one.some
    (is_within of core.log.blocks calls c.requires.within) in
    let answered = one.on.within (subst (λ n. IsCallWithin n io.call) (sym size) within) in
    subst (λ (s : Step). IsLogStep (MayMake of) (store_state_of d core calls) (Some s)
    (store_state_of (g.D.CrashDisk.device c.count.new.self.store.disk) c.count.new.self.store.core c.count.new.self.calls))
    (sym c.made.ensures.step)
    (subst (λ r. IsLogStep (MayMake of) (store_state_of d core calls) (Some (makes of ok))
    (store_state_of (g.D.CrashDisk.device r.store.disk) r.store.core r.calls)) (sym c.count.ensures)
    (of_calls (MayMake of) (Some (makes of ok)) d e core core calls later (out io) (pending_of (Some io) (Some ok)) of
    (some_out had.io had.made io one.some one.unmade)
    (some_made next.io next.made io ok (c.make.ensures.io ∙ one.some) one.later_is) c.make.ensures.other_caller
    (c.the_calls_of_a_role_are_steps.ensures.made of d e core io ok (out_of (other_caller of calls)) c.lawful.ensures.log
    answered)))

pub returns-clause-does : goal.returns-clause-does
returns-clause-does g c =
    let d = g.D.CrashDisk.device c.args.self.now.store.disk in
    let e = g.D.CrashDisk.device c.make.new.disk in
    let of = c.args.role in
    let calls = c.args.self.now.calls in
    let later = c.make.new.self in
    let core = c.args.self.now.store.core in
    let had = of_side of calls in
    let next = of_side of later in
    let ok = c.in_ok-ok.ok in
    let is : IsTried (call_is_made of) d had.io had.made (Some ok) e next.made = search rules in
    let one = tried (call_is_made of) d e had.io had.made ok next.made is in
    let io = one.io in
    let size : d.size ≡ core.log.blocks = search rules in
    let within : IsCallWithin core.log.blocks io.call =
    subst (λ (found : Option Io). IsWithin core.log.blocks found) one.some
    (is_within of core.log.blocks calls c.requires.within) in
    let answered = one.on.within (subst (λ n. IsCallWithin n io.call) (sym size) within) in
    subst (λ (s : Step). DoesItsStep (store_state_of d core calls) (Some s)
    (store_state_of (g.D.CrashDisk.device c.count.new.self.store.disk) c.count.new.self.store.core c.count.new.self.calls))
    (sym c.made.ensures.step)
    (subst (λ r. DoesItsStep (store_state_of d core calls) (Some (makes of ok))
    (store_state_of (g.D.CrashDisk.device r.store.disk) r.store.core r.calls)) (sym c.count.ensures)
    (does_made of d e core core calls later io ok (some_out had.io had.made io one.some one.unmade) answered))

pub returns-in_err-ok-clause-step : goal.returns-in_err-ok-clause-step
returns-in_err-ok-clause-step g c =
    let d = g.D.CrashDisk.device c.args.self.now.store.disk in
    let e = g.D.CrashDisk.device c.make.new.disk in
    let of = c.args.role in
    let calls = c.args.self.now.calls in
    let later = c.make.new.self in
    let core = c.args.self.now.store.core in
    let had = of_side of calls in
    let next = of_side of later in
    let other = out_of (other_caller of calls) in
    let is : IsTried (call_is_made of) d had.io had.made None e next.made = search rules in
    let one = not_tried (call_is_made of) d e had.io had.made next.made is in
    let moved = c.a_device_counts_the_calls_of_its_steps.ensures.none d None refl in
    let same : c.from_residual.result ≡ None = search rules in
    let none : IsLogStep (MayMake of) (store_state_of d core calls) None (store_state_of e core later) = elim one.why [
      | inl none ↦
          of_calls (MayMake of) None d e core core calls later idle idle of (none_out had.io had.made none)
          (none_out next.io next.made (c.make.ensures.io ∙ none)) c.make.ensures.other_caller
          (subst (λ (k : Device). IsLogStep (MayMake of) (store_state_with of d core idle other) None
          (store_state_with of k core idle other)) (sym one.same) (none_to_make d core other moved of))
      | inr some ↦
          let made = pending_of (Some some.0) (Some some.1) in
          of_calls (MayMake of) None d e core core calls later made made of
          (some_made had.io had.made some.0 some.1 some.2 some.3)
          (some_made next.io next.made some.0 some.1 (c.make.ensures.io ∙ some.2) (one.later_is ∙ some.3))
          c.make.ensures.other_caller
          (subst (λ (k : Device). IsLogStep (MayMake of) (store_state_with of d core made other) None
          (store_state_with of k core made other)) (sym one.same) (was_made_before d core other moved of some.0 some.1))
    ] in
    subst (λ (step_made_of_log : Option Step). IsLogStep (MayMake of) (store_state_of d core calls) step_made_of_log (store_state_of e core later))
    (sym same) none
