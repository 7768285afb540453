use Rattle.std.proofs.Common.{◌≡◌, ◌∙◌, ◌<◌, Bool, if◌then◌else◌, ap, sym, subst, inl, inr, arith, ℕ, List, length, false, Option, None}
use Rattle.std.proofs.lemmas.Bool.{cases_lt}
use Rattle.std.proofs.lemmas.List.{length-map}
use Rattle.disk.specs.Device.{current}
use Rattle.store_promise.specs.declared.events.Event.{Event}
use Rattle.store_promise.specs.declared.events.Event.TheVariants as event
use Rattle.store_promise.specs.declared.events.Step.{Step}
use Rattle.store_promise.specs.declared.transcript.Run.{Run}
use Rattle.store_promise.specs.Running.{IsMovedBy, StoreState}
use Rattle.store_promise.specs.LogStateOf.{call_state_of}
use Rattle.store_promise.specs.Transcript.{calls_device}
use Rattle.store_promise.proofs.DeviceCalls.{does_nothing, not_called}
use Rattle.store.specs.Runs.Going.{IsGoing, IsNextEvent, TracesStep}
use Rattle.store.specs.Runs.Running.{DoesItsStep, counted, one_more, store_state_of, states_of}
use Rattle.store_workers.specs.declared.workers.Worker.{Worker}
use Rattle.store_workers.specs.declared.workers.parts.State.{State}
use Rattle.store.proofs.RunsLemmas.GoingRead.{with_model}
use Rattle.store.proofs.RunsLemmas.RunTaken.{clock_is_counted, goes_with, has_contents, read_on, taken_on, worked_on}
use Rattle.store.proofs.runs.runs.run_events.Running.make.Goals as goal

-- a number that no worker has is none of a state
no_state : (workers : List Worker) (number : ℕ) → (number < length workers → ⊥)
    → number < length (states_of workers) → ⊥
no_state workers number absent there =
    absent (subst (λ (n : ℕ). number < n) (length-map workers (λ (w : Worker). w.state)) there)

-- a step that is no call of the device does nothing to it
is_quiet : (old new : StoreState) (made : Option Step) → IsMovedBy old.device made new.device
    → calls_device made ≡ false → DoesItsStep old made new
is_quiet old new made moved none =
    does_nothing (call_state_of old.logging) (call_state_of old.installing) made (current old.device) (current new.device)
    none (not_called old.device new.device made moved none)

-- it isn't counted
uncounted : (clock next : ℕ) (made : Option Step) → calls_device made ≡ false → next ≡ clock
    → next ≡ counted clock made
uncounted clock next made none same = same ∙ sym (ap (λ (calls : Bool). if calls then one_more clock else clock) none)

-- by whether there is a worker of the number
by_number : {A : Type 0} (number count : ℕ) → (number < count → A) → ((number < count → ⊥) → A) → A
by_number number count there absent = elim (cases_lt number count) [
  | inl is ↦ there is
  | inr least ↦ absent (λ is. omega (arith, least, is))
]

pub returns-in-Log-clause-goes : goal.returns-in-Log-clause-goes
returns-in-Log-clause-goes g c = λ b preserves next at.
    let before = c.args.self.now in
    let after = c.step_call-step.new.self in
    let traces = c.trace_step-in-Log.ensures in
    let old = store_state_of (g.D.CrashDisk.device before.store.disk) before.store.core before.calls in
    let new = store_state_of (g.D.CrashDisk.device after.store.disk) after.store.core after.calls in
    taken_on b old new (states_of before.workers.items) (states_of after.workers.items) before.clock after.clock
    c.step_call-step.result c.args.run.now
    c.trace_step-in-Log.new.self at c.has_few_steps.ensures
    (uncounted before.clock after.clock c.step_call-step.result c.step_call-step.ensures.quiet c.step_call-step.ensures.clock)
    c.step_call-step.ensures.step.device
    (subst (λ (ws : List State). IsGoing b new ws c.trace_step-in-Log.new.self)
    (sym (ap (λ ws. states_of ws.items) c.step_call-step.ensures.workers))
    (c.a_log_event_leaves_a_run_going.ensures b event.Log old new c.step_call-step.result
    (states_of before.workers.items) c.args.run.now
    c.trace_step-in-Log.new.self (subst (λ (e : Event). IsNextEvent b e c.args.run.now) c.in-Log.is next)
    c.step_call-step.ensures.step
    (is_quiet old new c.step_call-step.result c.step_call-step.ensures.step.device c.step_call-step.ensures.quiet)
    (record {
      steps = traces.steps;
      boot = traces.boot;
      history = ap (λ v. v.items) traces.history;
      answers = ap (λ v. v.items) traces.answers;
    }) at.going))

pub returns-in-LogIo-clause-goes : goal.returns-in-LogIo-clause-goes
returns-in-LogIo-clause-goes g c = λ b preserves next at.
    let before = c.args.self.now in
    let after = c.make_call-step.new.self in
    let traces = c.trace_step-in-LogIo.ensures in
    let old = store_state_of (g.D.CrashDisk.device before.store.disk) before.store.core before.calls in
    let new = store_state_of (g.D.CrashDisk.device after.store.disk) after.store.core after.calls in
    taken_on b old new (states_of before.workers.items) (states_of after.workers.items) before.clock after.clock
    c.make_call-step.result c.args.run.now
    c.trace_step-in-LogIo.new.self at c.has_few_steps.ensures c.make_call-step.ensures.clock
    c.make_call-step.ensures.step.device
    (subst (λ (ws : List State). IsGoing b new ws c.trace_step-in-LogIo.new.self)
    (sym (ap (λ ws. states_of ws.items) c.make_call-step.ensures.workers))
    (c.a_log_event_leaves_a_run_going.ensures b event.LogIo old new c.make_call-step.result
    (states_of before.workers.items) c.args.run.now
    c.trace_step-in-LogIo.new.self (subst (λ (e : Event). IsNextEvent b e c.args.run.now) c.in-LogIo.is next)
    c.make_call-step.ensures.step
    c.make_call-step.ensures.does
    (record {
      steps = traces.steps;
      boot = traces.boot;
      history = ap (λ v. v.items) traces.history;
      answers = ap (λ v. v.items) traces.answers;
    }) at.going))

pub returns-in-Install-clause-goes : goal.returns-in-Install-clause-goes
returns-in-Install-clause-goes g c = λ b preserves next at.
    let before = c.args.self.now in
    let after = c.step_call-step-in-Install.new.self in
    let traces = c.trace_step-in-Install.ensures in
    let old = store_state_of (g.D.CrashDisk.device before.store.disk) before.store.core before.calls in
    let new = store_state_of (g.D.CrashDisk.device after.store.disk) after.store.core after.calls in
    taken_on b old new (states_of before.workers.items) (states_of after.workers.items) before.clock after.clock
    c.step_call-step-in-Install.result c.args.run.now
    c.trace_step-in-Install.new.self at c.has_few_steps.ensures
    (uncounted before.clock after.clock c.step_call-step-in-Install.result
    c.step_call-step-in-Install.ensures.quiet c.step_call-step-in-Install.ensures.clock)
    c.step_call-step-in-Install.ensures.step.device
    (subst (λ (ws : List State). IsGoing b new ws c.trace_step-in-Install.new.self)
    (sym (ap (λ ws. states_of ws.items) c.step_call-step-in-Install.ensures.workers))
    (c.a_log_event_leaves_a_run_going.ensures b event.Install old new c.step_call-step-in-Install.result
    (states_of before.workers.items) c.args.run.now
    c.trace_step-in-Install.new.self (subst (λ (e : Event). IsNextEvent b e c.args.run.now) c.in-Install.is next)
    c.step_call-step-in-Install.ensures.step
    (is_quiet old new c.step_call-step-in-Install.result c.step_call-step-in-Install.ensures.step.device c.step_call-step-in-Install.ensures.quiet)
    (record {
      steps = traces.steps;
      boot = traces.boot;
      history = ap (λ v. v.items) traces.history;
      answers = ap (λ v. v.items) traces.answers;
    }) at.going))

pub returns-in-InstIo-clause-goes : goal.returns-in-InstIo-clause-goes
returns-in-InstIo-clause-goes g c = λ b preserves next at.
    let before = c.args.self.now in
    let after = c.make_call-step-in-InstIo.new.self in
    let traces = c.trace_step-in-InstIo.ensures in
    let old = store_state_of (g.D.CrashDisk.device before.store.disk) before.store.core before.calls in
    let new = store_state_of (g.D.CrashDisk.device after.store.disk) after.store.core after.calls in
    taken_on b old new (states_of before.workers.items) (states_of after.workers.items) before.clock after.clock
    c.make_call-step-in-InstIo.result c.args.run.now
    c.trace_step-in-InstIo.new.self at c.has_few_steps.ensures c.make_call-step-in-InstIo.ensures.clock
    c.make_call-step-in-InstIo.ensures.step.device
    (subst (λ (ws : List State). IsGoing b new ws c.trace_step-in-InstIo.new.self)
    (sym (ap (λ ws. states_of ws.items) c.make_call-step-in-InstIo.ensures.workers))
    (c.a_log_event_leaves_a_run_going.ensures b event.InstIo old new c.make_call-step-in-InstIo.result
    (states_of before.workers.items) c.args.run.now
    c.trace_step-in-InstIo.new.self (subst (λ (e : Event). IsNextEvent b e c.args.run.now) c.in-InstIo.is next)
    c.make_call-step-in-InstIo.ensures.step
    c.make_call-step-in-InstIo.ensures.does
    (record {
      steps = traces.steps;
      boot = traces.boot;
      history = ap (λ v. v.items) traces.history;
      answers = ap (λ v. v.items) traces.answers;
    }) at.going))

pub returns-in-Call-clause-goes : goal.returns-in-Call-clause-goes
returns-in-Call-clause-goes g c = λ b preserves next at.
    let before = c.args.self.now in
    let after = c.hand-step.new.self in
    let run_record = c.args.run.now in
    let last = c.trace_step.new.self in
    let number = c.in-Call.worker in
    let made = c.hand-step.result in
    let traces = c.trace_step.ensures in
    let old = store_state_of (g.D.CrashDisk.device before.store.disk) before.store.core before.calls in
    let new = store_state_of (g.D.CrashDisk.device after.store.disk) after.store.core after.calls in
    let workers = states_of before.workers.items in
    let later = states_of after.workers.items in
    let is_next = subst (λ (e : Event). IsNextEvent b e run_record) c.in-Call.is next in
    let same : old ≡ new = ap (λ r. store_state_of (g.D.CrashDisk.device r.store.disk) r.store.core r.calls)
    (sym c.hand-step.ensures.rest) in
    let clock : after.clock ≡ before.clock = ap (λ r. r.clock) c.hand-step.ensures.rest in
    let traced : TracesStep made run_record last = record {
      steps = traces.steps;
      boot = traces.boot;
      history = ap (λ v. v.items) traces.history;
      answers = ap (λ v. v.items) traces.answers;
    } in
    worked_on b old new workers later before.clock after.clock run_record last at clock
    (ap (λ (s : StoreState). s.device) (sym same))
    (by_number number (length before.workers.items) (λ there.
    let moves = c.hand-step.ensures.step there is_next.sound.timely is_next.sound.fits in
    subst (λ (s : StoreState). IsGoing b s later last) same
    (c.a_call_leaves_a_run_going.ensures.goes b number c.in-Call.credential c.in-Call.moment c.in-Call.call old
    workers later moves.old.state moves.new.state made run_record last is_next moves.list moves.does.0
    (λ went. goes_with moves.new old.core (moves.does.1 old.core went.core_of)) traced at.going)) (λ absent.
    let none = c.hand-step.ensures.absent absent in
    let stays = c.a_call_leaves_a_run_going.ensures.absent b number c.in-Call.credential c.in-Call.moment
    c.in-Call.call old workers run_record last is_next (no_state before.workers.items number absent)
    (subst (λ m. TracesStep m run_record last) none.0 traced) at.going in
    subst (λ r. IsGoing b (store_state_of (g.D.CrashDisk.device r.store.disk) r.store.core r.calls)
    (states_of r.workers.items) last) (sym none.1) stays))

pub returns-in-Read-clause-goes : goal.returns-in-Read-clause-goes
returns-in-Read-clause-goes g c = λ b preserves next at.
    let before = c.args.self.now in
    let after = c.read-step.new.self in
    let run_record = c.args.run.now in
    let last = c.trace_step-in-Read.new.self in
    let number = c.in-Read.worker in
    let made = c.read-step.result in
    let traces = c.trace_step-in-Read.ensures in
    let d = g.D.CrashDisk.device before.store.disk in
    let e = g.D.CrashDisk.device after.store.disk in
    let old = store_state_of d before.store.core before.calls in
    let new = store_state_of e after.store.core after.calls in
    let workers = states_of before.workers.items in
    let later = states_of after.workers.items in
    let is_next = subst (λ (e : Event). IsNextEvent b e run_record) c.in-Read.is next in
    let same : store_state_of e before.store.core before.calls ≡ new =
    λ i. store_state_of e (sym c.read-step.ensures.rest.1 i) (sym c.read-step.ensures.rest.0 i) in
    let traced : TracesStep made run_record last = record {
      steps = traces.steps;
      boot = traces.boot;
      history = ap (λ v. v.items) traces.history;
      answers = ap (λ v. v.items) traces.answers;
    } in
    read_on b old new workers later before.clock after.clock made run_record last at
    c.has_few_steps.ensures c.read-step.ensures.clock traces.steps
    (by_number number (length before.workers.items) (λ there.
    let moves = c.read-step.ensures.step there in
    subst (λ (s : StoreState). IsGoing b s later last) same
    (c.a_read_leaves_a_run_going.ensures.goes b number old e workers later moves.old.state moves.new.state
    made run_record last is_next moves.list
    (has_contents d (g.met.D.CrashDisk.whole before.store.disk (c.read-step.ensures.model preserves)))
    (with_model (g.D.CrashDisk.keeps_model after.store.disk) d e moves.old.state moves.new.state made preserves
    moves.does.0)
    (λ went. goes_with moves.new old.core (moves.does.1 old.core went.core_of)) traced at.going)) (λ absent.
    let none = c.read-step.ensures.absent absent in
    let stays = c.a_read_leaves_a_run_going.ensures.absent b number old workers run_record last is_next
    (no_state before.workers.items number absent) (subst (λ m. TracesStep m run_record last) none.0 traced) at.going in
    subst (λ r. IsGoing b (store_state_of (g.D.CrashDisk.device r.store.disk) r.store.core r.calls)
    (states_of r.workers.items) last) (sym none.1) stays))

pub returns-in-Work-clause-goes : goal.returns-in-Work-clause-goes
returns-in-Work-clause-goes g c = λ b preserves next at.
    let before = c.args.self.now in
    let after = c.work-step.new.self in
    let run_record = c.args.run.now in
    let mid = c.work-step.new.run in
    let last = c.trace_step-in-Work.new.self in
    let number = c.in-Work.worker in
    let made = c.work-step.result in
    let traces = c.trace_step-in-Work.ensures in
    let d = g.D.CrashDisk.device before.store.disk in
    let e = g.D.CrashDisk.device after.store.disk in
    let old = store_state_of d before.store.core before.calls in
    let new = store_state_of e after.store.core after.calls in
    let workers = states_of before.workers.items in
    let later = states_of after.workers.items in
    let is_next = subst (λ (e : Event). IsNextEvent b e run_record) c.in-Work.is next in
    let same_device = ap g.D.CrashDisk.device c.work-step.ensures.disk in
    let same : (record old { core = after.store.core }) ≡ new =
    λ i. store_state_of (sym same_device i) after.store.core (sym c.work-step.ensures.rest.0 i) in
    let traced : TracesStep made mid last = record {
      steps = traces.steps;
      boot = traces.boot;
      history = ap (λ v. v.items) traces.history;
      answers = ap (λ v. v.items) traces.answers;
    } in
    worked_on b old new workers later before.clock after.clock run_record last at
    c.work-step.ensures.rest.1 same_device
    (by_number number (length before.workers.items) (λ there.
    let moves = c.work-step.ensures.step there in
    subst (λ (s : StoreState). IsGoing b s later last) same
    (c.a_work_event_leaves_a_run_going.ensures.goes b number before.clock old workers later moves.old.state
    moves.new.state after.store.core made run_record mid last is_next at.going moves.list
    (clock_is_counted b old workers before.clock run_record at) moves.does.0 moves.does.1 traced)) (λ absent.
    let none = c.work-step.ensures.absent absent in
    let stays = c.a_work_event_leaves_a_run_going.ensures.absent b number old workers run_record last is_next
    (no_state before.workers.items number absent)
    (subst (λ (r : Run). TracesStep None r last) none.2 (subst (λ m. TracesStep m mid last) none.0 traced)) at.going in
    subst (λ r. IsGoing b (store_state_of (g.D.CrashDisk.device r.store.disk) r.store.core r.calls)
    (states_of r.workers.items) last) (sym none.1) stays))
