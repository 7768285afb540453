-- What a run may answer.
use Rattle.std.specs.Prelude.{◌≡◌, ℕ, ◌+◌, ◌<◌, Bool, true, false, length, slice_get, Some, None, Err, Contains}
use Rattle.nfs_types.specs.declared.call.Call.{Call}
use Rattle.nfs_types.specs.declared.call.Call.TheVariants as call
use Rattle.nfs_types.specs.declared.status.Status.TheVariants as status
use Rattle.nfs_types.specs.declared.reply.Reply.TheVariants.{Null}
use Rattle.nfs_spec.specs.Model.Calls.{is_answered_stable}
use Rattle.txn.specs.declared.outcomes.BeginFault.{BeginFault}
use Rattle.txn.specs.declared.outcomes.BeginFault.TheVariants as fault
use Rattle.circ.specs.declared.log.outcomes.Seq.{Seq}
use Rattle.store_promise.specs.declared.answers.Verdict.{Verdict}
use Rattle.store_promise.specs.declared.answers.Verdict.TheVariants as verdict
use Rattle.store_promise.specs.declared.events.Cause.{Cause}
use Rattle.store_promise.specs.declared.events.Cause.TheVariants as cause
use Rattle.store_promise.specs.declared.events.Committing.TheVariants as committing
use Rattle.store_promise.specs.declared.events.Ending.TheVariants as ending
use Rattle.store_promise.specs.declared.events.Event.{Event}
use Rattle.store_promise.specs.declared.events.Event.TheVariants as event
use Rattle.store_promise.specs.declared.events.Step.{Step}
use Rattle.store_promise.specs.declared.events.Step.TheVariants as step
use Rattle.store_promise.specs.declared.transcript.Answer.{Answer}
use Rattle.store_promise.specs.declared.transcript.Committed.{Committed}
use Rattle.nfs_spec.specs.Model.Refused.{refused}
use Rattle.store_promise.specs.Progress.{Job, Stage, At, Called, Planning, Refused, Waiting, is_idle}
use Rattle.store_promise.specs.Schedule.{Schedule, worker_of, progress_before}
use Rattle.store_promise.specs.Transcript.{Transcript, step_at, committed_at, device_calls}

-- The answer is the reply of the procedure of a place, which is to be answered, with refusals too, only once
-- what it changed is stable (RFC 1813, section 4.8).
pub record IsStableAnswer (t : Transcript) (answer : Answer) (place : ℕ) : Type 0 where
  pub entry : Committed
  pub is_entry : committed_at t place ≡ Some entry
  pub placed : answer.place ≡ Some (record { 0 = place })
  pub waits : is_answered_stable entry.call ≡ true
  pub is_replied : answer.verdict ≡ verdict.Reply entry.reply

abbrev pub is_commit : Call → Bool
is_commit (call.Commit file offset count) = true
is_commit _ = false

abbrev pub is_write : Call → Bool
is_write (call.Write file offset count stability bytes) = true
is_write _ = false

-- The write of a place is covered by the answer to a COMMIT of a later place (RFC 1813, section 3.3.21).
pub record IsCoveredWrite (t : Transcript) (answer : Answer) (place : ℕ) : Type 0 where
  pub write : Committed
  pub is_entry : committed_at t place ≡ Some write
  pub writes : is_write write.call ≡ true
  pub by : ℕ
  pub later : place < by
  pub stable : IsStableAnswer t answer by
  pub commits : is_commit stable.entry.call ≡ true

-- why no transaction is begun for a call, as the cause for which the call is refused
abbrev pub cause_of : BeginFault → Cause
cause_of fault.Broken = cause.Io
cause_of fault.Spent = cause.Spent
cause_of (fault.NoMemory error) = cause.NoMemory error

-- what a call is answered that is refused for a cause
abbrev pub refusal : Call → Cause → Verdict
refusal asked cause.Io = verdict.Reply (refused status.Io asked)
refusal asked cause.Spent = verdict.Reply (refused status.ServerFault asked)
refusal asked (cause.NoMemory error) = verdict.NoMemory error

-- the answer is of no procedure
abbrev pub IsOfNone : Verdict → Answer → Type 0
IsOfNone is_replied a = (a.place ≡ None) × (a.verdict ≡ is_replied)

-- the answer is the reply of the procedure of this place
pub record IsReplyAt (t : Transcript) (place : Seq) (a : Answer) : Type 0 where
  pub entry : Committed
  pub is_entry : committed_at t place.0 ≡ Some entry
  pub placed : a.place ≡ Some place
  pub is_replied : a.verdict ≡ verdict.Reply entry.reply

-- the procedure of this place was committed, and a failure kept it from being settled
abbrev pub IsUnsettledAt : Call → Seq → Answer → Type 0
IsUnsettledAt asked place a = (a.place ≡ Some place) × (a.verdict ≡ verdict.Reply (refused status.Io asked))

-- What a worker answers with a step that ends its call, by how far it was: the reply of its procedure, with the
-- step that commits it or, where it is to be answered once it is stable, with the one that finds its place
-- settled; IO in its stead, where the store broke before; a refusal of a procedure that wasn't committed; or the
-- reply of NULL, which takes no transaction.
abbrev pub HasVerdict : Transcript → Call → Stage → Step → Answer → Type 0
HasVerdict t asked (Called known) step.Replied a = IsOfNone (verdict.Reply Null) a
HasVerdict t asked (Called known) (step.Begun (Err why)) a = IsOfNone (refusal asked (cause_of why)) a
HasVerdict t asked (Planning begun) (step.Commit blocks (committing.Committed place)) a = IsReplyAt t place a
HasVerdict t asked (Planning begun) (step.Ended (ending.NoMemory error)) a = IsOfNone (verdict.NoMemory error) a
HasVerdict t asked (Refused begun why) (step.Ended ending.Refused) a = IsOfNone (refusal asked why) a
HasVerdict t asked (Waiting place) (step.Stable seq true) a = IsReplyAt t (record { 0 = place }) a
HasVerdict t asked (Waiting place) (step.Stable seq false) a = IsUnsettledAt asked (record { 0 = place }) a
HasVerdict t asked _ _ a = ⊥

-- The answer ends the call of its worker, with a step of the worker's own, at the clock of the device calls
-- made by then.
pub record IsAnswer (events : Schedule) (t : Transcript) (a : Answer) : Type 0 where
  pub event : slice_get events a.event ≡ Some (event.Work a.worker)
  pub job : Job
  pub stage : Stage
  pub so_far : progress_before events t.steps a.worker a.event ≡ At job stage
  pub step : Step
  pub made : step_at t a.event ≡ Some step
  pub ends : is_idle (progress_before events t.steps a.worker (a.event + 1)) ≡ true
  pub verdict : HasVerdict t job.call stage step a
  pub clock : a.clock ≡ device_calls t a.event

-- Each answer is one to a call, and leaves its worker without one, so that no call has two. They come in the
-- order of their events, one an event; no procedure is answered twice; and each event by which a worker ends a
-- call gives its answer.
pub record AreAnswers (events : Schedule) (t : Transcript) : Type 0 where
  pub each : (index : ℕ) (a : Answer) → slice_get t.answers index ≡ Some a → IsAnswer events t a
  pub placed_once : (one other place : ℕ) (a b : Answer) → slice_get t.answers one ≡ Some a
      → slice_get t.answers other ≡ Some b → a.place ≡ Some (record { 0 = place })
      → b.place ≡ Some (record { 0 = place }) → one ≡ other
  pub ordered : (one other : ℕ) (a b : Answer) → slice_get t.answers one ≡ Some a
      → slice_get t.answers other ≡ Some b → one < other → a.event < b.event
  pub whole : (index worker : ℕ) (event : Event) → slice_get events index ≡ Some event
      → index < length t.steps → worker_of event ≡ Some worker
      → is_idle (progress_before events t.steps worker index) ≡ false
      → is_idle (progress_before events t.steps worker (index + 1)) ≡ true
      → (a : Answer) × Contains t.answers a × (a.event ≡ index)
