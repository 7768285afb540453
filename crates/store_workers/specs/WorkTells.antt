-- What a worker's step tells, and what lies ready after it, by how far the worker was.
use Rattle.std.specs.Prelude.{◌≡◌, ℕ, ◌+◌, Bool, not, ◌&&◌, Option, Some, None, IfSome, IsSomeAnd, is_some}
use Rattle.std.specs.Prelude.{List, [], ◌∷◌, ◌++◌, length}
use Rattle.nfs_spec.specs.Model.Entry.{Entry}
use Rattle.store_promise.specs.History.{ctx_of}
use Rattle.store_promise.specs.Progress.{Begun, Job, Progress, Stage, At, Called, Planning, is_idle, progressed}
use Rattle.store_promise.specs.Schedule.{IsStepOfCall, IsStepOfRead}
use Rattle.store_promise.specs.Transcript.{Transcript, committed_at}
use Rattle.store_promise.specs.Verdicts.{HasVerdict}
use Rattle.store_promise.specs.declared.answers.CallAnswer.{CallAnswer}
use Rattle.store_promise.specs.declared.answers.Entry as ready
use Rattle.store_promise.specs.declared.events.Committing.TheVariants.{Committed}
use Rattle.store_promise.specs.declared.events.Step.{Step}
use Rattle.store_promise.specs.declared.events.Step.TheVariants as step
use Rattle.store_promise.specs.declared.transcript.Answer.{Answer}
use Rattle.store_promise.specs.declared.transcript.Committed as traced
use Rattle.store_workers.specs.Stages.{IsWorkerAt, entry_at, progress_of}
use Rattle.store_workers.specs.RunReports.{reported}
use Rattle.store_workers.specs.WorkerSteps.{WorkerAndCore}
use Rattle.store_workers.specs.declared.workers.parts.State.{State}

-- ---- how far the worker is

-- after a step of its own, or after none
abbrev pub progress_after : Bool → Option Step → Progress → Progress
progress_after broken None progress = progress
progress_after broken (Some made) progress = progressed broken made progress

-- ---- the entry

-- what lies ready is the entry of the call that the worker planned
pub record IsEntryOf (boot : ℕ) (progress : Progress) (entry : ready.Entry) : Type 0 where
  pub job : Job
  pub begun : Begun
  pub planned : progress ≡ At job (Planning begun)
  pub ctx : entry.ctx ≡ ctx_of boot job begun
  pub call : entry.call ≡ job.call

-- a step that commits leaves one, at the next place, and every other none
abbrev pub TellsEntry : ℕ → ℕ → Progress → Option Step → Option ready.Entry → Type 0
TellsEntry boot places progress (Some (step.Commit added (Committed place))) entry =
    (place.0 ≡ places + 1) × IsSomeAnd entry (IsEntryOf boot progress)
TellsEntry boot places progress _ entry = entry ≡ None

-- the entry as one of this worker's
abbrev pub entries_ready : ℕ → Option ready.Entry → List Entry
entries_ready worker None = []
entries_ready worker (Some entry) =
    record { worker = worker; ctx = entry.ctx; call = entry.call; reply = entry.reply } ∷ []

-- the procedures that were committed, with that of the step
abbrev pub with_ready : ℕ → List Entry → State → List Entry
with_ready worker entries state = entries ++ entries_ready worker state.work.entry

-- ---- the answer

-- a transcript has at the place of each of these entries its reply
abbrev pub HasReplies : Transcript → List Entry → Type 0
HasReplies t entries = (place : ℕ) (entry : Entry) → entry_at entries place ≡ Some entry
    → (c : traced.Committed) × (committed_at t place ≡ Some c) × (c.reply ≡ entry.reply)

-- What lies ready is what the promise wants of an answer, with the step that ends the call, in each
-- transcript that has these entries.
pub record IsAnswerOf (entries : List Entry) (progress : Progress) (made : Option Step) (ready : CallAnswer)
    : Type 0 where
  pub job : Job
  pub stage : Stage
  pub so_far : progress ≡ At job stage
  pub step : Step
  pub made_is : made ≡ Some step
  pub verdict : (t : Transcript) (answer : Answer) → HasReplies t entries → answer.verdict ≡ ready.verdict
      → answer.place ≡ ready.place → HasVerdict t job.call stage step answer

-- an answer lies ready just where the call ends
pub record TellsAnswer (entries : List Entry) (old new : Progress) (made : Option Step)
    (answer : Option CallAnswer) : Type 0 where
  pub ends : is_some answer ≡ (not (is_idle old) && is_idle new)
  pub is_of : IfSome answer (IsAnswerOf entries old made)

-- ---- a step of the worker

-- What a step tells, of a worker of this number: how far the worker is then, the entry and the answer that
-- lie ready. Once these are told, the worker stands between the events again.
pub record TellsStep (boot number : ℕ) (entries : List Entry) (old : WorkerAndCore) (made : Option Step) (new : WorkerAndCore)
    : Type 0 where
  pub progress : progress_of new.worker ≡ progress_after old.core.log.broken made (progress_of old.worker)
  pub entry : TellsEntry boot (length entries) (progress_of old.worker) made new.worker.work.entry
  pub answer : TellsAnswer (with_ready number entries new.worker) (progress_of old.worker)
      (progress_of new.worker) made new.worker.work.answer
  pub stands : IsWorkerAt boot (with_ready number entries new.worker) (reported new.worker)

-- ---- a call that is handed over, and a read

-- how far the worker is once it took a call, or where it took none
abbrev pub once_handed : Job → Option Step → Progress → Progress
once_handed job None progress = progress
once_handed job (Some made) progress = At job (Called [])

-- what the event tells of a worker that may take a call
pub record TellsCall (boot : ℕ) (entries : List Entry) (job : Job) (old : State)
    (made : Option Step) (new : State) : Type 0 where
  pub may : IsStepOfCall (progress_of old) made
  pub progress : progress_of new ≡ once_handed job made (progress_of old)
  pub stands : IsWorkerAt boot entries new

-- and what it tells of one that may read
pub record TellsRead (boot : ℕ) (entries : List Entry) (old : State) (made : Option Step) (new : State) : Type 0
  where
    pub may : IsStepOfRead (progress_of old) made
    pub progress : (broken : Bool) → progress_of new ≡ progress_after broken made (progress_of old)
    pub stands : IsWorkerAt boot entries new
