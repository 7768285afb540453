-- What a run notes with a step of its worker, in the promise's words.
use Rattle.std.specs.Prelude.{◌≡◌, ℕ, ◌+◌, Bool, true, false, not, ◌&&◌, Option, Some, [], ◌∷◌, ◌++◌, length}
use Rattle.store_promise.specs.History.{ctx_of}
use Rattle.store_promise.specs.Progress.{Begun, Job, Progress, Stage, At, Planning, is_idle}
use Rattle.store_promise.specs.Transcript.{Transcript, entries_of, transcript_of}
use Rattle.store_promise.specs.Verdicts.{HasVerdict}
use Rattle.store_promise.specs.declared.events.Committing.TheVariants as committing
use Rattle.store_promise.specs.declared.events.Step.{Step}
use Rattle.store_promise.specs.declared.events.Step.TheVariants as step
use Rattle.store_promise.specs.declared.transcript.Answer.{Answer}
use Rattle.store_promise.specs.declared.transcript.Committed.{Committed}
use Rattle.store_promise.specs.declared.transcript.Run.{Run}
use Rattle.store_workers.specs.Stages.{IsWorkerAt, progress_of}
use Rattle.store_workers.specs.WorkTells.{HasReplies, progress_after}
use Rattle.store_workers.specs.WorkerSteps.{WorkerAndCore}

-- A procedure is noted more, with the next place: it is that of the call that the worker planned, and was
-- committed at the event now taken.
pub record TracesProcedure (boot number clock : ℕ) (progress : Progress) (place : ℕ) (before after : Run) : Type 0 where
  pub committed : Committed
  pub history : after.history.items ≡ before.history.items ++ committed ∷ []
  pub next : place ≡ length before.history.items + 1
  pub worker : committed.worker ≡ number
  pub event : committed.event ≡ length before.steps.items
  pub clock_is : committed.clock ≡ clock
  pub job : Job
  pub begun : Begun
  pub planned : progress ≡ At job (Planning begun)
  pub ctx : committed.ctx ≡ ctx_of boot job begun
  pub call : committed.call ≡ job.call

-- so it is with a step that commits, and with no other
abbrev pub TracesHistory : ℕ → ℕ → ℕ → Progress → Option Step → Run → Run → Type 0
TracesHistory boot number clock progress (Some (step.Commit added (committing.Committed place))) before after =
    TracesProcedure boot number clock progress place.0 before after
TracesHistory boot number clock progress _ before after = after.history.items ≡ before.history.items

-- An answer is noted more: the one that the promise wants with the step, in each transcript that has the
-- procedures noted so far.
pub record TracesAnswer (number clock : ℕ) (progress : Progress) (made : Option Step)
    (before after : Run) : Type 0 where
  pub answer : Answer
  pub answers : after.answers.items ≡ before.answers.items ++ answer ∷ []
  pub worker : answer.worker ≡ number
  pub event : answer.event ≡ length before.steps.items
  pub clock_is : answer.clock ≡ clock
  pub job : Job
  pub stage : Stage
  pub so_far : progress ≡ At job stage
  pub step : Step
  pub made_is : made ≡ Some step
  pub verdict : (t : Transcript) → HasReplies t (entries_of (transcript_of after))
      → HasVerdict t job.call stage step answer

-- so it is where the call ends, and nowhere else
abbrev pub TracesAnswers : Bool → ℕ → ℕ → Progress → Option Step → Run → Run → Type 0
TracesAnswers true number clock progress made before after = TracesAnswer number clock progress made before after
TracesAnswers false number clock progress made before after = after.answers.items ≡ before.answers.items

-- What a run notes with a step of its worker. The worker is then as far as the step tells.
pub record TracesWork (boot number clock : ℕ) (old : WorkerAndCore) (made : Option Step) (new : WorkerAndCore)
    (before after : Run) : Type 0 where
  pub progress : progress_of new.worker ≡ progress_after old.core.log.broken made (progress_of old.worker)
  pub history : TracesHistory boot number clock (progress_of old.worker) made before after
  pub answers : TracesAnswers (not (is_idle (progress_of old.worker)) && is_idle
      (progress_of new.worker)) number clock (progress_of old.worker) made before after
  pub steps : after.steps ≡ before.steps
  pub boot_is : after.boot ≡ before.boot
  pub stands : IsWorkerAt boot (entries_of (transcript_of after)) new.worker
