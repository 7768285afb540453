-- What a run tells of its worker's events.
use Rattle.std.specs.Prelude.{◌≡◌, ℕ, Option, Some, None, List, [], ◌∷◌, ◌++◌, length}
use Rattle.nfs_types.specs.declared.call.Call.{Call}
use Rattle.nfs_types.specs.declared.ctx.Ctx.{Ctx}
use Rattle.store_promise.specs.declared.answers.CallAnswer.{CallAnswer}
use Rattle.store_promise.specs.declared.answers.Entry.{Entry}
use Rattle.store_promise.specs.declared.events.Step.{Step}
use Rattle.store_promise.specs.declared.events.Step.TheVariants as step
use Rattle.store_promise.specs.declared.transcript.Answer.{Answer}
use Rattle.store_promise.specs.declared.transcript.Committed.{Committed}
use Rattle.store_promise.specs.declared.transcript.Run.{Run}
use Rattle.store_workers.specs.Traces.{committed_by}
use Rattle.store_workers.specs.Worker.{with_call}
use Rattle.store_workers.specs.WorkerSteps.{GoesOn, WorkerAndCore, worker_and_core}
use Rattle.store_workers.specs.declared.workers.parts.Phase.TheVariants.{Idle}
use Rattle.store_workers.specs.declared.workers.parts.State.{State}

-- a worker takes a call where it is idle; else nothing happens
abbrev pub TakesCall : Ctx → Call → State → Option Step → State → Type 0
TakesCall ctx call old None new = (new ≡ old) × (old.phase ≡ Idle → ⊥)
TakesCall ctx call old (Some made) new = (made ≡ step.Called) × (old.phase ≡ Idle)
    × (new ≡ with_call ctx call old)

-- the procedure that was committed at the event now taken, if one was
abbrev pub entries_traced : ℕ → ℕ → ℕ → Option Entry → List Committed
entries_traced worker event clock None = []
entries_traced worker event clock (Some entry) = record {
  worker = worker;
  ctx = entry.ctx;
  call = entry.call;
  reply = entry.reply;
  event = event;
  clock = clock;
} ∷ []

-- the answer that was given at it, if one was
abbrev pub answers_traced : ℕ → ℕ → ℕ → Option CallAnswer → List Answer
answers_traced worker event clock None = []
answers_traced worker event clock (Some answer) = record {
  worker = worker;
  verdict = answer.verdict;
  place = answer.place;
  event = event;
  clock = clock;
} ∷ []

-- what a run tells with these
pub record TellsWork (worker clock : ℕ) (entry : Option Entry) (answer : Option CallAnswer) (before after : Run)
    : Type 0 where
  pub history : after.history.items
      ≡ before.history.items ++ entries_traced worker (length before.steps.items) clock entry
  pub answers : after.answers.items
      ≡ before.answers.items ++ answers_traced worker (length before.steps.items) clock answer
  pub steps : after.steps ≡ before.steps
  pub boot : after.boot ≡ before.boot

-- a worker of whom all is told
abbrev pub reported : State → State
reported state = record state { work = record state.work { entry = None; answer = None } }

-- The worker made its step, and what it committed and answered is told, and doesn't lie ready any more.
pub record HasWorked (worker clock : ℕ) (old : WorkerAndCore) (made : Option Step) (new : WorkerAndCore)
    (before after : Run) : Type 0 where
  pub state : State
  pub goes : GoesOn old.worker.phase old made (worker_and_core state new.core)
  pub taken : new.worker ≡ reported state
  pub tells : TellsWork worker clock (committed_by made state) state.work.answer before after
