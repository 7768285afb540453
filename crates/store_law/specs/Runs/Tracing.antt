-- What an event adds to what a run tells: its step, and with it a procedure that was committed and an answer,
-- where there is one.
use Rattle.std.specs.Prelude.{◌≡◌, ℕ, ◌+◌, Bool, true, false, not, ◌&&◌, length, List, [], ◌∷◌, ◌++◌}
use Rattle.std.specs.Prelude.{Option, Some, None}
use Rattle.disk.specs.declared.block.BlockNo.{BlockNo}
use Rattle.store_promise.specs.declared.events.Committing.TheVariants as committing
use Rattle.store_promise.specs.declared.events.Event.{Event}
use Rattle.store_promise.specs.declared.events.Event.TheVariants as event
use Rattle.store_promise.specs.declared.events.Step.{Step}
use Rattle.store_promise.specs.declared.events.Step.TheVariants as step
use Rattle.store_promise.specs.declared.transcript.Answer.{Answer}
use Rattle.store_promise.specs.declared.transcript.Committed.{Committed}
use Rattle.store_promise.specs.History.{ctx_of}
use Rattle.store_promise.specs.Progress.{At, Begun, Job, Planning, Progress, Stage, is_idle}
use Rattle.store_promise.specs.Schedule.{Schedule, RunState, state_after, state_before, worker_of}
use Rattle.store_promise.specs.Transcript.{Transcript, device_calls}
use Rattle.store_promise.specs.Verdicts.{HasVerdict}

-- what an event adds
pub record Traced : Type 0 where
  pub entry : Option Committed
  pub answer : Option Answer
  pub made : Option Step

abbrev pub listed : {A : Type 0} → Option A → List A
listed None = []
listed (Some one) = one ∷ []

-- what is told with it
abbrev pub with_traced : Transcript → Traced → Transcript
with_traced t traced = record {
  boot = t.boot;
  history = t.history ++ listed traced.entry;
  answers = t.answers ++ listed traced.answer;
  steps = t.steps ++ traced.made ∷ [];
}

-- what is told so far, before the next event, and how far a worker is then
abbrev pub state_now : Schedule → Transcript → RunState
state_now events t = state_before events t.steps (length t.steps)

abbrev pub progress_now : Schedule → Transcript → ℕ → Progress
progress_now events t worker = (state_now events t).workers worker

-- the device calls that the events have made so far
abbrev pub clock_now : Transcript → ℕ
clock_now t = device_calls t (length t.steps)

-- ---- the procedure

-- a step that commits a procedure
abbrev pub commits : Option Step → Bool
commits (Some (step.Commit blocks (committing.Committed place))) = true
commits _ = false

-- The entry is that of the procedure that the event's step commits, at the next place: of the call that its
-- worker has, in the transaction that was begun for it.
pub record IsCommitOf (events : Schedule) (t : Transcript) (now : Event) (made : Option Step) (c : Committed)
    : Type 0 where
  pub event_is : now ≡ event.Work c.worker
  pub blocks : List BlockNo
  pub made_is : made
      ≡ Some (step.Commit blocks (committing.Committed (record { 0 = length t.history + 1 })))
  pub job : Job
  pub begun : Begun
  pub planned : progress_now events t c.worker ≡ At job (Planning begun)
  pub ctx : c.ctx ≡ ctx_of t.boot job begun
  pub call : c.call ≡ job.call
  pub event : c.event ≡ length t.steps
  pub clock : c.clock ≡ clock_now t

-- a procedure is told just where one is committed
abbrev pub IsEntryOf : Schedule → Transcript → Event → Option Step → Option Committed → Type 0
IsEntryOf events t now made None = commits made ≡ false
IsEntryOf events t now made (Some c) = IsCommitOf events t now made c

-- ---- the answer

-- the event ends a worker's call: it was so far with one, and has none then
abbrev pub ends_of : RunState → RunState → Option ℕ → Bool
ends_of before after None = false
ends_of before after (Some worker) = not (is_idle (before.workers worker)) && is_idle (after.workers worker)

abbrev pub ends : RunState → Event → Option Step → Bool
ends run_state now made = ends_of run_state (state_after run_state now made) (worker_of now)

-- The answer ends the call of its worker with the event's step, in what is told with it.
pub record IsAnswerWith (events : Schedule) (t run_state : Transcript) (now : Event)
    (made : Option Step) (a : Answer) : Type 0 where
  pub event_is : now ≡ event.Work a.worker
  pub job : Job
  pub stage : Stage
  pub so_far : progress_now events t a.worker ≡ At job stage
  pub step : Step
  pub made_is : made ≡ Some step
  pub ends : is_idle ((state_after (state_now events t) now made).workers a.worker) ≡ true
  pub verdict : HasVerdict run_state job.call stage step a
  pub event : a.event ≡ length t.steps
  pub clock : a.clock ≡ clock_now t

-- an answer is told just where a call ends
abbrev pub IsAnswerOf : Schedule → Transcript → Transcript → Event → Option Step → Option Answer → Type 0
IsAnswerOf events t run_state now made None = ends (state_now events t) now made ≡ false
IsAnswerOf events t run_state now made (Some a) = IsAnswerWith events t run_state now made a

-- what an event adds tells of it
pub record TellsOfEvent (events : Schedule) (t : Transcript) (now : Event) (traced : Traced) : Type 0 where
  pub entry : IsEntryOf events t now traced.made traced.entry
  pub answer : IsAnswerOf events t (with_traced t traced) now traced.made traced.answer
