-- What one step makes of a worker at its seat, and of the core.
use Rattle.std.specs.Prelude.{◌≡◌, ℕ, true, false, Bool, Option, Some, None}
use Rattle.disk.specs.Ports.{AnsweredCalls}
use Rattle.nfs_types.specs.declared.ctx.Moment.{Moment}
use Rattle.store_promise.specs.declared.events.Committing.{Committing}
use Rattle.store_promise.specs.declared.events.Committing.TheVariants as committing
use Rattle.store_promise.specs.declared.events.Step.{Step}
use Rattle.store_promise.specs.declared.events.Step.TheVariants as step
use Rattle.store_promise.specs.declared.events.LockAnswer.{LockAnswer}
use Rattle.store_promise.specs.declared.events.LockAnswer.TheVariants as lock_answer
use Rattle.store_workers.specs.SourceReads.{HasReadFrom}
use Rattle.store_workers.specs.RunReports.{reported}
use Rattle.store_workers.specs.Witnessed.{WitnessesCommit}
use Rattle.store_workers.specs.Worker.{at_rest, ctx_of, with_call}
use Rattle.store_workers.specs.Seen.{seen_in}
use Rattle.store_workers.specs.WorkerSteps.{GoesOn, with_snap, worker_and_core}
use Rattle.store_workers.specs.declared.workers.parts.Phase.TheVariants.{Idle}
use Rattle.store_workers.specs.declared.workers.parts.State.{State}
use Rattle.txn.specs.Core.{CoreState}
use Rattle.txn.specs.Receipts.{Given}
use Rattle.procs.specs.Outcome.{Outcome}
use Rattle.wal_calls.specs.declared.seats.turn.Turn.{Turn}
use Rattle.wal_calls.specs.declared.seats.turn.Turn.TheVariants as turn
use Rattle.pool_requests.specs.declared.jobs.job.Job.{Job}
use Rattle.pool.specs.Answers.{in_flight_after, none_in_flight}
use Rattle.pool.specs.Working.{Working}
use Rattle.pool.specs.declared.step_result.StepResult.{StepResult}
use Rattle.pool.specs.declared.step_result.StepResult.TheVariants.{Nothing, Committed, LockDeferred, Full}

-- it has no job, and no answer lies ready
abbrev pub IsFree : Working → Type 0
IsFree w = (w.worker.phase ≡ Idle) × (w.in_flight.answer ≡ None)

-- a worker that was handed nothing yet
abbrev pub seated : Working
seated = record { worker = at_rest; in_flight = none_in_flight; step_result = Nothing }

-- it was handed a job at this moment
abbrev pub with_job : Job → Moment → Working → Working
with_job job moment w = record {
  worker = with_call (ctx_of job.credential moment) job.call w.worker;
  in_flight = record { reply_address = Some (record { job = job; moment = moment }); witness = None; answer = None };
  step_result = Nothing;
}

-- ---- a step

-- what a lock request was told
abbrev pub result_of_lock_answer : LockAnswer → StepResult
result_of_lock_answer lock_answer.Busy = LockDeferred
result_of_lock_answer lock_answer.Loading = LockDeferred
result_of_lock_answer lock_answer.Held = Nothing
result_of_lock_answer lock_answer.Fetch = Nothing
result_of_lock_answer lock_answer.Outside = Nothing
result_of_lock_answer (lock_answer.NoMemory error) = Nothing

abbrev pub result_of_commit : Committing → StepResult
result_of_commit (committing.Committed place) = Committed
result_of_commit committing.Full = Full
result_of_commit committing.Foreign = Nothing
result_of_commit (committing.NoMemory error) = Nothing
result_of_commit committing.Broken = Nothing
result_of_commit committing.Spent = Nothing

-- what a step was told
abbrev pub result_of_step : Option Step → StepResult
result_of_step (Some (step.Wanted addr mode met)) = result_of_lock_answer met
result_of_step (Some (step.Claimed block met)) = result_of_lock_answer met
result_of_step (Some (step.Commit blocks ended)) = result_of_commit ended
result_of_step _ = Nothing

-- it does nothing just where it makes no step
abbrev pub turn_by : Option Step → Turn
turn_by None = turn.Idle
turn_by (Some made) = turn.Moved

-- how many commits it made
abbrev pub grown : StepResult → ℕ
grown Committed = 1
grown Nothing = 0
grown LockDeferred = 0
grown Full = 0

-- One step of the worker, which is one call of the core or none: what it gives is the answer that lies ready then,
-- with what shows that it committed the job's procedure.
pub record HasStepped (old : Working) (before : CoreState) (turn : Turn) (new : Working) (after : CoreState)
    : Type 0 where
  pub made : Option Step
  pub state : State
  pub goes : GoesOn old.worker.phase (worker_and_core old.worker before) made (worker_and_core state after)
  pub worker : new.worker ≡ reported state
  pub shown : Option (Given Outcome)
  pub witnesses_commit : WitnessesCommit made state shown
  pub in_flight : new.in_flight ≡ in_flight_after made old.in_flight shown state.work.answer
  pub result_is_of_step : new.step_result ≡ result_of_step made
  pub turn_is : turn ≡ turn_by made

-- ---- a read

-- The worker's read was made by a source, and what that answered is kept; or none was due.
abbrev pub ReadsFrom : Bool → AnsweredCalls → Working → AnsweredCalls → Working → Type 0
ReadsFrom true before old after new = (made : Step) × HasReadFrom before old.worker made after new.worker
    × (new ≡ record old { worker = new.worker })
ReadsFrom false before old after new = (after ≡ before) × (new ≡ old)

-- ---- a plan

-- The plan of the worker's next step may have been made: what was read for its call stays, and nothing else changes.
pub record Plans (old new : Working) : Type 0 where
  pub worker : new.worker ≡ with_snap new.worker old.worker
  pub seen : seen_in new.worker.work.planner ≡ seen_in old.worker.work.planner
  pub rest : new ≡ record old { worker = new.worker }
