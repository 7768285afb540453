-- No step goes by the files.
use Rattle.std.proofs.Common.{ℕ, true, false, List, [], ◌∷◌, Option, Some, None}
use Rattle.disk.specs.Crash.{Image}
use Rattle.disk.specs.declared.block.BlockNo.{BlockNo}
use Rattle.nfs_types.specs.declared.call.Call.{Call}
use Rattle.store_promise.specs.declared.lock_requests.LockRequest.{LockRequest}
use Rattle.store_promise.specs.declared.events.Committing.{Committing}
use Rattle.store_promise.specs.declared.events.Committing.TheVariants as committing
use Rattle.store_promise.specs.declared.events.Ending.TheVariants as ending
use Rattle.store_promise.specs.declared.events.Event.{Event}
use Rattle.store_promise.specs.declared.events.Event.TheVariants as event
use Rattle.store_promise.specs.declared.events.Step.{Step}
use Rattle.store_promise.specs.declared.events.Step.TheVariants as step
use Rattle.store_promise.specs.LogState.{CallState, idle, out, was_made}
use Rattle.store_promise.specs.Progress.{Again, At, Begun, Called, Idle, Planning, Progress, Read, Reading}
use Rattle.store_promise.specs.Progress.{Refused}
use Rattle.store_promise.specs.Progress.{Stage, Waiting}
use Rattle.store_promise.specs.Schedule.{HasNumbers, IsCommitting, IsStepRetakingFirst, IsStepByPlan, IsStepOf}
use Rattle.store_promise.specs.Schedule.{IsStepOfInstaller, IsStepOfLog, IsStepOfWork}
use Rattle.store_promise.specs.Schedule.{IsStepWith, Setting, RunState}
use Rattle.store_promise.proofs.RulesAre.{own_step, to_run_rule}
use Rattle.store_promise.proofs.steps_made.what_was_made_stays.Goals as goal

module _ (o : Setting) (run_state : RunState) (later : ℕ → Image) where
  abbrev with_later : Setting
  with_later = record o { blocks = later }

  numbers : (blocks : List BlockNo) → HasNumbers o run_state.log blocks → HasNumbers with_later run_state.log blocks
  numbers blocks has = record { place = has.place; positions = has.positions }

  numbers_then : (blocks : List BlockNo) → HasNumbers with_later run_state.log blocks → HasNumbers o run_state.log blocks
  numbers_then blocks has = record { place = has.place; positions = has.positions }

  commits : (blocks : List BlockNo) (answer : Committing) → IsCommitting o run_state.log blocks answer
      → IsCommitting with_later run_state.log blocks answer
  commits blocks (committing.Committed place) is = (is.0, is.1, numbers blocks is.2, is.3)
  commits blocks committing.Broken is = is
  commits blocks committing.Foreign is = is
  commits blocks committing.Spent is = (is.0, λ has. is.1 (numbers_then blocks has))
  commits blocks committing.Full is = (is.0, numbers blocks is.1, is.2)
  commits blocks (committing.NoMemory error) is = (is.0, numbers blocks is.1, is.2)

  by_plan : (worker : ℕ) (begun : Begun) (made : Step)
      → IsStepByPlan o run_state worker begun made
      → IsStepByPlan with_later run_state worker begun made
  by_plan worker begun (step.Wanted addr mode answer) is =
      (record { unheld = is.0.unheld; asks = is.0.asks }, is.1)
  by_plan worker begun (step.Claimed block answer) is =
      (record { unclaimed = is.0.unclaimed; claims = is.0.claims }, is.1)
  by_plan worker begun (step.Commit blocks answer) is = (is.0, commits blocks answer is.1)
  by_plan worker begun (step.Ended (ending.NoMemory error)) is = is
  by_plan worker begun (step.Ended ending.Again) is = is
  by_plan worker begun (step.Ended ending.Refused) is = is
  by_plan worker begun step.Called is = is
  by_plan worker begun step.Replied is = is
  by_plan worker begun (step.Begun number) is = is
  by_plan worker begun (step.Fetched block) is = is
  by_plan worker begun (step.FetchFailed block) is = is
  by_plan worker begun (step.Stable seq settled) is = is
  by_plan worker begun (step.Read block ok) is = is
  by_plan worker begun (step.LogNext io) is = is
  by_plan worker begun (step.LogIo ok) is = is
  by_plan worker begun (step.LogDone ok) is = is
  by_plan worker begun (step.InstNext io) is = is
  by_plan worker begun (step.InstIo ok) is = is
  by_plan worker begun (step.InstDone ok) is = is

  within : (worker : ℕ) (begun : Begun) (left : List LockRequest) (made : Step)
      → IsStepRetakingFirst left o run_state worker begun made
      → IsStepRetakingFirst left with_later run_state worker begun made
  within worker begun [] made is = by_plan worker begun made is
  within worker begun (next ∷ later) made is = is

  with_call : (worker : ℕ) (call : Call) (stage : Stage) (made : Step)
      → IsStepWith o run_state worker call stage made
      → IsStepWith with_later run_state worker call stage made
  with_call worker call (Called known) made is = is
  with_call worker call (Planning begun) made is = within worker begun begun.left made is
  with_call worker call (Reading begun addr) made is = is
  with_call worker call (Read begun addr true) made is = is
  with_call worker call (Read begun addr false) made is = is
  with_call worker call (Refused begun why) made is = is
  with_call worker call (Again begun request) made is = is
  with_call worker call (Waiting place) made is = is

  of_work : (worker : ℕ) (so_far : Progress) (made : Option Step) → IsStepOfWork o run_state worker so_far made
      → IsStepOfWork with_later run_state worker so_far made
  of_work worker Idle made is = is
  of_work worker (At job (Reading begun addr)) made is = is
  of_work worker (At job (Called known)) (Some made) is = is
  of_work worker (At job (Planning begun)) (Some made) is = with_call worker job.call (Planning begun) made is
  of_work worker (At job (Read begun addr ok)) (Some made) is =
      with_call worker job.call (Read begun addr ok) made is
  of_work worker (At job (Refused begun why)) (Some made) is = is
  of_work worker (At job (Again begun request)) (Some made) is = is
  of_work worker (At job (Waiting place)) (Some made) is = is
  of_work worker (At job (Called known)) None is = is
  of_work worker (At job (Planning begun)) None is = is
  of_work worker (At job (Read begun addr ok)) None is = is
  of_work worker (At job (Refused begun why)) None is = is
  of_work worker (At job (Again begun request)) None is = is
  of_work worker (At job (Waiting place)) None is = is

  of_log : (call : CallState) (made : Option Step) → IsStepOfLog o run_state.log call made
      → IsStepOfLog with_later run_state.log call made
  of_log idle made is = is
  of_log (out call) made is = is
  of_log (was_made call ok) made is = is

  of_installer : (call : CallState) (made : Option Step) → IsStepOfInstaller o run_state.log call made
      → IsStepOfInstaller with_later run_state.log call made
  of_installer idle made is = is
  of_installer (out call) made is = is
  of_installer (was_made call ok) made is = is

  of_event : (e : Event) (made : Option Step) → IsStepOf o run_state e made → IsStepOf with_later run_state e made
  of_event (event.Call worker credential moment call) made is = is
  of_event (event.Work worker) made is = of_work worker (run_state.workers worker) made is
  of_event (event.Read worker) made is = is
  of_event event.Log made is = of_log run_state.log.log_call made is
  of_event event.LogIo made is = is
  of_event event.Install made is = of_installer run_state.log.inst_call made is
  of_event event.InstIo made is = is

pub returns : goal.returns
returns c = λ o workers run_state e made later same taken. record {
  own = λ one. to_run_rule (record o { blocks = later }) run_state e made (of_event o run_state later e made
      (own_step o workers run_state e made taken one));
  others = taken.others;
}
