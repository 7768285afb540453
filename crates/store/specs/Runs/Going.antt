-- What holds of a run between two events, as the code has it.
use Rattle.std.specs.Prelude.{◌≡◌, ℕ, ◌+◌, ◌++◌, ◌∷◌, [], All, List, Option, Some, length, slice_get}
use Rattle.disk.specs.Crash.{Image}
use Rattle.disk.specs.Device.{Device}
use Rattle.nfs_spec.specs.Model.Tree.{Tree}
use Rattle.store_promise.specs.declared.events.Event.{Event}
use Rattle.store_promise.specs.declared.events.Event.TheVariants as event
use Rattle.store_promise.specs.declared.events.Step.{Step}
use Rattle.store_promise.specs.declared.transcript.Run.{Run}
use Rattle.store_promise.specs.LogState.{LogState}
use Rattle.store_promise.specs.Running.{IsFetchOver, StoreState}
use Rattle.store_promise.specs.Headline.{MayRun}
use Rattle.store_promise.specs.Schedule.{Schedule, Setting, SoundEvent}
use Rattle.store_promise.specs.Transcript.{Transcript, entries_of, transcript_of}
use Rattle.store_law.specs.Runs.Tracing.{progress_now}
use Rattle.store_law.specs.Runs.Run.{Beginning, IsRun}
use Rattle.store.specs.Runs.AtWork.{IsAtWork, fetches_of}
use Rattle.store_images.specs.LogCallState.{MayInstIo, MayInstall, MayLog, MayLogIo}
use Rattle.store.specs.Runs.Running.{store_state_of, states_of}
use Rattle.store_workers.specs.Unaffected.{IsOneOf, ShareCore}
use Rattle.store_workers.specs.Stages.{IsWorkerAt, progress_of}
use Rattle.store_workers.specs.Worker.{GoesWith}
use Rattle.store_workers.specs.WorkerSteps.{PreservesHomeOf, PreservesReadsOf, WorkerAndCore}
use Rattle.circ.specs.Log.Log.{IsLawful}
use Rattle.txn_law.specs.Core.{CoreState}
use Rattle.txn_law.specs.WellFormed.{IsWellFormed}
use Rattle.store.specs.declared.runs.runs.run_events.Calls.{Calls}
use Rattle.store_workers.specs.declared.workers.Worker.{Worker}
use Rattle.store_workers.specs.declared.workers.parts.State.{State}

-- The worker of a number stands where its steps have told, at work on the core, and what it has read and hasn't
-- given back is what is at home.
pub record IsAtStage (b : Beginning) (base : Image) (core : CoreState) (t : Transcript) (number : ℕ)
    (worker : State) : Type 0 where
  pub stands : IsWorkerAt (b.first + 1) (entries_of t) worker
  pub at_work : IsAtWork worker core
  pub progress : progress_now b.events t number ≡ progress_of worker
  pub fetched : All (IsFetchOver base core) (fetches_of worker)

-- so does each of them, as many as there are, and they share the core
pub record AreAtStage (b : Beginning) (base : Image) (core : CoreState) (t : Transcript) (workers : List State)
    : Type 0 where
  pub count : length workers ≡ b.workers
  pub each : (number : ℕ) (worker : State) → IsOneOf workers number worker
      → IsAtStage b base core t number worker
  pub share : ShareCore core workers

-- A run goes on: it is one so far, and so are its workers.
pub record IsGoing (b : Beginning) (store : StoreState) (workers : List State) (run_record : Run) : Type 0 where
  pub setting : Setting
  pub base : Image
  pub last : Tree
  pub run : IsRun b setting (transcript_of run_record) base store [] last
  pub so_far : AreAtStage b base store.core (transcript_of run_record) workers

-- this event is next, and a call that can be spelled
pub record IsNextEvent (b : Beginning) (now : Event) (run_record : Run) : Type 0 where
  pub next : slice_get b.events (length run_record.steps.items) ≡ Some now
  pub sound : SoundEvent now

-- what an event notes beside its step, which is told last
pub record TracesStep (made : Option Step) (before after : Run) : Type 0 where
  pub steps : after.steps.items ≡ before.steps.items ++ made ∷ []
  pub boot : after.boot ≡ before.boot
  pub history : after.history.items ≡ before.history.items
  pub answers : after.answers.items ≡ before.answers.items

-- the steps of the log's events and of the installer's
abbrev pub may_make : Event → Setting → LogState → Option Step → Type 0
may_make event.Log o log made = MayLog o log made
may_make event.LogIo o log made = MayLogIo o log made
may_make event.Install o log made = MayInstall o log made
may_make event.InstIo o log made = MayInstIo o log made
may_make (event.Call worker credential moment call) o log made = ⊥
may_make (event.Work worker) o log made = ⊥
may_make (event.Read worker) o log made = ⊥

-- what a worker's step keeps of its core, beside what it says
pub record PreservesCore (old new : WorkerAndCore) : Type 0 where
  pub home : PreservesHomeOf old new
  pub reads : PreservesReadsOf old new
  pub lawful : IsLawful new.core.log
  pub well_formed : IsWellFormed new.core
  pub with : GoesWith old.worker old.core → GoesWith new.worker new.core

-- ---- with its clock

-- the device and the core with the calls that are out, the workers, and how many device calls the events have
-- made
pub record StoreAndWorkers : Type 0 where
  pub store : StoreState
  pub workers : List State
  pub clock : ℕ

abbrev pub store_and_workers : Device → CoreState → Calls → List Worker → ℕ → StoreAndWorkers
store_and_workers device core calls workers clock =
    record { store = store_state_of device core calls; workers = states_of workers; clock = clock }

-- a run goes on, whose clock has counted the calls since its opening
pub record IsRunAt (b : Beginning) (run : StoreAndWorkers) (run_record : Run) : Type 0 where
  pub going : IsGoing b run.store run.workers run_record
  pub clock : run.store.device.clock ≡ b.opened.clock + run.clock

-- with this event it goes on, where the device keeps its model
abbrev pub LeavesGoing : Type 0 → Event → StoreAndWorkers → Run → StoreAndWorkers → Run → Type 0
LeavesGoing keeps_model now old before new after =
    (b : Beginning) → keeps_model → IsNextEvent b now before → IsRunAt b old before → IsRunAt b new after

-- What a run stands on, of a device that was opened for it: so many workers take these events.
abbrev pub begins : Device → Device → Tree → ℕ → ℕ → Schedule → Beginning
begins before opened tree first workers events = record {
  before = before;
  opened = opened;
  tree = tree;
  first = first;
  workers = workers;
  events = events;
}

-- a run is on its way, from a device that held this tree
pub record HasGone (before : Device) (tree : Tree) (first workers : ℕ) (events : Schedule) (run : StoreAndWorkers) (run_record : Run)
    : Type 0 where
  pub opened : Device
  pub at : IsRunAt (begins before opened tree first workers events) run run_record

-- so it is where the device held it, the calls of its events can be spelled, and the device keeps its model
abbrev pub GoesOnWell : Type 0 → Device → ℕ → Schedule → StoreAndWorkers → Run → Type 0
GoesOnWell keeps_model before workers events run run_record = (tree : Tree) (first : ℕ)
    → MayRun keeps_model before tree first events → HasGone before tree first workers events run run_record
