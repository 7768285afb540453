-- What holds of a run between two events, from its opening on.
use Rattle.std.specs.Prelude.{◌≡◌, ℕ, ◌+◌, ◌≤◌, List, length, slice_get, Option, Some, None, take}
use Rattle.disk.specs.Crash.{Image}
use Rattle.disk.specs.Device.{Device, current}
use Rattle.disk.specs.declared.block.BlockNo.{BlockNo}
use Rattle.nfs_spec.specs.Procedures.After.{after}
use Rattle.nfs_spec.specs.Model.Tree.{Tree}
use Rattle.txn_law.specs.Fetch.{Fetch}
use Rattle.store_promise.specs.declared.events.Committing.TheVariants as committing
use Rattle.store_promise.specs.declared.events.Event.{Event}
use Rattle.store_promise.specs.declared.events.Step.{Step}
use Rattle.store_promise.specs.declared.events.Step.TheVariants as step
use Rattle.store_promise.specs.declared.transcript.Committed.{Committed}
use Rattle.store_promise.specs.Changes.{ChangeTheirOwn, PreservesOthers, PreservesUnnamed}
use Rattle.store_promise.specs.DeviceCalls.{DoEachStep, DoesStepBy}
use Rattle.store_promise.specs.Headline.{IsGeometryOf, StandsAfter}
use Rattle.store_promise.specs.History.{IsHistory}
use Rattle.store_promise.specs.Openings.{IsOpened}
use Rattle.store_promise.specs.Progress.{At, Begun, Job, Planning}
use Rattle.store_promise.specs.Running.{IsMovedAlong, IsMovedBy, IsRunningOver, IsRunState, StoreState}
use Rattle.store_promise.specs.Schedule.{Schedule, Setting, state_after}
use Rattle.store_promise.specs.EventSteps.{AreTaken, IsTaken}
use Rattle.store_promise.specs.Transcript.{Transcript, entries_of}
use Rattle.store_promise.specs.Verdicts.{AreAnswers}
use Rattle.store_law.specs.Runs.Ledger.{HasLedger}
use Rattle.store_law.specs.Runs.Tracing.{Traced, TellsOfEvent, progress_now, state_now, with_traced}
use Rattle.store_law.specs.Runs.Past.{HasLeft}

-- what a run began with: its device before the opening and after it, the tree, the boot number before, how many
-- workers it has, and its events
pub record Beginning : Type 0 where
  pub before : Device
  pub opened : Device
  pub tree : Tree
  pub first : ℕ
  pub workers : ℕ
  pub events : Schedule

-- What is told is so: each event was taken, each procedure and each answer is that of its worker's call.
pub record IsRunWell (b : Beginning) (o : Setting) (t : Transcript) : Type 0 where
  pub taken : AreTaken o b.workers b.events t.steps
  pub history : IsHistory b.events t
  pub answers : AreAnswers b.events t
  pub ledger : HasLedger b.events t

-- The run so far: its store is open, over what is at home, with the entries that were told; what is told is
-- what the store has; and at each stop so far a prefix of the entries was left.
pub record IsRun (b : Beginning) (o : Setting) (t : Transcript) (base : Image) (store_state : StoreState)
    (fetches : List Fetch) (last : Tree) : Type 0 where
  pub opens : IsOpened b.before b.opened b.tree b.first o.position
  pub geometry : IsGeometryOf b.opened.size b.tree o.geometry
  pub running : IsRunningOver o base store_state fetches (b.first + 1) b.tree (entries_of t) last
  pub is_run_state : IsRunState o (state_now b.events t) store_state
  pub moved : IsMovedAlong b.opened t.steps store_state.device
  pub did : DoEachStep store_state.device.contents b.events b.opened.clock t.steps
  pub boot : t.boot ≡ b.first + 1
  pub leads : after b.tree (entries_of t) last
  pub files : (place : ℕ) → StandsAfter o.geometry b.tree (take place (entries_of t)) (o.blocks place)
  pub changes : ChangeTheirOwn b.opened.size b.events t o.blocks
  pub well : IsRunWell b o t
  pub past : HasLeft b.before b.opened.size b.first b.tree b.events b.opened.clock t o.blocks store_state.device

-- The procedure that an event's step commits changes the blocks only in what its transaction has taken, and of them
-- only those that the step names.
pub record ChangesOwn (size : ℕ) (events : Schedule) (t : Transcript) (blocks : ℕ → Image) (made : Option Step)
    (c : Committed) : Type 0 where
  pub job : Job
  pub begun : Begun
  pub planned : progress_now events t c.worker ≡ At job (Planning begun)
  pub named : List BlockNo
  pub made_is : made ≡ Some (step.Commit named (committing.Committed (record { 0 = length t.history + 1 })))
  pub others : PreservesOthers size begun (blocks (length t.history)) (blocks (length t.history + 1))
  pub unnamed : PreservesUnnamed size named (blocks (length t.history)) (blocks (length t.history + 1))

abbrev pub ChangesOwnIn : ℕ → Schedule → Transcript → (ℕ → Image) → Option Step → Option Committed → Type 0
ChangesOwnIn size events t blocks made None = Unit {0}
ChangesOwnIn size events t blocks made (Some c) = ChangesOwn size events t blocks made c

-- An event was taken: its step is one that may be made, moved the device so far by the call that it names, left the run going, with one
-- entry more where it committed one, in a setting with the same blocks up to the places so far; and what is
-- told with it tells of it.
pub record GoesOn (b : Beginning) (o : Setting) (t : Transcript) (store_state : StoreState) (traced : Traced)
    (later : Setting) (base : Image) (new : StoreState) (fetches : List Fetch) (last : Tree) : Type 0 where
  pub event : Event
  pub next : slice_get b.events (length t.steps) ≡ Some event
  pub taken : IsTaken o b.workers (state_now b.events t) event traced.made
  pub traces : TellsOfEvent b.events t event traced
  pub device : IsMovedBy store_state.device traced.made new.device
  pub does : DoesStepBy (state_now b.events t).log traced.made (current store_state.device) (current new.device)
  pub same : later ≡ record o { blocks = later.blocks }
  pub blocks : (place : ℕ) → place ≤ length t.history → later.blocks place ≡ o.blocks place
  pub running : IsRunningOver later base new fetches (b.first + 1) b.tree (entries_of (with_traced t traced)) last
  pub is_run_state : IsRunState later (state_after (state_now b.events t) event traced.made) new
  pub leads : after b.tree (entries_of (with_traced t traced)) last
  pub files : (place : ℕ) → StandsAfter later.geometry b.tree (take place (entries_of (with_traced t traced)))
      (later.blocks place)
  pub changes : ChangesOwnIn b.opened.size b.events t later.blocks traced.made traced.entry
