-- What holds of a run that goes on, and what a step of it does to the device and to what transactions have.
use Rattle.std.specs.Prelude.{◌≡◌, ℕ, ◌+◌, ◌-◌, ◌≤◌, if◌then◌else◌, List, Option, Some, None, length, All}
use Rattle.std.specs.Prelude.{count_by, is_some, nat_le, true}
use Rattle.disk.specs.Crash.{Image}
use Rattle.disk.specs.Device.{Content, Device}
use Rattle.disk.specs.declared.block.BlockNo.{BlockNo}
use Rattle.objects.specs.declared.addr.Addr.{Addr}
use Rattle.nfs_spec.specs.Model.Entry.{Entry}
use Rattle.nfs_spec.specs.Model.Tree.{Tree}
use Rattle.layout.specs.declared.version.FormatVersion.TheVariants.{Second}
use Rattle.circ.specs.Log.Calls.{Pending, home_after, idle}
use Rattle.circ.specs.Log.Log.{Log, installed_place}
use Rattle.txn_law.specs.Core.{CoreState}
use Rattle.txn_law.specs.CoreWindow.{IsPending, PreservesReads}
use Rattle.txn_law.specs.Fetch.{Fetch}
use Rattle.txn_law.specs.Leaves.{in_memory, is_fetching, taken_by}
use Rattle.store_promise.specs.declared.events.Step.{Step}
use Rattle.store_promise.specs.declared.events.Step.TheVariants as step
use Rattle.store_promise.specs.FailedCalls.{one_if, TellEachFailure, TellsFailure}
use Rattle.store_promise.specs.LogState.{LogState, log_moved}
use Rattle.store_promise.specs.Openings.{IsLater}
use Rattle.store_promise.specs.OpenSince.{IsOpenSince, blocks_after}
use Rattle.store_promise.specs.Schedule.{Setting, RunState}
use Rattle.store_promise.specs.LogStateOf.{StandsAtHome, log_state_of}
use Rattle.store_promise.specs.Transcript.{calls_device, fails}

-- the device and the core, with the calls that the log and the installer have out
pub record StoreState : Type 0 where
  pub device : Device
  pub core : CoreState
  pub logging : Pending
  pub installing : Pending

abbrev pub side : Device → CoreState → Pending → Pending → StoreState
side d core logging installing = record { device = d; core = core; logging = logging; installing = installing }

-- no call is out
abbrev pub at_rest : Device → CoreState → StoreState
at_rest d core = record { device = d; core = core; logging = idle; installing = idle }

-- what was read of a block whose fetch is pending is what is at home
abbrev pub IsFetchOver : Image → CoreState → Fetch → Type 0
IsFetchOver base core fetch = IsPending core fetch.block → fetch.content ≡ base fetch.block.0

-- A run goes on over what is at home: its store is open since its opening, with these entries; the log has
-- gone on from where the opening left it, and its installer stands at a home; each fetch that was made well,
-- and isn't given back yet, has brought what is at home; and the blocks of each place, from those that are
-- home on, are those after its commit, and beyond the last commit those after it.
pub record IsRunningOver (o : Setting) (base : Image) (side : StoreState) (fetches : List Fetch) (boot : ℕ)
    (first : Tree) (entries : List Entry) (last : Tree) : Type 0 where
  pub since : IsOpenSince base side.device side.core side.logging side.installing boot first entries last
  pub position : o.position ≤ side.core.log.start + length side.core.log.changes
  pub blocks : o.geometry.blocks ≡ side.core.log.blocks
  pub inodes : o.geometry.inodes ≡ side.core.inodes
  pub newest : o.geometry.version ≡ Second
  pub stands : StandsAtHome side.core.log
  pub fetched : All (IsFetchOver base side.core) fetches
  pub placed : (count : ℕ) → o.blocks (installed_place side.core.log + count) ≡ blocks_after base
      side.core count

-- the blocks after each commit are what they were, where some more commits may have come home
pub record PreservesPlaces (base : Image) (old : CoreState) (home : Image) (new : CoreState) : Type 0 where
  pub further : installed_place old.log ≤ installed_place new.log
  pub blocks : (count : ℕ) → blocks_after home new count
      ≡ blocks_after base old (installed_place new.log - installed_place old.log + count)

-- the same setting, with these blocks for the files after so many procedures and later
abbrev pub with_blocks : Setting → ℕ → Image → Setting
with_blocks o places now =
    record o { blocks = λ place. if nat_le place places then o.blocks place else now }

-- ---- a step

-- the device after a step: one call later where the step is one, and one failure more where that failed, as
-- the step tells of it
pub record IsMovedBy (old : Device) (made : Option Step) (new : Device) : Type 0 where
  pub past : IsLater old new
  pub calls : new.clock ≡ old.clock + one_if (calls_device made)
  pub failures : new.failures ≡ old.failures + one_if (fails made)
  pub failures_match : TellsFailure new.failed old.clock made

-- the device after steps
pub record IsMovedAlong (old : Device) (steps : List (Option Step)) (new : Device) : Type 0 where
  pub past : IsLater old new
  pub calls : new.clock ≡ old.clock + count_by calls_device steps
  pub failures : new.failures ≡ old.failures + count_by fails steps
  pub failures_match : TellEachFailure new.failed old.clock steps

-- what transactions have taken, read and are fetching is what it was, what they have taken stays in memory, and no
-- memory is refused to them
pub record PreservesTransactions (old new : CoreState) : Type 0 where
  pub inodes : new.inodes ≡ old.inodes
  pub begun : new.begun ≡ old.begun
  pub refused : new.refused ≡ old.refused
  pub out : new.out ≡ old.out
  pub taken : (tx : ℕ) (addr : Addr) → taken_by new tx addr ≡ taken_by old tx addr
  pub fetches : (block : BlockNo) → is_fetching new block ≡ is_fetching old block
  pub reads : (tx : ℕ) → PreservesReads old new tx
  pub loaded : (tx : ℕ) (addr : Addr) (content : Content) → is_some (taken_by old tx addr) ≡ true
      → in_memory old addr.block ≡ Some content → in_memory new addr.block ≡ Some content

-- what is told of a log, where an opening left it at a position
abbrev pub store_log_state : ℕ → StoreState → LogState
store_log_state position side = log_state_of position side.core.log side.logging side.installing

-- What is told of the log, of the count of transactions, and of how often memory was refused to them, is what the store
-- has. So a step is told NoMemory just where memory was refused in it.
pub record IsRunState (o : Setting) (run_state : RunState) (side : StoreState) : Type 0 where
  pub log : run_state.log ≡ store_log_state o.position side
  pub begun : run_state.begun ≡ side.core.begun
  pub refused : run_state.refused ≡ side.core.refused

-- what is told after a step, or after none
abbrev pub next_log_state : LogState → Option Step → LogState
next_log_state log None = log
next_log_state log (Some made) = log_moved log made

-- what is at home after it
abbrev pub home_next : Image → Log → Option Step → Image
home_next base log (Some (step.InstDone ok)) = home_after base log ok
home_next base log _ = base

-- A step of the log or of the installer is one that may be made, leads from what is told to what is told
-- next, and the run goes on with the entries that there were.
pub record GoesOnBy (MayMake : Setting → LogState → Option Step → Type 0) (o : Setting) (base : Image)
    (old : StoreState) (made : Option Step) (new : StoreState) (fetches : List Fetch) (boot : ℕ) (first : Tree)
    (entries : List Entry) (last : Tree) : Type 0 where
  pub may : MayMake o (store_log_state o.position old) made
  pub log_follows : store_log_state o.position new ≡ next_log_state (store_log_state o.position old) made
  pub running : IsRunningOver o (home_next base old.core.log made) new fetches boot first entries last

-- so it does whatever is at home, and what transactions have stays
pub record IsLogStep (MayMake : Setting → LogState → Option Step → Type 0) (old : StoreState) (made : Option Step)
    (new : StoreState) : Type 0 where
  pub device : IsMovedBy old.device made new.device
  pub core : PreservesTransactions old.core new.core
  pub runs : (o : Setting) (base : Image) (fetches : List Fetch) (boot : ℕ) (first last : Tree)
      (entries : List Entry) → IsRunningOver o base old fetches boot first entries last
      → GoesOnBy MayMake o base old made new fetches boot first entries last
