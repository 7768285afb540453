-- What the steps of a worker rest on: the blocks that were fetched for its transaction, and those that stand for
-- the files after each place.
use Rattle.std.specs.Prelude.{◌≡◌, ◌⊎◌, ℕ, ◌+◌, ◌++◌, ◌∷◌, Bool, true, false, Option, Some, is_some, IsSomeAnd}
use Rattle.std.specs.Prelude.{List, [], All, length, option_to_list}
use Rattle.disk.specs.Crash.{Image}
use Rattle.disk.specs.Device.{Content}
use Rattle.objects.specs.declared.addr.Addr.{Addr}
use Rattle.nfs_spec.specs.Model.Entry.{Entry as Committed}
use Rattle.nfs_spec.specs.Procedures.Step as procedures
use Rattle.nfs_spec.specs.Model.Tree.{Tree}
use Rattle.objects.specs.declared.mode.Mode.TheVariants as modes
use Rattle.inode.specs.Snap.{is_claimed, is_had}
use Rattle.txn.specs.Outcomes.{TakesPlace}
use Rattle.txn_law.specs.Commit.{Planned}
use Rattle.txn_law.specs.Core.{CoreState}
use Rattle.txn_law.specs.Fetch.{Fetch}
use Rattle.txn_law.specs.Group.{blocks_of}
use Rattle.txn_law.specs.Leaves.{in_memory, taken_by}
use Rattle.txn_law.specs.Object.{ObjectBytes}
use Rattle.txn_law.specs.Window.{with_objects}
use Rattle.store_promise.specs.OpenSince.{TellsOf, file_blocks}
use Rattle.store_promise.specs.Running.{IsRunningOver, StoreState, with_blocks}
use Rattle.store_promise.specs.Schedule.{Setting}
use Rattle.store_promise.specs.declared.lock_requests.LockRequest.{LockRequest}
use Rattle.store_promise.specs.declared.lock_requests.LockRequest.TheVariants as lock_request
use Rattle.store_promise.specs.declared.answers.Entry.{Entry}
use Rattle.store_promise.specs.declared.events.Committing.TheVariants as committing
use Rattle.store_promise.specs.declared.events.Step.{Step}
use Rattle.store_promise.specs.declared.events.Step.TheVariants as step
use Rattle.store_workers.specs.Single.{IsSingle, HasTakenInPlan}
use Rattle.store_workers.specs.Asked.{Asking}
use Rattle.store_workers.specs.Unaffected.{TracesAll}
use Rattle.store_workers.specs.Knowing.{Knowing}
use Rattle.store_workers.specs.Seen.{Seen, seen_in}
use Rattle.store_workers.specs.Worker.{GoesWith}
use Rattle.store_workers.specs.WorkerSteps.{WorkerAndCore}
use Rattle.store_workers.specs.declared.workers.parts.Phase.{Phase}
use Rattle.store_workers.specs.declared.workers.parts.Phase.TheVariants.{Idle, Called, Planning}
use Rattle.store_workers.specs.declared.workers.parts.Phase.TheVariants.{Reading, Read}
use Rattle.store_workers.specs.declared.workers.parts.Phase.TheVariants.{Refused, Again, Waiting}
use Rattle.store_workers.specs.declared.workers.parts.State.{State}

-- ---- what was fetched

-- the transaction has taken the address
abbrev pub has_taken : CoreState → ℕ → Addr → Bool
has_taken core tx addr = is_some (taken_by core tx addr)

-- The transaction has taken the address, and its block is in memory.
pub record IsLoadedFor (core : CoreState) (tx : ℕ) (addr : Addr) : Type 0 where
  pub taken : has_taken core tx addr ≡ true
  pub content : Content
  pub there : in_memory core addr.block ≡ Some content

-- so it is of each of these
abbrev pub AreLoadedFor : CoreState → ℕ → List Addr → Type 0
AreLoadedFor core tx addrs = All (IsLoadedFor core tx) addrs

-- so it is of an object that was taken; a block that is claimed needs not be there
abbrev pub IsLockRequestLoaded : CoreState → ℕ → LockRequest → Type 0
IsLockRequestLoaded core tx (lock_request.Object addr mode) = IsLoadedFor core tx addr
IsLockRequestLoaded core tx (lock_request.Claim block) = Unit {0}

-- and of each but the object whose block is fetched
abbrev pub IsLoadedBut : Option Addr → CoreState → ℕ → LockRequest → Type 0
IsLoadedBut fetch_addr core tx (lock_request.Object addr mode) = IsLoadedFor core tx addr ⊎ (fetch_addr ≡ Some addr)
IsLoadedBut fetch_addr core tx (lock_request.Claim block) = Unit {0}

-- ---- the run

-- the run with this core
abbrev pub with_core : StoreState → CoreState → StoreState
with_core side core = record side { core = core }

-- ---- a worker at work

-- its transaction has taken the object whose block is fetched, and the others that it has taken are in memory
abbrev pub FetchesFor : Option ℕ → Asking → Knowing → CoreState → Type 0
FetchesFor tx asked knowing core = IsSomeAnd tx (λ number.
    All (IsLoadedBut asked.fetch_addr core number) knowing.taken
    × IsSomeAnd asked.fetch_addr (λ addr. has_taken core number addr ≡ true))

-- what a worker's transaction has taken is in memory while it goes by its plans
abbrev pub LoadsFor : Phase → Option ℕ → Asking → Knowing → CoreState → Type 0
LoadsFor Idle tx asked knowing core = Unit {0}
LoadsFor Called tx asked knowing core = Unit {0}
LoadsFor Planning tx asked knowing core = IsSomeAnd tx (λ number. All (IsLockRequestLoaded core number) knowing.taken)
LoadsFor Reading tx asked knowing core = FetchesFor tx asked knowing core
LoadsFor (Read ok) tx asked knowing core = FetchesFor tx asked knowing core
LoadsFor (Refused why) tx asked knowing core = Unit {0}
LoadsFor Again tx asked knowing core = Unit {0}
LoadsFor (Waiting place) tx asked knowing core = Unit {0}

abbrev pub Loads : State → CoreState → Type 0
Loads worker core = LoadsFor worker.phase worker.begun.tx worker.asked worker.known core

-- it has noted what its transaction has taken, while it goes by its plans
abbrev pub TracesFor : Phase → State → CoreState → Type 0
TracesFor Idle worker core = Unit {0}
TracesFor Called worker core = Unit {0}
TracesFor Planning worker core = TracesAll worker core
TracesFor Reading worker core = TracesAll worker core
TracesFor (Read ok) worker core = TracesAll worker core
TracesFor (Refused why) worker core = Unit {0}
TracesFor Again worker core = Unit {0}
TracesFor (Waiting place) worker core = Unit {0}

-- A core as its one worker has left it: it fits the worker, nobody else has taken or fetches anything of it,
-- what the worker has taken is in memory, and noted is what its transaction has taken, address by address, while the
-- worker goes by its plans.
pub record IsCoreAtWork (worker : State) (core : CoreState) : Type 0 where
  pub with : GoesWith worker core
  pub single_worker : IsSingle worker core
  pub loads : Loads worker core
  pub traces : TracesFor worker.phase worker core

-- A core and one of its workers, beside which others may have some of it: it fits the worker, the worker has of
-- its call what it has taken, each object of that is in memory while it goes by its plans, and noted is what
-- its transaction has taken, address by address.
pub record IsAtWork (worker : State) (core : CoreState) : Type 0 where
  pub with : GoesWith worker core
  pub plans : HasTakenInPlan worker.phase worker core
  pub loads : Loads worker core
  pub traces : TracesAll worker core

-- a fetch that was made well, and isn't given back yet
abbrev pub fetches_in : Phase → Option Fetch → List Fetch
fetches_in (Read true) io = option_to_list io
fetches_in _ io = []

abbrev pub fetches_of : State → List Fetch
fetches_of worker = fetches_in worker.phase worker.begun.io

-- ---- commits

-- the step took a place
abbrev pub has_committed : Option Step → Bool
has_committed (Some (step.Commit added (committing.Committed place))) = true
has_committed _ = false

-- the entry of a worker in a history
abbrev pub entry_by : ℕ → Entry → Committed
entry_by number entry = record { worker = number; ctx = entry.ctx; call = entry.call; reply = entry.reply }

-- the object was read for the call, and asked for alone, or its block was claimed
abbrev pub IsSeenIn : Seen → ObjectBytes → Type 0
IsSeenIn seen object = (is_had object.addr modes.Exclusive seen.objects seen.exclusives ≡ true)
    ⊎ (is_claimed object.addr.block seen.claims ≡ true)

-- What a worker's plan ended in took a place, and lies ready as an entry, which tells of a step of the
-- sequential server. It writes what was read and claimed for it, in the blocks that the commit names.
pub record HasTakenPlace (boot number : ℕ) (made : Option Step) (old new : WorkerAndCore) : Type 0 where
  pub tx : ℕ
  pub plan : Planned
  pub place : ℕ
  pub entry : Entry
  pub took : TakesPlace old.core tx plan place new.core
  pub ready : new.worker.work.entry ≡ Some entry
  pub tells : TellsOf boot plan (entry_by number entry)
  pub own : IsSomeAnd (seen_in old.worker.work.planner) (λ seen. All (IsSeenIn seen) plan.written)
  pub named : made ≡ Some (step.Commit (blocks_of plan.written) (committing.Committed (record { 0 = place })))

-- A place was taken, the next one. In the setting that has from it on the blocks that stand for the files
-- then, the run goes on with the place's entry, a step of the sequential server from the files as they were;
-- and those blocks are the old ones with what was written.
pub record GoesOnWith (o : Setting) (base : Image) (store : StoreState) (new : WorkerAndCore) (boot number : ℕ)
    (first : Tree) (entries : List Committed) (last : Tree) (made : Option Step) (old : WorkerAndCore) : Type 0 where
  pub taken : HasTakenPlace boot number made old new
  pub next : taken.place ≡ length entries + 1
  pub left : Tree
  pub goes : procedures.step last taken.entry.ctx taken.entry.call taken.entry.reply left
  pub runs : IsRunningOver (with_blocks o (length entries) (file_blocks base new.core)) base
      (with_core store new.core) (fetches_of new.worker) boot first
      (entries ++ entry_by number taken.entry ∷ []) left
  pub writes : file_blocks base new.core ≡ with_objects (file_blocks base old.core) taken.plan.written
