-- A worker that is alone in its store: whatever is taken of the core and whatever is being read is its own.
use Rattle.std.specs.Prelude.{◌≡◌, ℕ, Bool, true, false, [], Option, Some, All, IsSomeAnd, option_to_list}
use Rattle.objects.specs.declared.addr.Addr.{Addr}
use Rattle.objects.specs.declared.mode.Mode.TheVariants as modes
use Rattle.layout.specs.declared.version.FormatVersion.TheVariants.{Second}
use Rattle.procs.specs.Asks.{Asks, WereAskedOnce, WereClaimedOnce}
use Rattle.txn.specs.Claimed.{IsClaimedBy}
use Rattle.txn.specs.Commit.{IsReadBy}
use Rattle.txn.specs.Core.{CoreState}
use Rattle.txn.specs.Leaves.{taken_by}
use Rattle.txn_law.specs.declared.hold.Hold.{Hold}
use Rattle.store_promise.specs.declared.events.Committing.TheVariants as committing
use Rattle.store_promise.specs.declared.events.Step.{Step}
use Rattle.store_promise.specs.declared.events.Step.TheVariants as step
use Rattle.store_promise.specs.declared.events.LockAnswer.TheVariants as lock_answer
use Rattle.store_images.specs.Fetches.{FetchesOnly}
use Rattle.store_workers.specs.Knowing.{Knowing, nothing_known}
use Rattle.store_workers.specs.Seen.{Seen, seen_in}
use Rattle.store_workers.specs.declared.workers.parts.Phase.{Phase}
use Rattle.store_workers.specs.declared.workers.parts.Phase.TheVariants.{Idle, Called, Planning}
use Rattle.store_workers.specs.declared.workers.parts.Phase.TheVariants.{Reading, Read}
use Rattle.store_workers.specs.declared.workers.parts.Phase.TheVariants.{Refused, Again, Waiting}
use Rattle.store_workers.specs.declared.workers.parts.State.{State}

-- ---- what was read and taken

-- the transaction has taken the address, alone
abbrev pub HasExclusive : CoreState → ℕ → Addr → Type 0
HasExclusive core tx addr = (hold : Hold) × (taken_by core tx addr ≡ Some hold) × (hold.mode ≡ modes.Exclusive)

-- What a transaction has of its call, of this core's image, which has the newest version: each object was read once,
-- and is held still, and alone where it was asked for so; each claimed block is a data block that was claimed once, and
-- is held for writing as a whole. What is taken is an object of the image.
pub record HasOfCall (tx : ℕ) (core : CoreState) (seen : Seen) : Type 0 where
  pub newest : seen.geometry.version ≡ Second
  pub blocks : seen.geometry.blocks ≡ core.log.blocks
  pub inodes : seen.geometry.inodes ≡ core.inodes
  pub claims : WereClaimedOnce seen.geometry seen.claims
  pub claimed : All (IsClaimedBy core tx) seen.claims
  pub were : WereAskedOnce seen.geometry seen.objects
  pub read : All (IsReadBy core tx) seen.objects
  pub exclusives : All (HasExclusive core tx) seen.exclusives
  pub asked : (addr : Addr) (hold : Hold) → taken_by core tx addr ≡ Some hold
      → Asks seen.geometry addr

-- the worker has a call and a transaction, and so much of them
abbrev pub HasTaken : State → CoreState → Type 0
HasTaken worker core = IsSomeAnd worker.work.job (λ job. IsSomeAnd worker.begun.tx (λ tx.
    IsSomeAnd (seen_in worker.work.planner) (λ seen. HasOfCall tx core seen)))

-- and so it is while it plans
abbrev pub HasTakenInPlan : Phase → State → CoreState → Type 0
HasTakenInPlan Idle worker core = Unit {0}
HasTakenInPlan Called worker core = Unit {0}
HasTakenInPlan Again worker core = Unit {0}
HasTakenInPlan Planning worker core = HasTaken worker core
HasTakenInPlan Reading worker core = HasTaken worker core
HasTakenInPlan (Read ok) worker core = HasTaken worker core
HasTakenInPlan (Refused why) worker core = Unit {0}
HasTakenInPlan (Waiting place) worker core = Unit {0}

-- Nothing is left to be taken again: so it is once it plans, and then no call begins again, but one that is made
-- to, and that knows nothing.
abbrev pub LeavesNothing : Phase → Knowing → Type 0
LeavesNothing Idle knowing = Unit {0}
LeavesNothing Called knowing = knowing ≡ nothing_known
LeavesNothing Again knowing = knowing ≡ nothing_known
LeavesNothing Planning knowing = knowing.left ≡ []
LeavesNothing Reading knowing = knowing.left ≡ []
LeavesNothing (Read ok) knowing = knowing.left ≡ []
LeavesNothing (Refused why) knowing = Unit {0}
LeavesNothing (Waiting place) knowing = Unit {0}

-- no transaction is out but its own
abbrev pub IsSingleOut : State → CoreState → Type 0
IsSingleOut worker core = core.out ≡ option_to_list worker.begun.tx

-- no transaction is out and no fetch is pending but its own, and what is taken while it plans is of its call
pub record IsSingle (worker : State) (core : CoreState) : Type 0 where
  pub out : IsSingleOut worker core
  pub fetches : FetchesOnly worker.begun.io core
  pub left : LeavesNothing worker.phase worker.known
  pub plans : HasTakenInPlan worker.phase worker core

-- ---- its steps

-- a lock request was kept off, or a commit refused as foreign
abbrev pub is_deferred : Option Step → Bool
is_deferred (Some (step.Wanted addr mode lock_answer.Busy)) = true
is_deferred (Some (step.Wanted addr mode lock_answer.Loading)) = true
is_deferred (Some (step.Claimed block lock_answer.Busy)) = true
is_deferred (Some (step.Claimed block lock_answer.Loading)) = true
is_deferred (Some (step.Commit added committing.Foreign)) = true
is_deferred _ = false

-- a commit was refused for want of room
abbrev pub is_full : Option Step → Bool
is_full (Some (step.Commit added committing.Full)) = true
is_full _ = false

-- after a step no transaction is out and no fetch is pending but its own, and where no room was wanting, what
-- is taken while it plans is of its call
pub record StaysSingle (made : Option Step) (worker : State) (core : CoreState) : Type 0 where
  pub out : IsSingleOut worker core
  pub fetches : FetchesOnly worker.begun.io core
  pub left : LeavesNothing worker.phase worker.known
  pub plans : is_full made ≡ false → HasTakenInPlan worker.phase worker core
