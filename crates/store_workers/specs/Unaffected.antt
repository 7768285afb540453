-- Workers beside each other: whose the transactions of one core are and whose its fetches, what each has noted of
-- what it has taken, and what a step of one leaves of the others.
use Rattle.std.specs.Prelude.{◌≡◌, ◌⊎◌, ℕ, ◌+◌, ◌≤◌, ◌<◌, true, false, Option, Some, List, ◌∷◌, Contains}
use Rattle.std.specs.Prelude.{All, IfSome, IsSomeAnd, length, slice_get}
use Rattle.disk.specs.declared.block.BlockNo.{BlockNo}
use Rattle.objects.specs.Mode.{covers}
use Rattle.objects.specs.declared.addr.Addr.{Addr}
use Rattle.objects.specs.declared.mode.Mode.{Mode}
use Rattle.objects.specs.declared.mode.Mode.TheVariants as modes
use Rattle.txn_law.specs.Core.{CoreState, IsOut}
use Rattle.txn_law.specs.Fetch.{Fetch}
use Rattle.txn_law.specs.Leaves.{is_fetching, taken_by}
use Rattle.txn_law.specs.Others.{PreservesTaken}
use Rattle.txn_law.specs.LockAnswers.{IsWhole}
use Rattle.txn_law.specs.declared.hold.Hold.{Hold}
use Rattle.store_promise.specs.LockRequests.{IsCovered}
use Rattle.store_promise.specs.declared.lock_requests.LockRequest.{LockRequest}
use Rattle.store_promise.specs.declared.lock_requests.LockRequest.TheVariants as lock_request
use Rattle.store_promise.specs.Waiting.{IsLockRequest}
use Rattle.store_workers.specs.Seen.{seen_in}
use Rattle.store_workers.specs.WorkerSteps.{WorkerAndCore}
use Rattle.store_workers.specs.declared.workers.parts.State.{State}

-- ---- what a worker has noted

-- the address is among these in its mode or in a higher one, or its block is, as one that is claimed
abbrev pub IsTraced : List LockRequest → Addr → Mode → Type 0
IsTraced lock_requests addr mode = IsCovered lock_requests (lock_request.Object addr mode) ⊎ Contains lock_requests (lock_request.Claim addr.block)

-- the transaction has taken this address, in this mode or in a higher one
abbrev pub IsTakenAs : CoreState → ℕ → Addr → Mode → Type 0
IsTakenAs core tx addr mode = IsSomeAnd (taken_by core tx addr) (λ (hold : Hold). covers hold.mode mode ≡ true)

-- so it has of a lock request; a claim is of the whole block, alone
abbrev pub IsTakenIn : CoreState → ℕ → LockRequest → Type 0
IsTakenIn core tx (lock_request.Object addr mode) = IsTakenAs core tx addr mode
IsTakenIn core tx (lock_request.Claim block) = (addr : Addr) × IsWhole block addr × IsTakenAs core tx addr modes.Exclusive

-- all that a transaction has taken is among these, in its mode or in a higher one, and it has so taken each of these
pub record TracesTaken (core : CoreState) (tx : ℕ) (lock_requests : List LockRequest) : Type 0 where
  pub traced : (addr : Addr) (hold : Hold) → taken_by core tx addr ≡ Some hold → IsTraced lock_requests addr hold.mode
  pub taken : All (IsTakenIn core tx) lock_requests

-- so it is of what the worker's transaction has taken
abbrev pub TracesAll : State → CoreState → Type 0
TracesAll worker core = IfSome worker.begun.tx (λ tx. TracesTaken core tx worker.known.taken)

-- nothing is taken in a transaction that isn't begun yet
abbrev pub NoneTakenBeyond : CoreState → Type 0
NoneTakenBeyond core = (addr : Addr) (hold : Hold) → taken_by core (core.begun + 1) addr ≡ Some hold → ⊥

-- the first of what is left to be taken again is of the image
abbrev pub IsLeftOf : State → Type 0
IsLeftOf worker = (next : LockRequest) (later : List LockRequest) → worker.known.left ≡ next ∷ later
    → IsSomeAnd (seen_in worker.work.planner) (λ seen. IsLockRequest seen.geometry next)

-- ---- whose a fetch is

-- the fetch is of this block
abbrev pub IsFetchAt : BlockNo → Option Fetch → Type 0
IsFetchAt block io = IsSomeAnd io (λ (found : Fetch). found.block ≡ block)

-- what is fetched is pending
abbrev pub IsFetchedBy : CoreState → Option Fetch → Type 0
IsFetchedBy core io = IfSome io (λ (found : Fetch). is_fetching core found.block ≡ true)

-- ---- all workers

-- this is the worker of a number
abbrev pub IsOneOf : List State → ℕ → State → Type 0
IsOneOf workers number worker = slice_get workers number ≡ Some worker

-- The workers share a core: each transaction that is out is of one of them, and of no other, and so is each
-- fetch that is pending; and what they fetch is pending.
pub record ShareCore (core : CoreState) (workers : List State) : Type 0 where
  pub out : (tx : ℕ) → IsOut core tx
      → (number : ℕ) × (worker : State) × IsOneOf workers number worker × (worker.begun.tx ≡ Some tx)
  pub one_owner : (one other tx : ℕ) (a b : State) → IsOneOf workers one a → IsOneOf workers other b
      → a.begun.tx ≡ Some tx → b.begun.tx ≡ Some tx → one ≡ other
  pub begun : (number tx : ℕ) (worker : State) → IsOneOf workers number worker → worker.begun.tx ≡ Some tx
      → tx ≤ core.begun
  pub pending : (block : BlockNo) → is_fetching core block ≡ true
      → (number : ℕ) × (worker : State) × IsOneOf workers number worker × IsFetchAt block worker.begun.io
  pub fetched : (number : ℕ) (worker : State) → IsOneOf workers number worker
      → IsFetchedBy core worker.begun.io
  pub once : (one other : ℕ) (block : BlockNo) (a b : State) → IsOneOf workers one a → IsOneOf workers other b
      → IsFetchAt block a.begun.io → IsFetchAt block b.begun.io → one ≡ other

-- ---- a step of one

-- A step of one worker leaves what others have, and what is out or pending then is theirs or its own.
pub record LeavesOthers (old new : WorkerAndCore) : Type 0 where
  pub others : (tx : ℕ) → (old.worker.begun.tx ≡ Some tx → ⊥) → PreservesTaken old.core new.core tx
  pub out : (tx : ℕ) → IsOut new.core tx
      → (new.worker.begun.tx ≡ Some tx) ⊎ (IsOut old.core tx × (old.worker.begun.tx ≡ Some tx → ⊥))
  pub begun : old.core.begun ≤ new.core.begun
  pub number : (tx : ℕ) → new.worker.begun.tx ≡ Some tx
      → (old.worker.begun.tx ≡ Some tx) ⊎ ((old.core.begun < tx) × (tx ≤ new.core.begun))
  pub pending : (block : BlockNo) → is_fetching new.core block ≡ true
      → IsFetchAt block new.worker.begun.io
      ⊎ ((is_fetching old.core block ≡ true) × (IsFetchAt block old.worker.begun.io → ⊥))
  pub fetched : IsFetchedBy new.core new.worker.begun.io
  pub fresh : (block : BlockNo) → IsFetchAt block new.worker.begun.io
      → IsFetchAt block old.worker.begun.io ⊎ (is_fetching old.core block ≡ false)
  pub stays : (block : BlockNo) → is_fetching old.core block ≡ true
      → (IsFetchAt block old.worker.begun.io → ⊥) → is_fetching new.core block ≡ true

-- the workers, of whom one is another now
pub record Replaces (workers : List State) (number : ℕ) (old new : State) (later : List State) : Type 0 where
  pub was : IsOneOf workers number old
  pub now : IsOneOf later number new
  pub others : (other : ℕ) → (other ≡ number → ⊥) → slice_get later other ≡ slice_get workers other
  pub count : length later ≡ length workers
