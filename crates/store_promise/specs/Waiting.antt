-- What transactions have taken along a run, and who waits for whom.
use Rattle.std.specs.Prelude.{◌≡◌, ◌⊎◌, ℕ, true, false, List, [], ◌∷◌, ◌++◌, All, Contains, IfSome}
use Rattle.disk.specs.declared.block.BlockNo.{BlockNo}
use Rattle.layout.specs.declared.geometry.Geometry.{Geometry}
use Rattle.objects.specs.declared.mode.Mode.TheVariants as modes
use Rattle.procs.specs.Asks.{Asks, Claims}
use Rattle.store_promise.specs.LockRequests.{IsCovered, Rises, is_barred}
use Rattle.store_promise.specs.declared.lock_requests.LockRequest.{LockRequest}
use Rattle.store_promise.specs.declared.lock_requests.LockRequest.TheVariants as lock_request
use Rattle.store_promise.specs.Progress.{Begun, Job, Progress, Stage, Taken, RangeRequest, Idle, At, Called, Planning}
use Rattle.store_promise.specs.Progress.{Reading, Read, Refused, Again, Waiting, lock_request_of, has_taken, takes}
use Rattle.store_promise.specs.Schedule.{RunState, whole_block_request, range_request_at}

-- ---- what is taken

-- an object that plans may ask for, in whatever mode, or a block that they may ask to claim
abbrev pub IsLockRequest : Geometry → LockRequest → Type 0
IsLockRequest g (lock_request.Object addr mode) = Asks g addr
IsLockRequest g (lock_request.Claim block) = Claims g block

-- lock requests of an image that rise
pub record AreLockRequests (g : Geometry) (lock_requests : List LockRequest) : Type 0 where
  pub of_image : All (IsLockRequest g) lock_requests
  pub rise : Rises lock_requests

-- What a transaction has taken, and behind it what is left to be taken again, are lock requests of the image that rise.
-- What its plan was told is taken, in its mode or in a higher one, and what it has claimed is; and it was told and has
-- claimed nothing while something is left.
pub record AreTakenBy (g : Geometry) (begun : Begun) : Type 0 where
  pub lock_requests : AreLockRequests g (begun.taken ++ begun.left)
  pub held : All (λ (one : Taken). IsCovered begun.taken (lock_request_of one)) begun.held
  pub claimed : All (λ (block : BlockNo). Contains begun.taken (lock_request.Claim block)) begun.claimed
  pub first : (begun.left ≡ []) ⊎ ((begun.held ≡ []) × (begun.claimed ≡ []))

-- so it is at each stage; what a call knows are such lock requests, and so is what it was kept off from
abbrev pub AreTakenAt : Geometry → Stage → Type 0
AreTakenAt g (Called known) = AreLockRequests g known
AreTakenAt g (Planning begun) = AreTakenBy g begun
AreTakenAt g (Reading begun taken) = AreTakenBy g begun
AreTakenAt g (Read begun taken ok) = AreTakenBy g begun
AreTakenAt g (Refused begun why) = AreTakenBy g begun
AreTakenAt g (Again begun request) = AreTakenBy g begun × IfSome request (IsLockRequest g)
AreTakenAt g (Waiting place) = Unit {0}

abbrev pub HasTakenWell : Geometry → Progress → Type 0
HasTakenWell g Idle = Unit {0}
HasTakenWell g (At job stage) = AreTakenAt g stage

-- ---- who waits

-- a worker, and what it asks for
pub record Waiter : Type 0 where
  pub worker : ℕ
  pub request : LockRequest

abbrev pub range_request_of : LockRequest → RangeRequest
range_request_of (lock_request.Object addr mode) = range_request_at addr mode
range_request_of (lock_request.Claim block) = whole_block_request block

-- what is asked for alone: who has taken a byte of it, in whatever mode, keeps that off
abbrev pub exclusive_request_of : LockRequest → RangeRequest
exclusive_request_of one = record (range_request_of one) { mode = modes.Exclusive }

-- A worker waits for another, whose transaction has taken what it asks for: with its own it has taken nothing that bars
-- the wait, and no byte of what it asks for. One that has doesn't wait (`deferred`); and who fetches a block waits for
-- nobody.
pub record WaitsFor (g : Geometry) (run_state : RunState) (one other : Waiter) : Type 0 where
  pub job : Job
  pub begun : Begun
  pub planning : run_state.workers one.worker ≡ At job (Planning begun)
  pub asks : IsLockRequest g one.request
  pub free : is_barred one.request begun.taken ≡ false
  pub not_own : takes (exclusive_request_of one.request) begun ≡ false
  pub theirs : has_taken (range_request_of one.request) (run_state.workers other.worker) ≡ true

-- each of these waits for the next, and the last of them for another
abbrev pub AllWait : Geometry → RunState → Waiter → List Waiter → Waiter → Type 0
AllWait g run_state one [] last = WaitsFor g run_state one last
AllWait g run_state one (next ∷ later) last = WaitsFor g run_state one next × AllWait g run_state next later last
