-- The steps of a run as rules: who makes a step, when, and which. The premises of a rule stand before its last line.
use Rattle.std.specs.Prelude.{◌≡◌, ℕ, Bool, true, false, nat_le, List, [], ◌∷◌, Option, Some, None, alloc_error}
use Rattle.disk.specs.declared.block.BlockNo.{BlockNo}
use Rattle.nfs_types.specs.declared.call.Call.{Call}
use Rattle.nfs_types.specs.declared.ctx.Credential.{Credential}
use Rattle.nfs_types.specs.declared.ctx.Moment.{Moment}
use Rattle.objects.specs.declared.addr.Addr.{Addr}
use Rattle.objects.specs.declared.mode.Mode.{Mode}
use Rattle.nfs_spec.specs.Model.Calls.{begins_transaction}
use Rattle.circ.specs.declared.log.outcomes.Seq.{Seq}
use Rattle.store_promise.specs.declared.lock_requests.LockRequest.{LockRequest}
use Rattle.store_promise.specs.declared.lock_requests.LockRequest.TheVariants as lock_request
use Rattle.store_promise.specs.declared.events.Cause.{Cause}
use Rattle.store_promise.specs.declared.events.Committing.{Committing}
use Rattle.store_promise.specs.declared.events.Ending.TheVariants as ending
use Rattle.store_promise.specs.declared.events.Event.{Event}
use Rattle.store_promise.specs.declared.events.Event.TheVariants as event
use Rattle.store_promise.specs.declared.events.Step.{Step}
use Rattle.store_promise.specs.declared.events.Step.TheVariants as step
use Rattle.store_promise.specs.declared.events.LockAnswer.{LockAnswer}
use Rattle.store_promise.specs.LogState.{LogState, state_settled}
use Rattle.store_promise.specs.Progress.{Again, At, Begun, Called, Idle, Job, Planning, Progress, Reading, Refused}
use Rattle.store_promise.specs.Progress.{Taken, Waiting, is_idle}
use Rattle.store_promise.specs.Progress as how
use Rattle.store_promise.specs.Schedule.{AreChanged, IsAskedFor, IsBeginning, IsClaimAskedFor, IsClaimAnswer}
use Rattle.store_promise.specs.Schedule.{IsCommitting, IsStepOfInstIo, IsStepOfInstaller, IsStepOfLog, IsStepOfLogIo}
use Rattle.store_promise.specs.Schedule.{IsLockAnswer, Setting, RunState, range_request_at, worker_of}

-- What a worker may do when it works, by how far it is with its call. One that has no call, or of which a read is
-- due, does nothing.
pub data WorkerStep (o : Setting) (run_state : RunState) (worker : ℕ) (so_far : Progress) (made : Step) : Type 0 where
  -- A call that needs no transaction is answered; any other begins one, or is told why it can't.
  Answer : (job : Job) (known : List LockRequest) → so_far ≡ At job (Called known)
      → begins_transaction job.call ≡ false
      → made ≡ step.Replied → WorkerStep o run_state worker so_far made
  Begin : (job : Job) (known : List LockRequest) → so_far ≡ At job (Called known)
      → begins_transaction job.call ≡ true → IsBeginning run_state made
      → WorkerStep o run_state worker so_far made
  -- What its call knew is taken again first, from the lowest on.
  Retake : (job : Job) (begun : Begun) (addr : Addr) (mode : Mode) (later : List LockRequest) (answer : LockAnswer)
      → so_far ≡ At job (Planning begun) → begun.left ≡ lock_request.Object addr mode ∷ later
      → IsLockAnswer run_state worker begun (range_request_at addr mode) answer
      → made ≡ step.Wanted addr mode answer → WorkerStep o run_state worker so_far made
  Reclaim : (job : Job) (begun : Begun) (block : BlockNo) (later : List LockRequest) (answer : LockAnswer)
      → so_far ≡ At job (Planning begun) → begun.left ≡ lock_request.Claim block ∷ later
      → IsClaimAnswer run_state worker begun block answer
      → made ≡ step.Claimed block answer → WorkerStep o run_state worker so_far made
  -- Then it takes and claims what its plan asks for, and commits what that ends in, or finds no memory.
  Take : (job : Job) (begun : Begun) (addr : Addr) (mode : Mode) (answer : LockAnswer)
      → so_far ≡ At job (Planning begun) → begun.left ≡ []
      → IsAskedFor o begun addr mode → IsLockAnswer run_state worker begun (range_request_at addr mode) answer
      → made ≡ step.Wanted addr mode answer → WorkerStep o run_state worker so_far made
  Claim : (job : Job) (begun : Begun) (block : BlockNo) (answer : LockAnswer)
      → so_far ≡ At job (Planning begun) → begun.left ≡ []
      → IsClaimAskedFor o begun block → IsClaimAnswer run_state worker begun block answer
      → made ≡ step.Claimed block answer → WorkerStep o run_state worker so_far made
  Commit : (job : Job) (begun : Begun) (blocks : List BlockNo) (answer : Committing)
      → so_far ≡ At job (Planning begun) → begun.left ≡ []
      → AreChanged begun blocks → IsCommitting o run_state.log blocks answer
      → made ≡ step.Commit blocks answer → WorkerStep o run_state worker so_far made
  Lack : (job : Job) (begun : Begun) → so_far ≡ At job (Planning begun) → begun.left ≡ []
      → made ≡ step.Ended (ending.NoMemory alloc_error) → WorkerStep o run_state worker so_far made
  -- A block that was read is given back, with what was read or without.
  Fetch : (job : Job) (begun : Begun) (taken : Taken) → so_far ≡ At job (how.Read begun taken true)
      → made ≡ step.Fetched taken.addr.block → WorkerStep o run_state worker so_far made
  Fail : (job : Job) (begun : Begun) (taken : Taken) → so_far ≡ At job (how.Read begun taken false)
      → made ≡ step.FetchFailed taken.addr.block → WorkerStep o run_state worker so_far made
  -- A transaction is ended: its call is refused, or begins again.
  Refuse : (job : Job) (begun : Begun) (why : Cause) → so_far ≡ At job (Refused begun why)
      → made ≡ step.Ended ending.Refused → WorkerStep o run_state worker so_far made
  Leave : (job : Job) (begun : Begun) (request : Option LockRequest) → so_far ≡ At job (Again begun request)
      → made ≡ step.Ended ending.Again → WorkerStep o run_state worker so_far made
  -- Whether the place is settled that is waited for.
  Await : (job : Job) (place : ℕ) (seq : Seq) → so_far ≡ At job (Waiting place) → seq.0 ≡ place
      → made ≡ step.Stable seq (nat_le place (state_settled run_state.log)) → WorkerStep o run_state worker so_far made

-- ---- a run's

-- a worker goes on by itself while it has a call of which no read is due
abbrev pub may_work : Progress → Bool
may_work Idle = false
may_work (At job (Reading begun taken)) = false
may_work (At job _) = true

-- a read is due of it
abbrev pub may_read : Progress → Bool
may_read (At job (Reading begun taken)) = true
may_read _ = false

-- the event applies to a worker that is so far
abbrev pub applies : Event → Progress → Bool
applies (event.Call worker credential moment call) so_far = is_idle so_far
applies (event.Work worker) so_far = may_work so_far
applies (event.Read worker) so_far = may_read so_far
applies _ so_far = false

-- what the log and the installer may make with an event of theirs
abbrev pub IsStepOfSides : Setting → LogState → Event → Option Step → Type 0
IsStepOfSides o log event.Log made = IsStepOfLog o log log.log_call made
IsStepOfSides o log event.LogIo made = IsStepOfLogIo log.log_call made
IsStepOfSides o log event.Install made = IsStepOfInstaller o log log.inst_call made
IsStepOfSides o log event.InstIo made = IsStepOfInstIo log.inst_call made
IsStepOfSides o log _ made = ⊥

-- What an event of a run makes.
pub data RunStep (o : Setting) (run_state : RunState) (now : Event) (made : Option Step) : Type 0 where
  -- A worker without a call takes the one that it is handed.
  Receive : (worker : ℕ) (credential : Credential) (moment : Moment) (call : Call)
      → now ≡ event.Call worker credential moment call
      → run_state.workers worker ≡ Idle → made ≡ Some step.Called → RunStep o run_state now made
  -- A worker goes on with its call, by a rule of its own.
  Work : (worker : ℕ) (one : Step) → now ≡ event.Work worker
      → WorkerStep o run_state worker (run_state.workers worker) one
      → made ≡ Some one → RunStep o run_state now made
  -- The read that is due of a worker is made, well or not.
  Read : (worker : ℕ) (job : Job) (begun : Begun) (taken : Taken) (ok : Bool) → now ≡ event.Read worker
      → run_state.workers worker ≡ At job (Reading begun taken)
      → made ≡ Some (step.Read taken.addr.block ok) → RunStep o run_state now made
  -- An event of a worker that doesn't apply to it makes no step.
  Rest : (worker : ℕ) → worker_of now ≡ Some worker → applies now (run_state.workers worker) ≡ false
      → made ≡ None → RunStep o run_state now made
  -- The events of the log and of the installer make steps of theirs, or none where they don't apply.
  Sides : IsStepOfSides o run_state.log now made → RunStep o run_state now made
