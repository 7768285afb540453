-- Which events apply, and what step each may make, told from the events and steps before it alone.
use Rattle.std.specs.Prelude.{◌≡◌, ◌≢◌, ℕ, ◌+◌, ◌^◌, ◌<◌, ◌≤◌, Bool, true, false, ◌&&◌, if◌then◌else◌, nat_eq}
use Rattle.std.specs.Prelude.{nat_le, List, [], ◌∷◌, All, take, Option, Some, None, Ok, Err, length, slice_get}
use Rattle.std.specs.List.{zip, list_any}
use Rattle.base.specs.declared.TheConstants.{BLOCK_BYTES, CHANGED_BLOCKS, LOG_SLOTS}
use Rattle.disk.specs.Crash.{Image}
use Rattle.disk.specs.declared.block.BlockNo.{BlockNo}
use Rattle.objects.specs.Mode.{covers}
use Rattle.objects.specs.declared.addr.Addr.{Addr}
use Rattle.objects.specs.declared.mode.Mode.{Mode}
use Rattle.objects.specs.declared.mode.Mode.TheVariants as modes
use Rattle.nfs_types.specs.declared.call.Call.{Call}
use Rattle.layout.specs.declared.geometry.Geometry.{Geometry}
use Rattle.nfs_spec.specs.Model.Calls.{begins_transaction}
use Rattle.procs.specs.Asks.{Asks, Claims}
use Rattle.inode.specs.Snap.{is_claimed, same_addr}
use Rattle.txn.specs.declared.outcomes.BeginFault.TheVariants as fault
use Rattle.circ.specs.Log.Log.{AreOnce}
use Rattle.circ.specs.declared.log.calls.IoCall.{IoCall}
use Rattle.procs.specs.SoundCalls.{SoundCall}
use Rattle.store_promise.specs.declared.lock_requests.LockRequest.{LockRequest}
use Rattle.store_promise.specs.declared.lock_requests.LockRequest.TheVariants as lock_request
use Rattle.store_promise.specs.declared.events.Committing.{Committing}
use Rattle.store_promise.specs.declared.events.Committing.TheVariants as committing
use Rattle.store_promise.specs.declared.events.Ending.TheVariants as ending
use Rattle.store_promise.specs.declared.events.Event.{Event}
use Rattle.store_promise.specs.declared.events.Event.TheVariants as event
use Rattle.store_promise.specs.declared.events.Step.{Step}
use Rattle.store_promise.specs.declared.events.Step.TheVariants as step
use Rattle.store_promise.specs.declared.events.LockAnswer.{LockAnswer}
use Rattle.store_promise.specs.declared.events.LockAnswer.TheVariants as lock_answer
use Rattle.store_promise.specs.LogState.{CallState, idle, out, was_made, LogState, empty_log, log_moved}
use Rattle.store_promise.specs.LogState.{state_added, state_may_log, state_may_install, state_settled, state_tail_after}
use Rattle.store_promise.specs.NextCall.{IsNextOfInstalling, next_log_call}
use Rattle.store_promise.specs.Progress.{Begun, Progress, Idle, At, Stage, Called, Planning, Reading, Read}
use Rattle.store_promise.specs.Progress.{Refused, Again, Waiting, progressed, has_taken, is_fetching}
use Rattle.store_promise.specs.Progress.{Taken, RangeRequest, has_loaded, has_part_exclusive, is_loaded}

-- a schedule is any list of events
abbrev pub Schedule : Type 0
Schedule = List Event

-- a call that is handed over can be spelled
abbrev pub SoundEvent : Event → Type 0
SoundEvent (event.Call worker credential moment call) = SoundCall credential moment call
SoundEvent (event.Work worker) = Unit {0}
SoundEvent (event.Read worker) = Unit {0}
SoundEvent event.Log = Unit {0}
SoundEvent event.LogIo = Unit {0}
SoundEvent event.Install = Unit {0}
SoundEvent event.InstIo = Unit {0}

abbrev pub SoundEvents : Schedule → Type 0
SoundEvents events = (index : ℕ) (event : Event) → slice_get events index ≡ Some event → SoundEvent event

-- what is told of the workers, of the counts of transactions and of refusals of memory, and of the log
pub record RunState : Type 0 where
  pub workers : ℕ → Progress
  pub begun : ℕ
  pub refused : ℕ
  pub log : LogState

-- before the first event
abbrev pub at_first : RunState
at_first = record { workers = λ worker. Idle; begun = 0; refused = 0; log = empty_log }

-- the workers, of whom this one is so far
abbrev pub with_worker : (ℕ → Progress) → ℕ → Progress → ℕ → Progress
with_worker workers number progress = λ other. if nat_eq other number then progress else workers other

-- how far the workers are after an event that made a step: that of its own has gone on
abbrev pub workers_after : RunState → Event → Step → ℕ → Progress
workers_after run_state (event.Call worker credential moment call) made =
    with_worker run_state.workers worker
    (At (record { credential = credential; moment = moment; call = call }) (Called []))
workers_after run_state (event.Work worker) made =
    with_worker run_state.workers worker (progressed run_state.log.broken made (run_state.workers worker))
workers_after run_state (event.Read worker) made =
    with_worker run_state.workers worker (progressed run_state.log.broken made (run_state.workers worker))
workers_after run_state event.Log made = run_state.workers
workers_after run_state event.LogIo made = run_state.workers
workers_after run_state event.Install made = run_state.workers
workers_after run_state event.InstIo made = run_state.workers

abbrev pub begun_after : ℕ → Step → ℕ
begun_after begun (step.Begun (Ok number)) = begun + 1
begun_after begun _ = begun

-- the count of refusals rises by one with each step that is told NoMemory, and with no other
abbrev pub refused_after : ℕ → Step → ℕ
refused_after refused (step.Begun (Err (fault.NoMemory error))) = refused + 1
refused_after refused (step.Wanted addr mode (lock_answer.NoMemory error)) = refused + 1
refused_after refused (step.Claimed block (lock_answer.NoMemory error)) = refused + 1
refused_after refused (step.Commit blocks (committing.NoMemory error)) = refused + 1
refused_after refused (step.Ended (ending.NoMemory error)) = refused + 1
refused_after refused _ = refused

-- so it is after a step, or after none
abbrev pub next_refused : ℕ → Option Step → ℕ
next_refused refused None = refused
next_refused refused (Some made) = refused_after refused made

-- what is told after an event, which made a step or none
abbrev pub state_after : RunState → Event → Option Step → RunState
state_after run_state event None = run_state
state_after run_state event (Some made) = record {
  workers = workers_after run_state event made;
  begun = begun_after run_state.begun made;
  refused = refused_after run_state.refused made;
  log = log_moved run_state.log made;
}

abbrev pub state_along : RunState → List (Event × Option Step) → RunState
state_along run_state [] = run_state
state_along run_state (first ∷ others) = state_along (state_after run_state first.0 first.1) others

-- ---- what a worker may do

-- a worker without a call takes one
abbrev pub IsStepOfCall : Progress → Option Step → Type 0
IsStepOfCall Idle made = made ≡ Some step.Called
IsStepOfCall (At job stage) made = made ≡ None

-- a transaction takes the next number; a broken store begins none, nor does one whose numbers are spent, and
-- memory is asked for last
abbrev pub IsBeginning : RunState → Step → Type 0
IsBeginning run_state (step.Begun (Ok number)) = (run_state.log.broken ≡ false) × (number ≡ run_state.begun + 1)
IsBeginning run_state (step.Begun (Err fault.Broken)) = run_state.log.broken ≡ true
IsBeginning run_state (step.Begun (Err fault.Spent)) = (run_state.log.broken ≡ false) × (2 ^ 64 ≤ run_state.begun + 1)
IsBeginning run_state (step.Begun (Err (fault.NoMemory error))) =
    (run_state.log.broken ≡ false) × (run_state.begun + 1 < 2 ^ 64)
IsBeginning run_state _ = ⊥

-- a call begins a transaction, and NULL is answered
abbrev pub IsStepOfCalled : RunState → Bool → Step → Type 0
IsStepOfCalled run_state true made = IsBeginning run_state made
IsStepOfCalled run_state false made = made ≡ step.Replied

-- What the steps of a run go by beside the steps themselves: where the parts of its image lie, the log position
-- at which the opening left the log, and the blocks that stand for the files after so many procedures.
pub record Setting : Type 0 where
  pub geometry : Geometry
  pub position : ℕ
  pub blocks : ℕ → Image

-- an object is among these, in this mode or in a higher one
abbrev pub is_held : Addr → Mode → List Taken → Bool
is_held addr mode held = list_any (λ (other : Taken). same_addr addr other.addr && covers other.mode mode) held

-- the object is one that plans may ask for, and the plan wasn't told it in this mode
pub record IsAskedFor (o : Setting) (begun : Begun) (addr : Addr) (mode : Mode) : Type 0 where
  pub unheld : is_held addr mode begun.held ≡ false
  pub asks : Asks o.geometry addr

-- the block is one that plans may ask to claim, and the transaction hasn't got it
pub record IsClaimAskedFor (o : Setting) (begun : Begun) (block : BlockNo) : Type 0 where
  pub unclaimed : is_claimed block begun.claimed ≡ false
  pub claims : Claims o.geometry block

-- another worker is so
pub record IsSoOfAnother (run_state : RunState) (worker : ℕ) (is : Progress → Bool) : Type 0 where
  pub other : ℕ
  pub differs : other ≢ worker
  pub so : is (run_state.workers other) ≡ true

-- no other worker is so
abbrev pub IsSoOfNoOther : RunState → ℕ → (Progress → Bool) → Type 0
IsSoOfNoOther run_state worker is = (other : ℕ) → other ≢ worker → is (run_state.workers other) ≡ false

-- nothing that another worker has taken keeps the request off, and no other fetches the block
pub record IsLeftFree (run_state : RunState) (worker : ℕ) (request : RangeRequest) : Type 0 where
  pub free : IsSoOfNoOther run_state worker (has_taken request)
  pub settled : IsSoOfNoOther run_state worker (is_fetching request.block)

-- What a lock request to read some bytes of a block may be answered: Busy only where what another worker has taken
-- keeps it off, Loading only where another fetches the block, and else only where no other does either. Fetch
-- comes only where no object of the block was had, by this transaction or by another that goes by its plan, and
-- Outside never, as no call asks for what lies elsewhere.
abbrev pub IsLockAnswer : RunState → ℕ → Begun → RangeRequest → LockAnswer → Type 0
IsLockAnswer run_state worker begun request lock_answer.Held = IsLeftFree run_state worker request
IsLockAnswer run_state worker begun request lock_answer.Busy = IsSoOfAnother run_state worker (has_taken request)
IsLockAnswer run_state worker begun request lock_answer.Fetch =
    IsLeftFree run_state worker request × (is_loaded request.block begun ≡ false)
    × IsSoOfNoOther run_state worker (has_loaded request.block)
IsLockAnswer run_state worker begun request lock_answer.Loading = IsSoOfAnother run_state worker (is_fetching request.block)
IsLockAnswer run_state worker begun request lock_answer.Outside = ⊥
IsLockAnswer run_state worker begun request (lock_answer.NoMemory error) = IsLeftFree run_state worker request

-- what is asked for with an object, and with a whole block
abbrev pub range_request_at : Addr → Mode → RangeRequest
range_request_at addr mode = record { block = addr.block; offset = addr.offset; len = addr.len; mode = mode }

abbrev pub whole_block_request : BlockNo → RangeRequest
whole_block_request block = record { block = block; offset = 0; len = BLOCK_BYTES; mode = modes.Exclusive }

-- what a lock request to claim a block may be answered: the same, but that nothing is fetched
abbrev pub IsClaimAnswer : RunState → ℕ → Begun → BlockNo → LockAnswer → Type 0
IsClaimAnswer run_state worker begun block lock_answer.Fetch = ⊥
IsClaimAnswer run_state worker begun block other = IsLockAnswer run_state worker begun (whole_block_request block) other

-- a place is left, and enough log positions for what the tail lacks of these blocks
pub record HasNumbers (o : Setting) (log : LogState) (blocks : List BlockNo) : Type 0 where
  pub place : log.places + 1 < 2 ^ 64
  pub positions : o.position + log.appended + state_added log blocks < 2 ^ 64

-- What a commit may be answered that changes these blocks: the next place; or why it is refused. What was read
-- stays as it was while it is held, so that no change is foreign.
abbrev pub IsCommitting : Setting → LogState → List BlockNo → Committing → Type 0
IsCommitting o log blocks (committing.Committed place) =
    (log.broken ≡ false) × (place.0 ≡ log.places + 1) × HasNumbers o log blocks
    × (state_tail_after log blocks ≤ LOG_SLOTS)
IsCommitting o log blocks committing.Broken = log.broken ≡ true
IsCommitting o log blocks committing.Foreign = ⊥
IsCommitting o log blocks committing.Spent = (log.broken ≡ false) × (HasNumbers o log blocks → ⊥)
IsCommitting o log blocks committing.Full =
    (log.broken ≡ false) × HasNumbers o log blocks × (LOG_SLOTS < state_tail_after log blocks)
IsCommitting o log blocks (committing.NoMemory error) =
    (log.broken ≡ false) × HasNumbers o log blocks × (state_tail_after log blocks ≤ LOG_SLOTS)

-- The blocks that a commit of the transaction may name: each once, no more than a transaction may change, and each one
-- of which it has taken a part alone. What it changes lies in them, as Changes says; that it changes each of them is told
-- of a worker alone.
pub record AreChanged (begun : Begun) (blocks : List BlockNo) : Type 0 where
  pub once : AreOnce blocks
  pub few : length blocks ≤ CHANGED_BLOCKS
  pub taken : All (λ (block : BlockNo). has_part_exclusive block begun ≡ true) blocks

-- A worker goes by a plan: it asks for what plans may ask for, or commits a change of no more
-- blocks than a transaction may change, or finds no memory.
abbrev pub IsStepByPlan : Setting → RunState → ℕ → Begun → Step → Type 0
IsStepByPlan o run_state worker begun (step.Wanted addr mode answer) =
    IsAskedFor o begun addr mode × IsLockAnswer run_state worker begun (range_request_at addr mode) answer
IsStepByPlan o run_state worker begun (step.Claimed block answer) =
    IsClaimAskedFor o begun block × IsClaimAnswer run_state worker begun block answer
IsStepByPlan o run_state worker begun (step.Commit blocks answer) =
    AreChanged begun blocks × IsCommitting o run_state.log blocks answer
IsStepByPlan o run_state worker begun (step.Ended (ending.NoMemory error)) = Unit {0}
IsStepByPlan o run_state worker begun _ = ⊥

-- what its call knew is taken again first, in its order, and answered as any lock request is
abbrev pub IsRetaking : RunState → ℕ → Begun → LockRequest → Step → Type 0
IsRetaking run_state worker begun next (step.Wanted addr mode answer) =
    (next ≡ lock_request.Object addr mode) × IsLockAnswer run_state worker begun (range_request_at addr mode) answer
IsRetaking run_state worker begun next (step.Claimed block answer) =
    (next ≡ lock_request.Claim block) × IsClaimAnswer run_state worker begun block answer
IsRetaking run_state worker begun next _ = ⊥

abbrev pub IsStepRetakingFirst : List LockRequest → Setting → RunState → ℕ → Begun → Step → Type 0
IsStepRetakingFirst [] o run_state worker begun made = IsStepByPlan o run_state worker begun made
IsStepRetakingFirst (next ∷ later) o run_state worker begun made = IsRetaking run_state worker begun next made

-- a step of a worker with a transaction
abbrev pub IsStepWithin : Setting → RunState → ℕ → Begun → Step → Type 0
IsStepWithin o run_state worker begun made = IsStepRetakingFirst begun.left o run_state worker begun made

-- the place is found settled where it is
abbrev pub IsStepOfWaiting : LogState → ℕ → Step → Type 0
IsStepOfWaiting log place (step.Stable seq settled) = (seq.0 ≡ place)
    × (settled ≡ nat_le place (state_settled log))
IsStepOfWaiting log place _ = ⊥

-- a worker with a call, of which no read is due, goes on with it
abbrev pub IsStepWith : Setting → RunState → ℕ → Call → Stage → Step → Type 0
IsStepWith o run_state worker call (Called known) made = IsStepOfCalled run_state (begins_transaction call) made
IsStepWith o run_state worker call (Planning begun) made = IsStepWithin o run_state worker begun made
IsStepWith o run_state worker call (Reading begun taken) made = ⊥
IsStepWith o run_state worker call (Read begun taken true) made = made ≡ step.Fetched taken.addr.block
IsStepWith o run_state worker call (Read begun taken false) made = made ≡ step.FetchFailed taken.addr.block
IsStepWith o run_state worker call (Refused begun why) made = made ≡ step.Ended ending.Refused
IsStepWith o run_state worker call (Again begun request) made = made ≡ step.Ended ending.Again
IsStepWith o run_state worker call (Waiting place) made = IsStepOfWaiting run_state.log place made

abbrev pub IsStepOfWork : Setting → RunState → ℕ → Progress → Option Step → Type 0
IsStepOfWork o run_state worker Idle made = made ≡ None
IsStepOfWork o run_state worker (At job (Reading begun taken)) made = made ≡ None
IsStepOfWork o run_state worker (At job stage) (Some made) = IsStepWith o run_state worker job.call stage made
IsStepOfWork o run_state worker (At job stage) None = ⊥

-- a read that is due is made
abbrev pub IsReadOf : BlockNo → Option Step → Type 0
IsReadOf block (Some (step.Read read ok)) = read ≡ block
IsReadOf block _ = ⊥

abbrev pub IsStepOfRead : Progress → Option Step → Type 0
IsStepOfRead (At job (Reading begun taken)) made = IsReadOf taken.addr.block made
IsStepOfRead _ made = made ≡ None

-- ---- what the log and the installer may do

-- the call that was made is given back, and where none is out the next is taken, if one is to be had
abbrev pub IsNextOfLog : Bool → IoCall → Option Step → Type 0
IsNextOfLog true next (Some (step.LogNext call)) = call ≡ next
IsNextOfLog true next _ = ⊥
IsNextOfLog false next made = made ≡ None

abbrev pub IsNextOfInstaller : Bool → (IoCall → Type 0) → Option Step → Type 0
IsNextOfInstaller true IsNext (Some (step.InstNext call)) = IsNext call
IsNextOfInstaller true IsNext _ = ⊥
IsNextOfInstaller false IsNext made = made ≡ None

abbrev pub IsStepOfLog : Setting → LogState → CallState → Option Step → Type 0
IsStepOfLog o log idle made = IsNextOfLog (state_may_log log) (next_log_call o.position log) made
IsStepOfLog o log (out call) made = made ≡ None
IsStepOfLog o log (was_made call ok) made = made ≡ Some (step.LogDone ok)

abbrev pub IsStepOfInstaller : Setting → LogState → CallState → Option Step → Type 0
IsStepOfInstaller o log idle made =
    IsNextOfInstaller (state_may_install log) (IsNextOfInstalling o.geometry.blocks log) made
IsStepOfInstaller o log (out call) made = made ≡ None
IsStepOfInstaller o log (was_made call ok) made = made ≡ Some (step.InstDone ok)

-- the call that is out is made
abbrev pub IsStepOfLogIo : CallState → Option Step → Type 0
IsStepOfLogIo (out call) (Some (step.LogIo ok)) = Unit {0}
IsStepOfLogIo (out call) _ = ⊥
IsStepOfLogIo idle made = made ≡ None
IsStepOfLogIo (was_made call ok) made = made ≡ None

abbrev pub IsStepOfInstIo : CallState → Option Step → Type 0
IsStepOfInstIo (out call) (Some (step.InstIo ok)) = Unit {0}
IsStepOfInstIo (out call) _ = ⊥
IsStepOfInstIo idle made = made ≡ None
IsStepOfInstIo (was_made call ok) made = made ≡ None

-- An event that applies makes a step of its kind, and one that doesn't makes none.
abbrev pub IsStepOf : Setting → RunState → Event → Option Step → Type 0
IsStepOf o run_state (event.Call worker credential moment call) made = IsStepOfCall (run_state.workers worker) made
IsStepOf o run_state (event.Work worker) made = IsStepOfWork o run_state worker (run_state.workers worker) made
IsStepOf o run_state (event.Read worker) made = IsStepOfRead (run_state.workers worker) made
IsStepOf o run_state event.Log made = IsStepOfLog o run_state.log run_state.log.log_call made
IsStepOf o run_state event.LogIo made = IsStepOfLogIo run_state.log.log_call made
IsStepOf o run_state event.Install made = IsStepOfInstaller o run_state.log run_state.log.inst_call made
IsStepOf o run_state event.InstIo made = IsStepOfInstIo run_state.log.inst_call made

-- ---- along a run

-- what is told before the event of an index
abbrev pub state_before : Schedule → List (Option Step) → ℕ → RunState
state_before events steps index = state_along at_first (take index (zip events steps))

-- how far a worker is before the event of an index
abbrev pub progress_before : Schedule → List (Option Step) → ℕ → ℕ → Progress
progress_before events steps worker index = (state_before events steps index).workers worker

-- the worker that an event is of; those of the log and the installer are of none
abbrev pub worker_of : Event → Option ℕ
worker_of (event.Call worker credential moment call) = Some worker
worker_of (event.Work worker) = Some worker
worker_of (event.Read worker) = Some worker
worker_of event.Log = None
worker_of event.LogIo = None
worker_of event.Install = None
worker_of event.InstIo = None

-- the event is of no worker, or of one of so many
abbrev pub IsOfOne : ℕ → Option ℕ → Type 0
IsOfOne workers None = Unit {0}
IsOfOne workers (Some worker) = worker < workers
