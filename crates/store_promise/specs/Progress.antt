-- How far a worker is with its call, told from the steps of its own alone. The stages bear the names that the
-- phases of a worker have.
use Rattle.std.specs.Prelude.{ℕ, ◌+◌, Bool, true, false, ◌||◌, ◌&&◌, if◌then◌else◌, nat_eq, nat_lt, List, []}
use Rattle.std.specs.Prelude.{◌∷◌, ◌++◌, drop, map, Ok, Option, Some, None}
use Rattle.std.specs.List.{list_any}
use Rattle.disk.specs.declared.block.BlockNo.{BlockNo}
use Rattle.inode.specs.Snap.{same_addr}
use Rattle.objects.specs.Mode.{is_exclusive, upgraded}
use Rattle.objects.specs.declared.addr.Addr.{Addr}
use Rattle.objects.specs.declared.mode.Mode.{Mode}
use Rattle.nfs_types.specs.declared.call.Call.{Call}
use Rattle.nfs_types.specs.declared.ctx.Credential.{Credential}
use Rattle.nfs_types.specs.declared.ctx.Moment.{Moment}
use Rattle.nfs_spec.specs.Model.Calls.{is_answered_stable}
use Rattle.store_promise.specs.LockRequests.{inserted, is_barred}
use Rattle.store_promise.specs.declared.lock_requests.LockRequest.{LockRequest}
use Rattle.store_promise.specs.declared.lock_requests.LockRequest.TheVariants as lock_request
use Rattle.store_promise.specs.declared.events.Cause.{Cause}
use Rattle.store_promise.specs.declared.events.Cause.TheVariants as cause
use Rattle.store_promise.specs.declared.events.Committing.{Committing}
use Rattle.store_promise.specs.declared.events.Committing.TheVariants as committing
use Rattle.store_promise.specs.declared.events.Step.{Step}
use Rattle.store_promise.specs.declared.events.Step.TheVariants as step
use Rattle.store_promise.specs.declared.events.LockAnswer.{LockAnswer}
use Rattle.store_promise.specs.declared.events.LockAnswer.TheVariants as lock_answer

-- what a worker was handed: whom the call is made for, when, and the call
pub record Job : Type 0 where
  pub credential : Credential
  pub moment : Moment
  pub call : Call

-- an object that a transaction has, and in which mode
pub record Taken : Type 0 where
  pub addr : Addr
  pub mode : Mode

-- the addresses of what was taken
abbrev pub addrs_of : List Taken → List Addr
addrs_of taken = map (λ (one : Taken). one.addr) taken

-- A transaction that is out: its number, the objects that its plan was told, each in the mode that the plan asked
-- for last, and the blocks that it has claimed, both in the order in which they came; all that the transaction has
-- taken; and what its call knew when it began, and isn't taken again yet. The last two rise.
pub record Begun : Type 0 where
  pub number : ℕ
  pub held : List Taken
  pub claimed : List BlockNo
  pub taken : List LockRequest
  pub left : List LockRequest

-- how far a worker is with a call
pub data Stage : Type 0 where
  -- it has no transaction; it knows what it has taken, and was kept off from, in those before
  Called : List LockRequest → Stage
  -- it has a transaction, in which it takes again what it knew, and then reads and claims what its plan asks for
  Planning : Begun → Stage
  -- a read of this object's block is due
  Reading : Begun → Taken → Stage
  -- the read was made, well or not, and the block is to be given back
  Read : Begun → Taken → Bool → Stage
  -- its transaction is to be ended, and then the call is answered
  Refused : Begun → Cause → Stage
  -- its transaction is to be ended, and then the call begins again: it was kept off from this, which lies below
  -- what it has taken or raises it; or, where there is none, its change was foreign
  Again : Begun → Option LockRequest → Stage
  -- its procedure was committed at this place, and isn't answered yet
  Waiting : ℕ → Stage

-- a worker has no call, or is so far with one
pub data Progress : Type 0 where
  Idle : Progress
  At : Job → Stage → Progress

abbrev pub is_idle : Progress → Bool
is_idle Idle = true
is_idle (At job stage) = false

-- ---- what is taken

abbrev pub lock_request_of : Taken → LockRequest
lock_request_of taken = lock_request.Object taken.addr taken.mode

-- it has taken this too, which was the next that was left, if any was
abbrev pub with_taken : Begun → LockRequest → Begun
with_taken begun one = record begun { taken = inserted one begun.taken; left = drop 1 begun.left }

-- an object that was told, in the mode of another one, where that is the same object
abbrev pub upgraded_object_read : Taken → Taken → Taken
upgraded_object_read one other =
    if same_addr one.addr other.addr then record other { mode = upgraded other.mode one.mode } else other

-- it was told, in whatever mode
abbrev pub is_in_read_set : Addr → List Taken → Bool
is_in_read_set addr held = list_any (λ (other : Taken). same_addr addr other.addr) held

-- the objects that were told, with one more, or with this one of them raised
abbrev pub read_set_with : Taken → List Taken → List Taken
read_set_with one held = if is_in_read_set one.addr held then map (upgraded_object_read one) held else held ++ one ∷ []

-- its plan is told an object, or has claimed a block, once nothing is left to be taken again
abbrev pub object_read_by : List LockRequest → Begun → Taken → Begun
object_read_by [] begun taken = record begun { held = read_set_with taken begun.held }
object_read_by (next ∷ later) begun taken = begun

abbrev pub claimed_by : List LockRequest → Begun → BlockNo → Begun
claimed_by [] begun block = record begun { claimed = begun.claimed ++ block ∷ [] }
claimed_by (next ∷ later) begun block = begun

abbrev pub with_held : Begun → Taken → Begun
with_held begun taken = object_read_by begun.left (with_taken begun (lock_request_of taken)) taken

abbrev pub with_claimed : Begun → BlockNo → Begun
with_claimed begun block = claimed_by begun.left (with_taken begun (lock_request.Claim block)) block

-- Who is kept off waits, and asks again, where it has taken nothing above what it asks for, nor that itself in a lower
-- mode. Else it gives all back, and takes it again from the lowest on, each object once and in the highest mode that it
-- was asked for: so no two wait for each other, and no two that raise one object keep each other off again.
abbrev pub deferred : Begun → LockRequest → Stage
deferred begun request = if is_barred request begun.taken then Again begun (Some request) else Planning begun

-- what the call knows then
abbrev pub with_request : Option LockRequest → List LockRequest → List LockRequest
with_request None lock_requests = lock_requests
with_request (Some request) lock_requests = inserted request lock_requests

abbrev pub known_then : Begun → Option LockRequest → List LockRequest
known_then begun request = with_request request (begun.taken ++ begun.left)

-- ---- a step

-- what wasn't had yet is asked for again
abbrev pub after_wanted : Begun → Taken → LockAnswer → Stage
after_wanted begun taken lock_answer.Held = Planning (with_held begun taken)
after_wanted begun taken lock_answer.Fetch = Reading (with_taken begun (lock_request_of taken)) taken
after_wanted begun taken lock_answer.Busy = deferred begun (lock_request_of taken)
after_wanted begun taken lock_answer.Loading = deferred begun (lock_request_of taken)
after_wanted begun taken lock_answer.Outside = Refused begun cause.Io
after_wanted begun taken (lock_answer.NoMemory error) = Refused begun (cause.NoMemory error)

abbrev pub after_claimed : Begun → BlockNo → LockAnswer → Stage
after_claimed begun block lock_answer.Held = Planning (with_claimed begun block)
after_claimed begun block lock_answer.Fetch = Planning begun
after_claimed begun block lock_answer.Busy = deferred begun (lock_request.Claim block)
after_claimed begun block lock_answer.Loading = deferred begun (lock_request.Claim block)
after_claimed begun block lock_answer.Outside = Refused begun cause.Io
after_claimed begun block (lock_answer.NoMemory error) = Refused begun (cause.NoMemory error)

-- None where the call is answered with the step. A commit that found the log full is tried again.
abbrev pub after_commit : Bool → Begun → Committing → Option Stage
after_commit stable begun (committing.Committed place) = if stable then Some (Waiting place.0) else None
after_commit stable begun committing.Full = Some (Planning begun)
after_commit stable begun committing.Foreign = Some (Again begun None)
after_commit stable begun (committing.NoMemory error) = Some (Refused begun (cause.NoMemory error))
after_commit stable begun committing.Broken = Some (Refused begun cause.Io)
after_commit stable begun committing.Spent = Some (Refused begun cause.Spent)

abbrev pub after_planning : Bool → Begun → Step → Option Stage
after_planning stable begun (step.Wanted addr mode answer) =
    Some (after_wanted begun (record { addr = addr; mode = mode }) answer)
after_planning stable begun (step.Claimed block answer) = Some (after_claimed begun block answer)
after_planning stable begun (step.Commit blocks answer) = after_commit stable begun answer
after_planning stable begun (step.Ended why) = None
after_planning stable begun _ = Some (Planning begun)

-- a transaction in which nothing is taken yet, of a call that knew this
abbrev pub fresh : ℕ → List LockRequest → Begun
fresh number known = record { number = number; held = []; claimed = []; taken = []; left = known }

-- a call without a transaction is answered, and so is one for which none was begun
abbrev pub after_called : List LockRequest → Step → Option Stage
after_called known (step.Begun (Ok number)) = Some (Planning (fresh number known))
after_called known _ = None

abbrev pub after_reading : Begun → Taken → Step → Option Stage
after_reading begun taken (step.Read block ok) = Some (Read begun taken ok)
after_reading begun taken _ = Some (Reading begun taken)

-- one that waits is answered once its place is settled, or once the store is broken
abbrev pub after_waiting : Bool → ℕ → Step → Option Stage
after_waiting broken place (step.Stable seq settled) = if settled || broken then None
    else Some (Waiting place)
after_waiting broken place _ = Some (Waiting place)

-- how far it is after a step of its worker, where the store is broken or isn't, and where its call is answered
-- once it is stable or isn't
abbrev pub stage_after : Bool → Bool → Step → Stage → Option Stage
stage_after broken stable made (Called known) = after_called known made
stage_after broken stable made (Planning begun) = after_planning stable begun made
stage_after broken stable made (Reading begun taken) = after_reading begun taken made
stage_after broken stable made (Read begun taken true) = Some (Planning begun)
stage_after broken stable made (Read begun taken false) = Some (Refused begun cause.Io)
stage_after broken stable made (Refused begun why) = None
stage_after broken stable made (Again begun request) = Some (Called (known_then begun request))
stage_after broken stable made (Waiting place) = after_waiting broken place made

abbrev pub going_on : Job → Option Stage → Progress
going_on job None = Idle
going_on job (Some stage) = At job stage

-- a worker after a step of its own
abbrev pub progressed : Bool → Step → Progress → Progress
progressed broken made Idle = Idle
progressed broken made (At job stage) =
    going_on job (stage_after broken (is_answered_stable job.call) made stage)

-- so many bytes of a block, from an offset on, and the mode in which they are asked for
pub record RangeRequest : Type 0 where
  pub block : BlockNo
  pub offset : ℕ
  pub len : ℕ
  pub mode : Mode

-- an object shares a byte with what is asked for
abbrev pub shares : RangeRequest → Addr → Bool
shares request addr =
    nat_eq addr.block.0 request.block.0 && nat_lt addr.offset (request.offset + request.len)
    && nat_lt request.offset (addr.offset + addr.len)

-- what is taken keeps it off: they share a byte, and one of the two is exclusive
abbrev pub conflicts_with : RangeRequest → Taken → Bool
conflicts_with request taken =
    shares request taken.addr && (is_exclusive taken.mode || is_exclusive request.mode)

-- so does what a transaction has taken; a claim is of the whole block, and exclusive
abbrev pub lock_request_conflicts : RangeRequest → LockRequest → Bool
lock_request_conflicts request (lock_request.Object addr mode) = conflicts_with request (record { addr = addr; mode = mode })
lock_request_conflicts request (lock_request.Claim block) = nat_eq block.0 request.block.0

-- something that it has taken does
abbrev pub takes : RangeRequest → Begun → Bool
takes request begun = list_any (lock_request_conflicts request) begun.taken

abbrev pub stage_takes : RangeRequest → Stage → Bool
stage_takes request (Called known) = false
stage_takes request (Planning begun) = takes request begun
stage_takes request (Reading begun taken) = takes request begun
stage_takes request (Read begun taken ok) = takes request begun
stage_takes request (Refused begun why) = takes request begun
stage_takes request (Again begun off) = takes request begun
stage_takes request (Waiting place) = false

-- a worker's transaction has
abbrev pub has_taken : RangeRequest → Progress → Bool
has_taken request Idle = false
has_taken request (At job stage) = stage_takes request stage

-- a worker has a fetch of the block out
abbrev pub is_fetching : BlockNo → Progress → Bool
is_fetching block (At job (Reading begun taken)) = nat_eq taken.addr.block.0 block.0
is_fetching block (At job (Read begun taken ok)) = nat_eq taken.addr.block.0 block.0
is_fetching block _ = false

-- an object of the block was told or fetched, so that the block is in memory until the transaction ends
abbrev pub is_object_in : BlockNo → LockRequest → Bool
is_object_in block (lock_request.Object addr mode) = nat_eq addr.block.0 block.0
is_object_in block (lock_request.Claim claimed) = false

abbrev pub is_loaded : BlockNo → Begun → Bool
is_loaded block begun = list_any (is_object_in block) begun.taken

-- so it is of a worker that goes by its plan
abbrev pub has_loaded : BlockNo → Progress → Bool
has_loaded block (At job (Planning begun)) = is_loaded block begun
has_loaded block _ = false

-- a part of the block, or the whole, is taken alone
abbrev pub is_part_exclusive : BlockNo → LockRequest → Bool
is_part_exclusive block (lock_request.Object addr mode) = nat_eq addr.block.0 block.0 && is_exclusive mode
is_part_exclusive block (lock_request.Claim claimed) = nat_eq claimed.0 block.0

-- its transaction has so taken one
abbrev pub has_part_exclusive : BlockNo → Begun → Bool
has_part_exclusive block begun = list_any (is_part_exclusive block) begun.taken
