-- What a worker has in each phase: a transaction, a fetch, and what it needs to go on.
use Rattle.std.specs.Prelude.{Bool, true, false, ◌&&◌, Option, Some, None, is_some}
use Rattle.disk.specs.declared.block.BlockNo.{BlockNo}
use Rattle.nfs_spec.specs.Model.Calls.{begins_transaction}
use Rattle.txn.specs.Fetch.{Fetch}
use Rattle.store_workers.specs.declared.workers.parts.Job.{Job}
use Rattle.store_workers.specs.declared.workers.parts.Phase.{Phase}
use Rattle.store_workers.specs.declared.workers.parts.Phase.TheVariants.{Idle, Called, Planning}
use Rattle.store_workers.specs.declared.workers.parts.Phase.TheVariants.{Reading, Read}
use Rattle.store_workers.specs.declared.workers.parts.Phase.TheVariants.{Refused, Again, Waiting}
use Rattle.store_workers.specs.declared.workers.parts.Work.{Work}

-- a transaction is out in this phase
abbrev pub has_transaction : Phase → Bool
has_transaction Idle = false
has_transaction Called = false
has_transaction Planning = true
has_transaction Reading = true
has_transaction (Read ok) = true
has_transaction (Refused refusal) = true
has_transaction Again = true
has_transaction (Waiting place) = false

-- a block is being read in this phase
abbrev pub has_fetch : Phase → Bool
has_fetch Idle = false
has_fetch Called = false
has_fetch Planning = false
has_fetch Reading = true
has_fetch (Read ok) = true
has_fetch (Refused refusal) = false
has_fetch Again = false
has_fetch (Waiting place) = false

-- there is a call, and it begins a transaction
abbrev pub is_served : Option Job → Bool
is_served None = false
is_served (Some job) = begins_transaction job.call

-- there is such a call, with what was read for it
abbrev pub is_planned : Work → Bool
is_planned work = is_served work.job && is_some work.planner

-- what the worker needs to go on is there
abbrev pub is_ready : Phase → Work → Bool
is_ready Idle work = true
is_ready Called work = is_some work.job
is_ready Planning work = is_planned work
is_ready Reading work = is_planned work
is_ready (Read ok) work = is_planned work
is_ready (Refused refusal) work = is_some work.job
is_ready Again work = is_some work.job
is_ready (Waiting place) work = is_some work.reply && is_some work.broken_reply

-- the block whose read is due
abbrev pub block_due : Phase → Option Fetch → Option BlockNo
block_due Reading (Some io) = Some io.block
block_due _ _ = None
