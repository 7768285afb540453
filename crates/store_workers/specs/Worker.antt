-- What a worker has, and the core that it fits.
use Rattle.std.specs.Prelude.{◌≡◌, ℕ, ◌<◌, true, Some, None, is_some, IfSome, length}
use Rattle.nfs_types.specs.declared.call.Call.{Call}
use Rattle.nfs_types.specs.declared.ctx.Credential.{Credential}
use Rattle.nfs_types.specs.declared.ctx.Ctx.{Ctx}
use Rattle.nfs_types.specs.declared.ctx.Moment.{Moment}
use Rattle.layout.specs.Geometry.{IsLawful}
use Rattle.objects.specs.declared.mode.Mode.TheVariants as modes
use Rattle.txn.specs.Core.{CoreState, IsOut}
use Rattle.txn.specs.declared.outcomes.Want.{Want}
use Rattle.txn.specs.declared.outcomes.Want.TheVariants as want
use Rattle.store_workers.specs.Knowing.{nothing_known}
use Rattle.store_workers.specs.Phases.{has_fetch, has_transaction, is_planned, is_ready}
use Rattle.store_workers.specs.declared.workers.parts.Phase.TheVariants.{Idle, Called}
use Rattle.store_workers.specs.declared.workers.parts.State.{State}
use Rattle.store_workers.specs.declared.workers.Worker.{Worker}

-- the block that it has to read is one of so many
abbrev pub ReadsWithin : ℕ → State → Type 0
ReadsWithin blocks state = IfSome state.begun.io (λ io. io.block.0 < blocks)

-- A core fits it: the worker's transaction is out of the core, the block that it reads is one of the image's,
-- and the image's counts are lawful.
pub record IsCoreOf (state : State) (core : CoreState) : Type 0 where
  pub out : IfSome state.begun.tx (IsOut core)
  pub reads : ReadsWithin core.log.blocks state
  pub lawful : IsLawful core.log.blocks core.inodes

-- A worker fits a core. That it has what it needs to go on is known by its type.
abbrev pub Fits : Worker → CoreState → Type 0
Fits worker core = IsCoreOf worker.state core

-- it has what its phase needs
pub record IsSound (state : State) : Type 0 where
  pub transaction : is_some state.begun.tx ≡ has_transaction state.phase
  pub fetch : is_some state.begun.io ≡ has_fetch state.phase
  pub ready : is_ready state.phase state.work ≡ true

-- it has both: so it is of a worker's state between the steps
pub record GoesWith (state : State) (core : CoreState) : Type 0 where
  pub sound : IsSound state
  pub core_of : IsCoreOf state core

-- the worker's transaction was taken out of it, and what it needs to plan is there
pub record IsHeld (state : State) : Type 0 where
  pub none : state.begun.tx ≡ None
  pub no_fetch : state.begun.io ≡ None
  pub planned : is_planned state.work ≡ true

-- an object that is held has as many bytes as were asked for
abbrev pub HasBytes : ℕ → Want → Type 0
HasBytes len (want.Held back bytes) = length bytes ≡ len
HasBytes len (want.Busy back) = Unit {0}
HasBytes len (want.Fetch back io) = Unit {0}
HasBytes len (want.Loading back) = Unit {0}
HasBytes len (want.Outside back) = Unit {0}
HasBytes len (want.NoMemory back error) = Unit {0}

-- the context of a call that has begun no transaction yet: boot number and transaction are then those of the core
abbrev pub ctx_of : Credential → Moment → Ctx
ctx_of credential moment = record { credential = credential; moment = moment; boot = 0; transaction = 0 }

-- an idle worker that has taken a call
abbrev pub with_call : Ctx → Call → State → State
with_call ctx call state = record state {
  work = record state.work { job = Some (record { ctx = ctx; call = call }) };
  phase = Called;
  known = nothing_known;
}

-- a worker that has done nothing yet
abbrev pub at_rest : State
at_rest = record {
  phase = Idle;
  work = record { job = None; planner = None; reply = None; broken_reply = None; entry = None; answer = None };
  begun = record { tx = None; io = None };
  asked = record { fetch_addr = None; mode = modes.Exclusive; waiting = None };
  known = nothing_known;
}
