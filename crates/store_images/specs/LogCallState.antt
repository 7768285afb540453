-- The log's side of an open store, as the code has it: a call that is out, and the steps of its events.
use Rattle.std.specs.Prelude.{Bool, true, false, Option, Some, None, Ok, Err}
use Rattle.disk.specs.Device.{Device}
use Rattle.disk.specs.declared.block.Side.{Side}
use Rattle.disk.specs.declared.block.Side.TheVariants as sides
use Rattle.txn_law.specs.Core.{CoreState}
use Rattle.circ.specs.Log.Calls.{Pending, idle, out, was_made}
use Rattle.circ.specs.Log.Io.{Io}
use Rattle.circ.specs.declared.log.calls.IoCall.{IoCall}
use Rattle.store_promise.specs.declared.events.Step.{Step}
use Rattle.store_promise.specs.declared.events.Step.TheVariants as step
use Rattle.store_promise.specs.LogState.{LogState}
use Rattle.store_promise.specs.Running.{StoreState, side}
use Rattle.store_promise.specs.Schedule.{IsStepOfInstIo, IsStepOfInstaller, IsStepOfLog, IsStepOfLogIo, Setting}

-- a call that is out, and whether it was made well or not
abbrev pub pending_of : Option Io → Option Bool → Pending
pending_of None made = idle
pending_of (Some io) None = out io
pending_of (Some io) (Some true) = was_made io (Ok tt)
pending_of (Some io) (Some false) = was_made io (Err (record {}))

-- the steps of the log's events, and of the installer's
abbrev pub MayLog : Setting → LogState → Option Step → Type 0
MayLog o log made = IsStepOfLog o log log.log_call made

abbrev pub MayLogIo : Setting → LogState → Option Step → Type 0
MayLogIo o log made = IsStepOfLogIo log.log_call made

abbrev pub MayInstall : Setting → LogState → Option Step → Type 0
MayInstall o log made = IsStepOfInstaller o log log.inst_call made

abbrev pub MayInstIo : Setting → LogState → Option Step → Type 0
MayInstIo o log made = IsStepOfInstIo log.inst_call made

-- ---- the same by the side: the log's is the logger's, the home side the installer's

-- the steps that take a call, or give one back, and those that make it
abbrev pub MayStep : Side → Setting → LogState → Option Step → Type 0
MayStep sides.Log = MayLog
MayStep sides.Home = MayInstall

abbrev pub MayMake : Side → Setting → LogState → Option Step → Type 0
MayMake sides.Log = MayLogIo
MayMake sides.Home = MayInstIo

-- a call is taken, made and given back
abbrev pub takes : Side → IoCall → Step
takes sides.Log call = step.LogNext call
takes sides.Home call = step.InstNext call

abbrev pub makes : Side → Bool → Step
makes sides.Log ok = step.LogIo ok
makes sides.Home ok = step.InstIo ok

abbrev pub gives_back : Side → Bool → Step
gives_back sides.Log ok = step.LogDone ok
gives_back sides.Home ok = step.InstDone ok

-- a store of which the side has this call out, and the other side that one
abbrev pub store_state_with : Side → Device → CoreState → Pending → Pending → StoreState
store_state_with sides.Log d core own other = side d core own other
store_state_with sides.Home d core own other = side d core other own
