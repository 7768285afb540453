-- Logger and installer as one machine, by the side of the disk that each works on: the logger on the log's side, the
-- installer on the home side. The agreements of the two stand in `circ`.
use Rattle.std.specs.Prelude.{Bool, Result}
use Rattle.disk.specs.Device.{Device}
use Rattle.disk.specs.declared.block.Side.{Side}
use Rattle.disk.specs.declared.block.Side.TheVariants.{Log as LogSide, Home}
use Rattle.disk.specs.declared.device.Failed.{Failed}
use Rattle.circ.specs.Log.Calls.{InstCallComesBack, InstCallGoesOut, InstCallIsMade, LogCallComesBack, LogCallGoesOut}
use Rattle.circ.specs.Log.Calls.{LogCallIsMade}
use Rattle.circ.specs.Log.Installer.{IsNextInstCall, is_inst_out, may_install, with_inst_back, with_inst_out}
use Rattle.circ.specs.Log.Io.{Io}
use Rattle.circ.specs.Log.Log.{Log}
use Rattle.circ.specs.Log.Logger.{IsNextLogCall, is_log_out, may_log, with_log_back, with_log_out}

-- the side has a call to hand out
abbrev pub may_call : Side → Log → Bool
may_call LogSide = may_log
may_call Home = may_install

-- the log once a call of the side is handed out
abbrev pub with_out : Side → Log → Log
with_out LogSide = with_log_out
with_out Home = with_inst_out

-- the call is the one that the side has to make next
abbrev pub IsNextCall : Side → Log → Io → Type 0
IsNextCall LogSide = IsNextLogCall
IsNextCall Home = IsNextInstCall

-- the call is the side's that is out
abbrev pub is_out : Side → Log → Io → Bool
is_out LogSide = is_log_out
is_out Home = is_inst_out

-- the log once the side's call is given back
abbrev pub with_back : Side → Log → Bool → Log
with_back LogSide = with_log_back
with_back Home = with_inst_back

-- what a call of the side that goes out leaves of the log
abbrev pub call_goes_out : Side → Log → Io → Log → Type 0
call_goes_out LogSide = LogCallGoesOut
call_goes_out Home = InstCallGoesOut

-- what a call of the side does to the device, whose answer this is
abbrev pub call_is_made : Side → Device → Io → Result Unit Failed → Device → Type 0
call_is_made LogSide = LogCallIsMade
call_is_made Home = InstCallIsMade

-- what a call of the side that is given back leaves of the log
abbrev pub call_comes_back : Side → Log → Io → Bool → Log → Type 0
call_comes_back LogSide = LogCallComesBack
call_comes_back Home = InstCallComesBack
