-- What a port is asked for by a call of the log.
use Rattle.disk.specs.Device.{Content}
use Rattle.disk.specs.Overlap.{DeviceCall, settles, writes}
use Rattle.circ.specs.Log.Io.{Io}
use Rattle.circ.specs.declared.log.calls.IoCall.{IoCall}
use Rattle.circ.specs.declared.log.calls.IoCall.TheVariants.{Write, Barrier}

-- the call with what a write writes
abbrev pub call_with : IoCall → Content → DeviceCall
call_with (Write block) content = writes block.0 content
call_with (Barrier role) content = settles role

abbrev pub port_call : Io → DeviceCall
port_call io = call_with io.call io.content
