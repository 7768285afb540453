-- A device call that the memory log hands out.
use Rattle.std.specs.Prelude.{ℕ, ◌<◌, Result}
use Rattle.disk.specs.Device.{Content, Device, HasWritten, HasSettled}
use Rattle.disk.specs.declared.device.Failed.{Failed}
use Rattle.circ.specs.declared.log.calls.IoCall.{IoCall}
use Rattle.circ.specs.declared.log.calls.IoCall.TheVariants.{Write, Barrier}

-- A call that is out: where its group or installation begins in the log, how many calls of it came before,
-- the call, and what a write writes.
pub record Io : Type 0 where
  pub beginning : ℕ
  pub step : ℕ
  pub call : IoCall
  pub content : Content

-- a write goes to a block of the disk
abbrev pub IsCallWithin : ℕ → IoCall → Type 0
IsCallWithin blocks (Write block) = block.0 < blocks
IsCallWithin blocks (Barrier side) = Unit {0}

-- the call with its content leads from a device to a device
abbrev pub HasMadeCall : Device → IoCall → Content → Result Unit Failed → Device → Type 0
HasMadeCall old (Write block) content result new = HasWritten old block.0 content result new
HasMadeCall old (Barrier side) content result new = HasSettled old side result new

-- it was made
abbrev pub HasMade : Device → Io → Result Unit Failed → Device → Type 0
HasMade old io result new = HasMadeCall old io.call io.content result new
