-- The calls of one side of a device, and the reads of its home blocks, as who makes them notes them.
use Rattle.std.specs.Prelude.{◌≡◌, ℕ, ◌<◌, true, List, map, Result}
use Rattle.disk.specs.declared.block.Side.{Side}
use Rattle.disk.specs.declared.device.Failed.{Failed}
use Rattle.disk.specs.declared.ports.PortCall.{PortCall}
use Rattle.disk.specs.declared.ports.PortCall.TheVariants.{Read, Write, Barrier}
use Rattle.disk.specs.Device.{is_on}
use Rattle.disk.specs.Overlap.{DeviceCall, reads, writes, settles}

-- calls in their order, each with its answer
abbrev pub AnsweredCalls : Type 0
AnsweredCalls = List (DeviceCall × Result Unit Failed)

-- a call with the bytes that it brought or wrote
abbrev pub device_call : PortCall → DeviceCall
device_call (Read block bytes) = reads block.0 bytes.value
device_call (Write block bytes) = writes block.0 bytes.value
device_call (Barrier side) = settles side

abbrev pub answered : List (PortCall × Result Unit Failed) → AnsweredCalls
answered traced = map (λ one. (device_call one.0, one.1)) traced

-- the block is one of so many, on this side
abbrev pub LiesOn : ℕ → Side → ℕ → Type 0
LiesOn size side block = (block < size) × (is_on side block ≡ true)
