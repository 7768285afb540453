-- Calls of a device that may overlap in time.
use Rattle.std.specs.Prelude.{◌≡◌, ◌≢◌, ℕ, false, Result, OnOk}
use Rattle.disk.specs.declared.block.Side.{Side}
use Rattle.disk.specs.declared.device.Failed.{Failed}
use Rattle.disk.specs.Device.{Content, Device, current, newest, side_of, is_on, CountsFailure, HasRead}
use Rattle.disk.specs.Device.{HasWritten, HasSettled}

-- a read with the bytes that it brings, a write with its bytes, or a barrier
pub data DeviceCall : Type 0 where
  reads : ℕ → Content → DeviceCall
  writes : ℕ → Content → DeviceCall
  settles : Side → DeviceCall

-- a read brings the newest content, unless a write of the block had failed
abbrev pub Brings : Device → ℕ → Content → Result Unit Failed → Type 0
Brings d block bytes result = d.uncertain block ≡ false → OnOk result (bytes ≡ newest (current d block))

-- the call may have this result, and leads from the old device to the new
abbrev pub Makes : Device → DeviceCall → Result Unit Failed → Device → Type 0
Makes old (reads block bytes) result new = HasRead old new × CountsFailure old new result
    × Brings old block bytes result
Makes old (writes block bytes) result new = HasWritten old block bytes result new
    × CountsFailure old new result
Makes old (settles side) result new = HasSettled old side result new × CountsFailure old new result

-- Two calls that may overlap: two reads, a read and a barrier, a read and a write of different blocks, and
-- calls of different sides.
abbrev pub MayOverlap : DeviceCall → DeviceCall → Type 0
MayOverlap (reads one x) (reads other y) = Unit
MayOverlap (reads one x) (writes other y) = one ≢ other
MayOverlap (reads one x) (settles side) = Unit
MayOverlap (writes one x) (reads other y) = one ≢ other
MayOverlap (writes one x) (writes other y) = side_of one ≢ side_of other
MayOverlap (writes one x) (settles side) = is_on side one ≡ false
MayOverlap (settles side) (reads other y) = Unit
MayOverlap (settles side) (writes other y) = is_on side other ≡ false
MayOverlap (settles side) (settles other) = side ≢ other

-- two devices with the same contents now, as many calls and failures, and the same blocks uncertain
pub record Alike (one other : Device) : Type 0 where
  pub size : one.size ≡ other.size
  pub clock : one.clock ≡ other.clock
  pub failures : one.failures ≡ other.failures
  pub contents : (block : ℕ) → current one block ≡ current other block
  pub uncertain : (block : ℕ) → one.uncertain block ≡ other.uncertain block

-- there are devices on the way and at the end by which the calls come in the other order, with the same
-- results
pub record Swapped (old : Device) (first second : DeviceCall) (r s : Result Unit Failed) (new : Device) : Type
    0 where
  pub between : Device
  pub end : Device
  pub second_first : Makes old second s between
  pub first_second : Makes between first r end
  pub same : Alike new end
