-- What follows from the calls that are noted.
use Rattle.std.specs.Prelude.{ℕ, Bool, false, ◌&&◌, nat_eq, Result, is_err}
use Rattle.disk.specs.declared.device.Failed.{Failed}
use Rattle.disk.specs.declared.call_record.Call.{Call}
use Rattle.disk.specs.declared.call_record.Call.TheVariants.{Read, Write, Barrier}
use Rattle.disk.specs.declared.call_record.CallRecord.{CallRecord}

-- the call failed
abbrev pub is_failure : CallRecord → Bool
is_failure n = is_err n.result

-- it was a write or a barrier, and failed
abbrev pub is_lost : Call → Result Unit Failed → Bool
is_lost (Read _) result = false
is_lost (Write at) result = is_err result
is_lost (Barrier _) result = is_err result

-- whether a call writes the block
abbrev pub writes : ℕ → Call → Bool
writes block (Read _) = false
writes block (Write at) = nat_eq block at.0
writes block (Barrier _) = false

-- it was a write of the block, which failed
abbrev pub makes_uncertain : ℕ → CallRecord → Bool
makes_uncertain block n = is_err n.result && writes block n.call
