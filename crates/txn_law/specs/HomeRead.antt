-- What a read of a block that the log doesn't have brings, also beside a log that is broken.
use Rattle.std.specs.Prelude.{◌≡◌, ℕ, ◌<◌, true, length, None, Ok, Err}
use Rattle.disk.specs.Device.{Device, current}
use Rattle.circ.specs.Log.Calls.{Pending, idle, out, was_made}
use Rattle.circ.specs.Log.Law.{IsOutside}
use Rattle.circ.specs.Log.Log.{Log, newest}

-- the installer makes no more calls: its call has failed, and where it was given back the log is broken
abbrev pub IsStuck : Log → Pending → Type 0
IsStuck log idle = log.broken ≡ true
IsStuck log (out io) = ⊥
IsStuck log (was_made io (Ok _)) = ⊥
IsStuck log (was_made io (Err _)) = Unit {0}

-- A block at home of which a write failed is in the log, and stays there.
pub record IsReadable (d : Device) (log : Log) (installing : Pending) : Type 0 where
  pub logged : (block : ℕ) → IsOutside log.blocks block → d.uncertain block ≡ true → newest log block ≡ None → ⊥
  pub stuck : (block : ℕ) → IsOutside log.blocks block → d.uncertain block ≡ true → IsStuck log installing

-- each block of the device has a content
abbrev pub HasContents : Device → Type 0
HasContents d = (block : ℕ) → block < d.size → 0 < length (current d block)
