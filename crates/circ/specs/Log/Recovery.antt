-- What an opening finds in the log of a disk.
use Rattle.std.specs.Prelude.{◌≡◌, ℕ, ◌+◌, ◌<◌, ◌≤◌, false, Result, Ok, Err}
use Rattle.std.specs.Prelude.{Vec}
use Rattle.std.specs.declared.alloc.Global.{Global}
use Rattle.disk.specs.Device.{Content, Device, current, newest}
use Rattle.disk.specs.Failures.{CountsFailures}
use Rattle.disk.specs.declared.block.BlockNo.{BlockNo}
use Rattle.disk.specs.Crash.{Image}
use Rattle.circ.specs.declared.log.recovery.LogFault.{LogFault}
use Rattle.circ.specs.declared.log.recovery.LogFault.TheVariants.{Range, Address, Device as DeviceFails}
use Rattle.circ.specs.declared.log.recovery.LogFault.TheVariants.{NoMemory}
use Rattle.circ.specs.declared.log.recovery.Recovered.{Recovered}
use Rattle.circ.specs.Log.Overlay.{start_in, logged_in, IsInRange, HasHomes}

-- the image that is read: the newest content of each block
abbrev pub image_of : Device → Image
image_of d block = newest (current d block)

-- no write has failed
abbrev pub IsCertain : Device → Type 0
IsCertain d = (block : ℕ) → d.uncertain block ≡ false

-- some reads later: no block has changed, at no clock since
pub record HasOnlyRead (old new : Device) : Type 0 where
  pub size : new.size ≡ old.size
  pub clock : old.clock ≤ new.clock
  pub past : (clock block : ℕ) → clock ≤ old.clock → new.contents clock block ≡ old.contents clock block
  pub during : (clock block : ℕ) → old.clock ≤ clock → clock ≤ new.clock
      → new.contents clock block ≡ current old block
  pub uncertain : (block : ℕ) → new.uncertain block ≡ old.uncertain block
  pub failed : (call : ℕ) → call < old.clock → new.failed call ≡ old.failed call
  pub lost : (call : ℕ) → call < old.clock → new.lost call ≡ old.lost call
  pub counted : CountsFailures old new

-- a failure is counted just where the answer is that the device failed
abbrev pub CountsFault : {T : Type 0} → Device → Device → Result T LogFault → Type 0
CountsFault old new (Ok found) = new.failures ≡ old.failures
CountsFault old new (Err DeviceFails) = new.failures ≡ old.failures + 1
CountsFault old new (Err Range) = new.failures ≡ old.failures
CountsFault old new (Err Address) = new.failures ≡ old.failures
CountsFault old new (Err (NoMemory error)) = new.failures ≡ old.failures

-- the log of an image: its positions in order, where start and end belong together and each position has a
-- home
abbrev pub IsRecovered : ℕ → Image → Result Recovered LogFault → Type 0
IsRecovered blocks image (Ok found) = (found.start ≡ start_in image) × (found.logged.items ≡ logged_in image)
    × IsInRange image × HasHomes blocks image
IsRecovered blocks image (Err Range) = IsInRange image → ⊥
IsRecovered blocks image (Err Address) = IsInRange image × (HasHomes blocks image → ⊥)
IsRecovered blocks image (Err DeviceFails) = Unit {0}
IsRecovered blocks image (Err (NoMemory error)) = Unit {0}

-- the same of the positions alone
abbrev pub IsLog : ℕ → Image → Result (Vec (BlockNo × Content) Global) LogFault → Type 0
IsLog blocks image (Ok logged) = (logged.items ≡ logged_in image) × IsInRange image × HasHomes blocks image
IsLog blocks image (Err Range) = IsInRange image → ⊥
IsLog blocks image (Err Address) = IsInRange image × (HasHomes blocks image → ⊥)
IsLog blocks image (Err DeviceFails) = Unit {0}
IsLog blocks image (Err (NoMemory error)) = Unit {0}
