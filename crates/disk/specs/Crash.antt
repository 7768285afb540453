-- What a crash leaves.
use Rattle.std.specs.Prelude.{◌≡◌, ℕ, ◌<◌, false, length, Contains}
use Rattle.disk.specs.Device.{Content, Device, current}

-- the blocks of an image, by their numbers
abbrev pub Image : Type 0
Image = ℕ → Content

-- a crash at this clock leaves this image: of each block one of its contents then, each by itself
abbrev pub IsCrashImage : Device → ℕ → Image → Type 0
IsCrashImage d clock image = (block : ℕ) → block < d.size → Contains (d.contents clock block) (image block)

-- each block has one content, and no write has failed: so a device is when it is opened, whatever was before
pub record IsAtRest (d : Device) : Type 0 where
  pub one : (block : ℕ) → block < d.size → length (current d block) ≡ 1
  pub certain : (block : ℕ) → d.uncertain block ≡ false
