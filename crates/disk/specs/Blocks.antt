-- Contents that are blocks.
use Rattle.std.specs.Prelude.{◌≡◌, ℕ, ◌<◌, ◌≤◌, List, length, All}
use Rattle.disk.specs.Device.{Content, Device}
pub use Rattle.base.specs.Buffers.Blocks.{IsBlock}

-- what a crash may leave of a block: there is a content, and each of them is a block
abbrev pub AreContents : List Content → Type 0
AreContents contents = (0 < length contents) × All IsBlock contents

-- so many blocks with what a crash may leave of each
abbrev pub AreWhole : ℕ → List (List Content) → Type 0
AreWhole size blocks = (length blocks ≡ size) × All AreContents blocks

-- at each clock so far, what a crash may leave of each block of the device is a block
pub record AreBlocks (d : Device) : Type 0 where
  pub some : (clock block : ℕ) → clock ≤ d.clock → block < d.size → 0 < length (d.contents clock block)
  pub blocks : (clock block : ℕ) → clock ≤ d.clock → block < d.size → All IsBlock (d.contents clock block)
