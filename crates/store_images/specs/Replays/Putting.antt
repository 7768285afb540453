-- What is written at home, and settled there.
use Rattle.std.specs.Prelude.{◌≡◌, ℕ, ◌<◌, true, List, length, replicate}
use Rattle.base.specs.declared.TheConstants.{BLOCK_BYTES, START_BLOCK, SUPER_BLOCK}
use Rattle.disk.specs.Crash.{Image, IsAtRest}
use Rattle.disk.specs.Device.{Content, Device, current, is_on}
use Rattle.disk.specs.declared.block.BlockNo.{BlockNo}
use Rattle.disk.specs.declared.block.Side.TheVariants.{Log}
use Rattle.circ.specs.Log.EightBytes.{with_number}
use Rattle.circ.specs.Log.Law.{with_changes, with_home}
use Rattle.circ.specs.Log.Log.{changes_of}
use Rattle.circ.specs.Log.Recovery.{image_of}

-- Blocks of the home side were written, and that failed for none: the newest contents are those of this image, no block
-- has lost its last one, and the log side is as it was.
pub record HasPut (old new : Device) (image : Image) : Type 0 where
  pub newest : image_of new ≡ image
  pub uncertain : (block : ℕ) → new.uncertain block ≡ old.uncertain block
  pub some : (block : ℕ) → 0 < length (current old block) → 0 < length (current new block)
  pub log : (block : ℕ) → is_on Log block ≡ true → current new block ≡ current old block

-- They are settled, too: what was at rest is again.
pub record HasComeHome (old new : Device) (image : Image) : Type 0 where
  pub newest : image_of new ≡ image
  pub rest : IsAtRest old → IsAtRest new

-- the image with the blocks of its log at home, a log that begins where it ends, and a super block
abbrev pub with_log_home : Image → List (BlockNo × Content) → ℕ → Content → Image
with_log_home image logged end incremented = with_home
    (with_home (with_changes image (changes_of 0 logged)) START_BLOCK (with_number (replicate BLOCK_BYTES 0) 0 end))
    SUPER_BLOCK incremented
