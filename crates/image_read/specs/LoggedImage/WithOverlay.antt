-- What blocks make of an image over which they lie.
use Rattle.std.specs.Prelude.{List}
use Rattle.disk.specs.Crash.{Image}
use Rattle.disk.specs.Device.{Content}
use Rattle.disk.specs.declared.block.BlockNo.{BlockNo}
use Rattle.circ.specs.Log.Effects.{newest_in}
use Rattle.circ.specs.Log.Overlay.{content_or}

-- each block as the last of these has it, or else as it is in the image; of the blocks that an image has logged it is
-- its log overlay
abbrev pub with_overlay : List (BlockNo × Content) → Image → Image
with_overlay logged image block = content_or (newest_in logged block) (image block)
