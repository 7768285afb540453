-- What the data blocks of an image have.
use Rattle.std.specs.Prelude.{◌≡◌, ℕ, List, length}
use Rattle.base.specs.declared.TheConstants.{BLOCK_BYTES}
use Rattle.disk.specs.Crash.{Image}
use Rattle.disk.specs.Device.{Content, Device}
use Rattle.disk.specs.declared.block.BlockNo.{BlockNo}
use Rattle.layout.specs.declared.geometry.Geometry.{Geometry}
use Rattle.layout.specs.Parts.{content_in}
use Rattle.image_read.specs.LoggedImage.WithOverlay.{with_overlay}
use Rattle.circ.specs.Log.Recovery.{image_of}

-- the data blocks of the image that a device has, with these blocks laid over it
abbrev pub content_on : Geometry → List (BlockNo × Content) → Device → Image
content_on g logged device = content_in g (with_overlay logged (image_of device))

-- each is a block
abbrev pub AreLong : Image → Type 0
AreLong content = (number : ℕ) → length (content number) ≡ BLOCK_BYTES
