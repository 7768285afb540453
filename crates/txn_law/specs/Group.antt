-- The blocks that objects lie in.
use Rattle.std.specs.Prelude.{◌≡◌, if◌then◌else◌, Option, Some, None, List, [], ◌∷◌, ◌++◌}
use Rattle.std.specs.Prelude.{nat_eq, replicate}
use Rattle.base.specs.declared.TheConstants.{BLOCK_BYTES}
use Rattle.disk.specs.Device.{Content}
use Rattle.objects.specs.Spliced.{spliced}
use Rattle.disk.specs.declared.block.BlockNo.{BlockNo}
use Rattle.circ.specs.Log.Log.{Log, newest}
-- for the crates above
pub use Rattle.circ.specs.Log.Log.{is_among}
use Rattle.objects.specs.Object.{ObjectBytes}
use Rattle.objects.specs.Present.{present_of, content_in}
use Rattle.objects.specs.declared.present.Present.{Present}

-- these blocks, and then those of the objects that aren't among them yet
abbrev pub blocks_after : List BlockNo → List ObjectBytes → List BlockNo
blocks_after blocks [] = blocks
blocks_after blocks (o ∷ os) =
    blocks_after (if is_among o.addr.block blocks then blocks else blocks ++ o.addr.block ∷ []) os

-- the blocks that the objects lie in, each once
abbrev pub blocks_of : List ObjectBytes → List BlockNo
blocks_of objects = blocks_after [] objects

-- a block's content with those of the objects laid over it that lie in the block, later ones over earlier
-- ones
abbrev pub overlaid_content : Content → List ObjectBytes → BlockNo → Content
overlaid_content content [] block = content
overlaid_content content (object ∷ objects) block =
    overlaid_content (if nat_eq object.addr.block.0 block.0 then spliced content object.addr.offset object.bytes
    else content) objects block

-- what objects are laid over: what is in memory, else what the log has, else zeros
abbrev pub base_in : Option Content → Option Content → Content
base_in (Some content) logged = content
base_in None (Some content) = content
base_in None None = replicate BLOCK_BYTES 0

-- the block's content with the objects laid over it
abbrev pub IsOverlaid : List Present → Log → List ObjectBytes → BlockNo × Content → Type 0
IsOverlaid present log objects change =
    change.1 ≡ overlaid_content (base_in (content_in (present_of present change.0)) (newest log change.0.0)) objects
    change.0
