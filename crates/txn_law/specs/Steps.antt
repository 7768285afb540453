-- What the core does to its window.
use Rattle.std.specs.Prelude.{◌≡◌, ℕ, ◌⊎◌, true, if◌then◌else◌, nat_lt, List, [], ◌∷◌}
use Rattle.std.specs.Prelude.{◌++◌, length, replicate, Some, All}
use Rattle.std.specs.List.{AllByRecursion}
use Rattle.disk.specs.Device.{Content}
use Rattle.disk.specs.Crash.{Image}
use Rattle.disk.specs.declared.block.BlockNo.{BlockNo}
use Rattle.base.specs.declared.TheConstants.{BLOCK_BYTES}
use Rattle.circ.specs.Log.Log.{Log, installed_place, newest}
-- for the crates above
pub use Rattle.circ.specs.Log.Grows.{StandsStill}
use Rattle.circ.specs.Log.Log.{blocks_of as group_blocks}
use Rattle.circ.specs.Log.Overlay.{content_or}
use Rattle.circ.specs.Log.Effects.{newest_in}
use Rattle.txn_law.specs.Group.{blocks_of, base_in, IsOverlaid}
use Rattle.objects.specs.Object.{ObjectBytes}
use Rattle.objects.specs.Present.{present_of, content_in}
use Rattle.txn_law.specs.Records.{lies_in}
use Rattle.objects.specs.declared.present.Present.{Present}
use Rattle.txn_law.specs.Window.{Footprint, IsAsRead, with_objects}

-- the object's block is in the group
abbrev pub IsCovered : List (BlockNo × Content) → ObjectBytes → Type 0
IsCovered group object = (content : Content) × (newest_in group object.addr.block.0 ≡ Some content)

-- A commit read what these blocks have, and its group lays what it wrote over them.
pub record IsBrought (now : Image) (commit : Footprint) (group : List (BlockNo × Content)) : Type 0 where
  pub read : AllByRecursion (IsAsRead now) commit.read
  pub overlaid_content : (block : ℕ)
      → content_or (newest_in group block) (now block) ≡ with_objects now commit.written block
  pub covered : All (IsCovered group) commit.written

-- the commits with one more, where it isn't installed at once
abbrev pub with_commit : Log → Footprint → List Footprint → List Footprint
with_commit log commit commits = if nat_lt (installed_place log) commit.place then commits ++ commit ∷ []
    else commits

-- where the object lies in the block, it is the whole of it
abbrev pub IsWholeIn : BlockNo → ObjectBytes → Type 0
IsWholeIn block object = object.addr.block.0 ≡ block.0 → (object.addr.offset ≡ 0)
    × (length object.bytes ≡ BLOCK_BYTES)

-- what the objects of the block are laid over is current, or they are whole blocks
abbrev pub IsKnown : List Present → Log → Image → List ObjectBytes → BlockNo → Type 0
IsKnown present log now written block =
    (base_in (content_in (present_of present block)) (newest log block.0) ≡ now block.0)
    ⊎ ((base_in (content_in (present_of present block)) (newest log block.0) ≡ replicate BLOCK_BYTES 0)
    × (length (now block.0) ≡ BLOCK_BYTES) × All (IsWholeIn block) written)

-- The group is as the core makes it of a commit: each block that the commit writes, with its objects laid
-- over what is in memory.
pub record IsMade (present : List Present) (log : Log) (now : Image) (commit : Footprint)
    (group : List (BlockNo × Content)) : Type 0 where
  pub read : AllByRecursion (IsAsRead now) commit.read
  pub blocks : group_blocks group ≡ blocks_of commit.written
  pub contents : All (IsOverlaid present log commit.written) group
  pub known : (block : BlockNo) → lies_in commit.written block ≡ true
      → IsKnown present log now commit.written block
