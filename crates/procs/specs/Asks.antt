-- What a plan may ask to read, to claim and to write. It speaks of no call, and of nothing that was read: all
-- that any plan asks for lies on the grid of the image's objects.
use Rattle.std.specs.Prelude.{◌≡◌, ℕ, true, false, All, List, Some, slice_get, take}
use Rattle.disk.specs.declared.block.BlockNo.{BlockNo}
use Rattle.objects.specs.declared.addr.Addr.{Addr}
use Rattle.layout.specs.declared.geometry.Geometry.{Geometry}
use Rattle.layout.specs.Objects.{IsObject}
use Rattle.layout.specs.Places.{is_data}
use Rattle.txn.specs.Object.{ObjectBytes}
use Rattle.inode.specs.declared.snap.Snap.{Snap}
use Rattle.inode.specs.declared.suspend.Suspend.{Suspend}
use Rattle.inode.specs.declared.suspend.Suspend.TheVariants as suspend
use Rattle.inode.specs.Snap.{MayWrite, is_seen, is_claimed}

-- what a plan may ask to read: an inode, 512 bytes of a bitmap, or a whole data block
abbrev pub Asks : Geometry → Addr → Type 0
Asks g addr = IsObject g addr

-- what it may ask to claim: a data block
abbrev pub Claims : Geometry → BlockNo → Type 0
Claims g block = is_data g block.0 ≡ true

-- each of these objects may be asked for
abbrev pub WereAsked : Geometry → List ObjectBytes → Type 0
WereAsked g objects = All (λ (object : ObjectBytes). Asks g object.addr) objects

-- and each has another address than those before it
pub record WereAskedOnce (g : Geometry) (objects : List ObjectBytes) : Type 0 where
  pub asked : WereAsked g objects
  pub once : (index : ℕ) (object : ObjectBytes) → slice_get objects index ≡ Some object
      → is_seen object.addr (take index objects) ≡ false

-- each of these blocks may be claimed, and is another than those before it
pub record WereClaimedOnce (g : Geometry) (claims : List BlockNo) : Type 0 where
  pub asked : All (Claims g) claims
  pub once : (index : ℕ) (block : BlockNo) → slice_get claims index ≡ Some block
      → is_claimed block (take index claims) ≡ false

-- what a plan stops for may be asked for
abbrev pub IsAsked : Snap → Suspend → Type 0
IsAsked snap (suspend.Need addr mode) = Asks snap.geometry addr
IsAsked snap (suspend.Claim block) = Claims snap.geometry block
IsAsked snap suspend.Io = Unit {0}
IsAsked snap (suspend.NoMemory error) = Unit {0}

-- the object has an address that was read, or is a whole block that was claimed
abbrev pub IsWritable : Snap → ObjectBytes → Type 0
IsWritable snap object = MayWrite snap object.addr
