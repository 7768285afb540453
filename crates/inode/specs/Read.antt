-- What was read of an image's blocks, and why a reading stops.
use Rattle.std.specs.Prelude.{◌≡◌, ℕ, Contains, List, Some, Ok, true}
use Rattle.base.specs.declared.TheConstants.{INODE_BYTES}
use Rattle.disk.specs.Crash.{Image}
use Rattle.objects.specs.declared.addr.Addr.{Addr}
use Rattle.nfs_spec.specs.Model.Tree.{Tree}
use Rattle.layout.specs.declared.geometry.Geometry.{Geometry}
use Rattle.layout.specs.declared.inode.Inode.{Inode}
use Rattle.layout.specs.InodeForm.{read_inode}
use Rattle.layout.specs.Places.{inode_block, inode_offset}
use Rattle.layout.specs.Holds.{Holds}
use Rattle.objects.specs.Object.{ObjectBytes}
use Rattle.txn_law.specs.Window.{IsAsRead}
use Rattle.inode.specs.declared.snap.Snap.{Snap}
use Rattle.inode.specs.declared.suspend.Suspend.{Suspend}
use Rattle.inode.specs.declared.suspend.Suspend.TheVariants as suspend
use Rattle.inode.specs.Snap.{same_addr}

-- the address is that of an inode
pub record IsInodeAddr (g : Geometry) (number : ℕ) (addr : Addr) : Type 0 where
  pub block : addr.block.0 ≡ inode_block g number
  pub offset : addr.offset ≡ inode_offset number
  pub len : addr.len ≡ INODE_BYTES

-- these bytes were read at the address
pub record WasRead (objects : List ObjectBytes) (addr : Addr) (bytes : List ℕ) : Type 0 where
  pub object : ObjectBytes
  pub there : Contains objects object
  pub at : same_addr addr object.addr ≡ true
  pub bytes_are : object.bytes ≡ bytes

-- this inode was read under the number
pub record WasReadInode (g : Geometry) (objects : List ObjectBytes) (number : ℕ) (inode : Inode) : Type 0
  where
    pub addr : Addr
    pub at : IsInodeAddr g number addr
    pub bytes : List ℕ
    pub read : WasRead objects addr bytes
    pub is_inode : read_inode g bytes ≡ Ok (Some inode)

-- a plan stops for the inode of a number
abbrev pub IsAskedInode : Geometry → ℕ → Suspend → Type 0
IsAskedInode g number (suspend.Need addr mode) = IsInodeAddr g number addr
IsAskedInode g number (suspend.Claim block) = ⊥
IsAskedInode g number suspend.Io = Unit {0}
IsAskedInode g number (suspend.NoMemory error) = Unit {0}

-- these blocks have what was read
abbrev pub AreAsRead : Image → List ObjectBytes → Type 0
AreAsRead blocks objects = (object : ObjectBytes) → Contains objects object → IsAsRead blocks object

-- what was read so far is what these blocks have
abbrev pub Saw : Image → Snap → Type 0
Saw blocks snap = AreAsRead blocks snap.objects.items

-- the plan failed, which it does for no blocks that hold the files of a tree
abbrev pub NoneStand : Snap → Suspend → Type 0
NoneStand snap suspend.Io = (blocks : Image) (tree : Tree) → Holds snap.geometry blocks tree → Saw blocks snap
    → ⊥
NoneStand snap (suspend.NoMemory error) = Unit {0}
NoneStand snap (suspend.Need addr mode) = Unit {0}
NoneStand snap (suspend.Claim block) = Unit {0}
