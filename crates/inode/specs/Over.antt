-- Which blocks were read, and when a reading may stop.
use Rattle.std.specs.Prelude.{◌≡◌, ℕ, ◌<◌, List, Some, Ok, true, false, nat_eq, get_or}
use Rattle.std.specs.List.{list_all}
use Rattle.base.specs.declared.TheConstants.{INDIRECT_INDEXES}
use Rattle.disk.specs.Crash.{Image}
use Rattle.nfs_spec.specs.Model.Tree.{Tree}
use Rattle.layout.specs.declared.geometry.Geometry.{Geometry}
use Rattle.layout.specs.declared.inode.Inode.{Inode}
use Rattle.layout.specs.Decode.{bytes_of, doubled_in, inode_at, numbers_in, numbers_of}
use Rattle.layout.specs.Fields.{numbers_at}
use Rattle.layout.specs.InodeForm.{is_data_block_or_none}
use Rattle.layout.specs.Objects.{IsObject}
use Rattle.layout.specs.Parts.{content_in}
use Rattle.layout.specs.Places.{is_data}
use Rattle.layout.specs.Holds.{Holds}
use Rattle.inode.specs.declared.snap.Snap.{Snap}
use Rattle.inode.specs.declared.suspend.Suspend.{Suspend}
use Rattle.inode.specs.declared.suspend.Suspend.TheVariants as suspend
use Rattle.inode.specs.Read.{Saw}
use Rattle.inode.specs.Snap.{is_claimed, is_had}

-- the blocks hold the tree's files and have what was read
pub record IsOver (snap : Snap) (blocks : Image) (tree : Tree) : Type 0 where
  pub holds : Holds snap.geometry blocks tree
  pub saw : Saw blocks snap

-- and the number's inode in them is this one
pub record HasInode (snap : Snap) (blocks : Image) (tree : Tree) (number : ℕ) (inode : Inode) : Type 0 where
  pub over : IsOver snap blocks tree
  pub less : number < snap.geometry.inodes
  pub there : inode_at snap.geometry blocks number ≡ Ok (Some inode)

-- a plan stops for an object of the image that wasn't asked for yet in this mode, and for a data block that wasn't claimed
-- yet
abbrev pub MaySuspend : Snap → Suspend → Type 0
MaySuspend snap (suspend.Need addr mode) = (is_had addr mode snap.objects.items snap.exclusives.items ≡ false)
    × IsObject snap.geometry addr
MaySuspend snap (suspend.Claim block) = (is_claimed block snap.claims.items ≡ false)
    × (is_data snap.geometry block.0 ≡ true)
MaySuspend snap suspend.Io = Unit {0}
MaySuspend snap (suspend.NoMemory error) = Unit {0}

-- and not for what the layout refuses
abbrev pub IsResumable : Suspend → Type 0
IsResumable (suspend.Need addr mode) = Unit {0}
IsResumable (suspend.Claim block) = Unit {0}
IsResumable suspend.Io = ⊥
IsResumable (suspend.NoMemory error) = Unit {0}

-- the number at an index of an indirect block, 0 where there is none
abbrev pub pointer_number_at : Image → ℕ → ℕ → ℕ
pointer_number_at content indirect index = get_or (numbers_in content indirect) index 0

-- the number of the block at an index of a file
abbrev pub number_at : Geometry → Image → Inode → ℕ → ℕ
number_at g blocks inode index = get_or (numbers_of (content_in g blocks) inode) index 0

-- the bytes of all indexes of a file, one behind another
abbrev pub all_bytes : Geometry → Image → Inode → List ℕ
all_bytes g blocks inode = bytes_of (content_in g blocks) (numbers_of (content_in g blocks) inode)

-- a pointer block, if there is one, has the numbers of data blocks alone
abbrev pub are_pointers_placed : Geometry → Image → ℕ → Type 0
are_pointers_placed g blocks indirect = nat_eq indirect 0 ≡ false
    → list_all (is_data_block_or_none g) (numbers_at INDIRECT_INDEXES 0 (content_in g blocks indirect)) ≡ true

-- the inner blocks of a double indirect block are data blocks, and so are those that they name
pub record AreInnerPlaced (g : Geometry) (blocks : Image) (double : ℕ) : Type 0 where
  pub inner : list_all (is_data_block_or_none g) (numbers_in (content_in g blocks) double) ≡ true
  pub named : list_all (is_data_block_or_none g) (doubled_in (content_in g blocks) double) ≡ true
