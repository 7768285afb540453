-- The table of an image's inodes, as it is read block by block.
use Rattle.std.specs.Prelude.{◌≡◌, ℕ, ◌+◌, ◌*◌, ◌<◌, List, get_or, length, take, drop, IsOk, Option, None, Result, Ok, Err}
use Rattle.base.specs.declared.TheConstants.{INODES_PER_BLOCK, INODE_BYTES}
use Rattle.disk.specs.Crash.{Image}
use Rattle.disk.specs.Device.{Device}
use Rattle.layout.specs.declared.fault.LayoutFault.{LayoutFault}
use Rattle.layout.specs.declared.geometry.Geometry.{Geometry}
use Rattle.layout.specs.declared.inode.Inode.{Inode}
use Rattle.layout.specs.Decode.{inode_at}
use Rattle.layout.specs.InodeForm.{read_inode}
use Rattle.image_read.specs.declared.parts.fault.PartFault.{PartFault}
use Rattle.image_read.specs.declared.parts.fault.PartFault.TheVariants.{Device as DeviceFails}

-- these are the inodes of the first numbers of an image
pub record IsTable (g : Geometry) (image : Image) (count : ℕ) (table : List (Option Inode)) : Type 0 where
  pub long : length table ≡ count
  pub each : (number : ℕ) → number < count → inode_at g image number ≡ Ok (get_or table number None)

-- the layout refuses the inode of a number
abbrev pub HasRefusedInode : Geometry → Image → Type 0
HasRefusedInode g image = (number : ℕ) × (number < g.inodes) × (IsOk (inode_at g image number) → ⊥)

-- the inode at a place of a block of the table
abbrev pub inode_in : Geometry → List ℕ → ℕ → Result (Option Inode) LayoutFault
inode_in g block index_within = read_inode g (take INODE_BYTES (drop (INODE_BYTES * index_within) block))

abbrev pub HasRefusedInodeIn : Geometry → List ℕ → Type 0
HasRefusedInodeIn g block = (index_within : ℕ) × (index_within < INODES_PER_BLOCK) × (IsOk (inode_in g block index_within) → ⊥)

-- behind these inodes come the first of a block
pub record ArePushed (g : Geometry) (block : List ℕ) (count : ℕ) (old new : List (Option Inode)) : Type 0 where
  pub long : length new ≡ length old + count
  pub is_preserved : (number : ℕ) → number < length old → get_or new number None ≡ get_or old number None
  pub each : (index_within : ℕ) → index_within < count → inode_in g block index_within ≡ Ok (get_or new (length old + index_within) None)

-- a failure is counted just where the answer is that the device failed
abbrev pub CountsPart : {T : Type 0} → Device → Device → Result T PartFault → Type 0
CountsPart old new (Err DeviceFails) = new.failures ≡ old.failures + 1
CountsPart old new answer = new.failures ≡ old.failures
