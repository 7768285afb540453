-- What lies in the slots of a directory.
use Rattle.std.specs.Prelude.{◌≡◌, ℕ, ◌-◌, ◌*◌, ◌<◌, ◌≤◌, List, take, drop, get_or, length, Option, Some, None}
use Rattle.std.specs.Prelude.{Result, Ok, Err, IsOk}
use Rattle.base.specs.declared.TheConstants.{BLOCK_BYTES, DIRECT_INDEXES, INDIRECT_INDEXES}
use Rattle.disk.specs.Crash.{Image}
use Rattle.layout.specs.declared.fault.LayoutFault.{LayoutFault}
use Rattle.layout.specs.declared.inode.Inode.{Inode}
use Rattle.layout.specs.declared.slot.Slot.{Slot}
use Rattle.layout.specs.declared.slot.TheConstants.{SLOT_BYTES}
use Rattle.layout.specs.Decode.{slot_bytes}
use Rattle.layout.specs.Fields.{numbers_at}
use Rattle.layout.specs.SlotForm.{number_under, read_slot}
use Rattle.layout.specs.declared.inode.InodeKind.TheVariants as kinds
use Rattle.nfs_spec.specs.Model.Tree.{Tree}
use Rattle.inode.specs.declared.snap.Snap.{Snap}
use Rattle.inode.specs.Over.{HasInode}
use Rattle.procs_files.specs.declared.dirent.SlotName.{SlotName}
use Rattle.procs_files.specs.declared.dirent.SlotDirent.{SlotDirent}

-- the number's file in the blocks is a directory with this inode
pub record IsDirectoryOf (snap : Snap) (blocks : Image) (tree : Tree) (file : ℕ) (inode : Inode) : Type 0 where
  pub has : HasInode snap blocks tree file inode
  pub kind : inode.kind ≡ kinds.Directory

-- a directory has the block of this number at an index: by its inode, or by its indirect block, which is a whole one
pub data HasBlockAt (blocks : Image) (inode : Inode) (index number : ℕ) : Type 0 where
  direct_part : index < DIRECT_INDEXES → number ≡ get_or inode.direct index 0 → HasBlockAt blocks inode index number
  indirect_part : DIRECT_INDEXES ≤ index → length (blocks inode.indirect) ≡ BLOCK_BYTES
      → number ≡ get_or (numbers_at INDIRECT_INDEXES 0 (blocks inode.indirect)) (index - DIRECT_INDEXES) 0
      → HasBlockAt blocks inode index number

-- what each slot is
abbrev pub Lying : Type 0
Lying = ℕ → Result (Option Slot) LayoutFault

-- the slots of a block, numbered from one on
abbrev pub block_slot : ℕ → ℕ → List ℕ → Lying
block_slot inodes first block slot =
    read_slot inodes (take SLOT_BYTES (drop (SLOT_BYTES * (slot - first)) block))

-- the slots of a directory
abbrev pub slot_at : ℕ → Image → Inode → Lying
slot_at inodes content inode slot = read_slot inodes (slot_bytes content inode slot)

-- none of these slots has a number under the name
abbrev pub NoneHas : Lying → List ℕ → ℕ → ℕ → Type 0
NoneHas lies name from end =
    (slot number : ℕ) → from ≤ slot → slot < end → number_under name (lies slot) ≡ Ok (Some number) → ⊥

-- one of these slots that has the name, or none has
abbrev pub IsFound : Lying → List ℕ → ℕ → ℕ → Option SlotDirent → Type 0
IsFound lies name from end None = NoneHas lies name from end
IsFound lies name from end (Some search_hit) =
    (from ≤ search_hit.slot) × (search_hit.slot < end) × (number_under name (lies search_hit.slot) ≡ Ok (Some search_hit.number))

-- each of these slots is free
abbrev pub AreFree : Lying → ℕ → ℕ → Type 0
AreFree lies from end = (slot : ℕ) → from ≤ slot → slot < end → lies slot ≡ Ok None

-- the first of these slots in which a name lies, or each is free
abbrev pub IsNext : Lying → ℕ → ℕ → Option SlotName → Type 0
IsNext lies from end None = AreFree lies from end
IsNext lies from end (Some named) =
    (from ≤ named.slot) × (named.slot < end)
    × (lies named.slot ≡ Ok (Some (record { number = named.number; name = named.name })))
    × AreFree lies from named.slot

-- the layout refuses none of these slots
abbrev pub NoneRefused : Lying → ℕ → ℕ → Type 0
NoneRefused lies from end = (slot : ℕ) → from ≤ slot → slot < end → IsOk (lies slot)

-- one of these slots is refused
pub record HasFault (lies : Lying) (from end : ℕ) : Type 0 where
  pub slot : ℕ
  pub low : from ≤ slot
  pub less : slot < end
  pub fault : LayoutFault
  pub is : lies slot ≡ Err fault
