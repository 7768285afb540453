-- What the layout refuses of all that was read.
use Rattle.std.specs.Prelude.{◌≡◌, ℕ, ◌-◌, ◌*◌, ◌<◌, ◌≤◌, List, length, true, false, take, drop, get_or, Some, Ok}
use Rattle.std.specs.Prelude.{Err}
use Rattle.std.specs.List.{list_all}
use Rattle.base.specs.declared.TheConstants.{BLOCK_BYTES, DIRECT_INDEXES, INDIRECT_INDEXES, MOST_SPAN}
use Rattle.base.specs.declared.TheConstants.{SLOTS_PER_BLOCK}
use Rattle.disk.specs.Crash.{Image}
use Rattle.objects.specs.declared.addr.Addr.{Addr}
use Rattle.layout.specs.declared.fault.LayoutFault.{LayoutFault}
use Rattle.layout.specs.declared.inode.Inode.{Inode}
use Rattle.layout.specs.declared.inode.InodeKind.TheVariants.{Directory}
use Rattle.layout.specs.declared.slot.TheConstants.{SLOT_BYTES}
use Rattle.layout.specs.Decode.{inode_at, span_of}
use Rattle.layout.specs.Fields.{numbers_at}
use Rattle.layout.specs.InodeForm.{is_data_block_or_none}
use Rattle.layout.specs.Places.{is_data}
use Rattle.layout.specs.SlotForm.{read_slot}
use Rattle.layout_records.specs.OnGrid.{IsInodeAt}
use Rattle.inode.specs.declared.snap.Snap.{Snap}
use Rattle.inode.specs.Read.{Saw}
use Rattle.inode.specs.Snap.{is_seen}

-- these are the blocks of an image, and they have what was read
pub record AreRead (snap : Snap) (blocks : Image) : Type 0 where
  pub saw : Saw blocks snap
  pub whole : (number : ℕ) → number < snap.geometry.blocks → length (blocks number) ≡ BLOCK_BYTES

-- a data block was read, and is a whole block in these
pub record WasReadBlock (snap : Snap) (blocks : Image) (number : ℕ) : Type 0 where
  pub lies : is_data snap.geometry number ≡ true
  pub addr : Addr
  pub block : addr.block.0 ≡ number
  pub offset : addr.offset ≡ 0
  pub len : addr.len ≡ BLOCK_BYTES
  pub read : is_seen addr snap.objects.items ≡ true
  pub whole : length (blocks number) ≡ BLOCK_BYTES

-- the numbers in an indirect block
abbrev pub indirect_row : Image → Inode → List ℕ
indirect_row blocks inode = numbers_at INDIRECT_INDEXES 0 (blocks inode.indirect)

-- A directory has the block of this number at an index: by its inode, or by its indirect block, which was read.
pub data Names (snap : Snap) (blocks : Image) (inode : Inode) (index number : ℕ) : Type 0 where
  direct_part : index < DIRECT_INDEXES → number ≡ get_or inode.direct index 0 → Names snap blocks inode index number
  indirect_part : DIRECT_INDEXES ≤ index → index < MOST_SPAN → WasReadBlock snap blocks inode.indirect
      → number ≡ get_or (indirect_row blocks inode) (index - DIRECT_INDEXES) 0
      → Names snap blocks inode index number

-- the layout refuses a slot of a block
pub record HasRefusedSlot (inodes : ℕ) (block : List ℕ) : Type 0 where
  pub slot : ℕ
  pub less : slot < SLOTS_PER_BLOCK
  pub fault : LayoutFault
  pub is : read_slot inodes (take SLOT_BYTES (drop (SLOT_BYTES * slot) block)) ≡ Err fault

-- the block at an index of a directory was read, and the layout refuses a slot of it
pub record IsRefusedAt (snap : Snap) (blocks : Image) (inode : Inode) (index : ℕ) : Type 0 where
  pub number : ℕ
  pub named : Names snap blocks inode index number
  pub read : WasReadBlock snap blocks number
  pub slot : HasRefusedSlot snap.geometry.inodes (blocks number)

-- a pointer block was read, and names what is no data block
pub record IsRefusedPointer (snap : Snap) (blocks : Image) (pointer : ℕ) : Type 0 where
  pub read : WasReadBlock snap blocks pointer
  pub names : list_all (is_data_block_or_none snap.geometry) (numbers_at INDIRECT_INDEXES 0 (blocks pointer)) ≡ false

-- so it is with an inner block that a double indirect block names, which was read too
pub record IsRefusedBelow (snap : Snap) (blocks : Image) (double : ℕ) : Type 0 where
  pub read : WasReadBlock snap blocks double
  pub inner : ℕ
  pub less : inner < INDIRECT_INDEXES
  pub is : IsRefusedPointer snap blocks (get_or (numbers_at INDIRECT_INDEXES 0 (blocks double)) inner 0)

-- so it is with a pointer block of a file
pub data HasRefusedPointer (snap : Snap) (blocks : Image) (inode : Inode) : Type 0 where
  refused_indirect : IsRefusedPointer snap blocks inode.indirect → HasRefusedPointer snap blocks inode
  refused_double : IsRefusedPointer snap blocks inode.double → HasRefusedPointer snap blocks inode
  refused_inner : IsRefusedBelow snap blocks inode.double → HasRefusedPointer snap blocks inode

-- A block of a file was read that the layout refuses: a pointer block, which names what is no data block; or
-- a block of a directory.
pub data HasRefusedBlock (snap : Snap) (blocks : Image) (inode : Inode) : Type 0 where
  refused_numbers : HasRefusedPointer snap blocks inode → HasRefusedBlock snap blocks inode
  refused_slots : inode.kind ≡ Directory → (index : ℕ) → index < span_of inode → IsRefusedAt snap blocks inode index
      → HasRefusedBlock snap blocks inode

-- the layout refuses the inode of a number, or a block of its file that was read
pub data IsRefusedFile (snap : Snap) (blocks : Image) (number : ℕ) : Type 0 where
  refused_inode : (fault : LayoutFault) → inode_at snap.geometry blocks number ≡ Err fault
      → IsRefusedFile snap blocks number
  refused_block : (one : Inode) → inode_at snap.geometry blocks number ≡ Ok (Some one) → HasRefusedBlock snap blocks one
      → IsRefusedFile snap blocks number

-- In these blocks the layout refuses something that was read: an inode, or a block of a file whose inode was
-- read.
pub record IsRefused (snap : Snap) (blocks : Image) : Type 0 where
  pub number : ℕ
  pub addr : Addr
  pub at : IsInodeAt snap.geometry number addr
  pub read : is_seen addr snap.objects.items ≡ true
  pub file : IsRefusedFile snap blocks number
