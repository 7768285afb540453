-- The slots of directories.
use Rattle.std.specs.Prelude.{◌≡◌, ℕ, ◌*◌, ◌<◌, ◌≤◌, List, [], ◌++◌, length, nat_lt, take, drop, true, IsOk, Option, None, Result, Ok, Err}
use Rattle.std.specs.List.{cons_option, filter_map, list_all, range_with_len}
use Rattle.base.specs.declared.TheConstants.{SLOTS_PER_BLOCK}
use Rattle.disk.specs.Crash.{Image}
use Rattle.layout.specs.declared.fault.LayoutFault.{LayoutFault}
use Rattle.layout.specs.declared.inode.Inode.{Inode}
use Rattle.layout.specs.declared.slot.Slot.{Slot}
use Rattle.layout.specs.declared.slot.TheConstants.{SLOT_BYTES}
use Rattle.layout.specs.Decode.{bytes_of, span_of}
use Rattle.layout.specs.InodeForm.{names_first}
use Rattle.layout.specs.SlotForm.{read_slot}

-- what the slot of an index is, of those in bytes
abbrev pub slot_at : ℕ → List ℕ → ℕ → Result (Option Slot) LayoutFault
slot_at inodes bytes index = read_slot inodes (take SLOT_BYTES (drop (SLOT_BYTES * index) bytes))

-- a slot that is in use
abbrev pub in_use : Result (Option Slot) LayoutFault → Option Slot
in_use (Ok slot) = slot
in_use (Err fault) = None

-- those in use of the first slots in bytes
unfoldable pub used_slots : ℕ → List ℕ → ℕ → List Slot
used_slots inodes bytes count = filter_map (λ index. in_use (slot_at inodes bytes index)) (range_with_len 0 count)

-- the layout refuses none of the first slots in bytes
abbrev pub AreSlots : ℕ → List ℕ → ℕ → Type 0
AreSlots inodes bytes count = (index : ℕ) → index < count → IsOk (slot_at inodes bytes index)

-- each slot names one of so many inodes
abbrev pub AreWithin : ℕ → List Slot → Type 0
AreWithin inodes slots = list_all (λ slot. nat_lt slot.number inodes) slots ≡ true

-- these are the slots in use of so many, of which the layout refuses none
pub record HasSlots (inodes : ℕ) (bytes : List ℕ) (count : ℕ) (slots : List Slot) : Type 0 where
  pub are : AreSlots inodes bytes count
  pub used : slots ≡ used_slots inodes bytes count

-- behind these slots comes one, if it is in use
pub record IsPushed (inodes : ℕ) (bytes : List ℕ) (old new : List Slot) : Type 0 where
  pub is : IsOk (read_slot inodes bytes)
  pub used : new ≡ old ++ cons_option (in_use (read_slot inodes bytes)) []
  pub within : AreWithin inodes old → AreWithin inodes new

-- behind these slots come those in use in a block
pub record ArePushed (inodes : ℕ) (block : List ℕ) (count : ℕ) (old new : List Slot) : Type 0 where
  pub are : AreSlots inodes block count
  pub used : new ≡ old ++ used_slots inodes block count
  pub within : AreWithin inodes old → AreWithin inodes new

-- Of the blocks of a directory, by the numbers of all its indexes, there is each that it spans and no other, and the
-- layout refuses none of their slots.
pub record IsSpanned (inodes : ℕ) (content : Image) (inode : Inode) (numbers : List ℕ) : Type 0 where
  pub few : span_of inode ≤ length numbers
  pub first : names_first (span_of inode) numbers ≡ true
  pub slots : AreSlots inodes (bytes_of content (take (span_of inode) numbers)) (SLOTS_PER_BLOCK * span_of inode)
