-- A directory's block in which a slot gets other bytes.
use Rattle.std.specs.Prelude.{◌≡◌, ℕ, ◌*◌, ◌%◌, ◌⊎◌, List, Some, None, Ok}
use Rattle.std.specs.FinMap.{get}
use Rattle.base.specs.declared.TheConstants.{SLOTS_PER_BLOCK}
use Rattle.disk.specs.Crash.{Image}
use Rattle.objects.specs.Spliced.{spliced}
use Rattle.layout.specs.declared.geometry.Geometry.{Geometry}
use Rattle.layout.specs.declared.inode.Inode.{Inode}
use Rattle.layout.specs.declared.slot.TheConstants.{SLOT_BYTES}
use Rattle.layout.specs.Decode.{entries_in}
use Rattle.layout.specs.Parts.{content_in, put, with_bytes}
use Rattle.layout.specs.SlotForm.{number_under}
use Rattle.dir.specs.Slots.{slot_at}
use Rattle.dir_writes.specs.Clearing.{slot_block}

-- the block in which the slot lies, with these bytes in the slot
abbrev pub slotted_block : Image → Inode → ℕ → List ℕ → List ℕ
slotted_block content inode slot bytes =
    spliced (content (slot_block content inode slot)) (SLOT_BYTES * (slot % SLOTS_PER_BLOCK)) bytes

-- the blocks with these bytes in the slot
abbrev pub slotted : Image → Inode → ℕ → List ℕ → Image
slotted content inode slot bytes =
    put content (slot_block content inode slot) (slotted_block content inode slot bytes)

-- the block in which the slot lies, and its bytes with these in the slot
abbrev pub IsSlotted : Image → Inode → ℕ → List ℕ → ℕ → List ℕ → Type 0
IsSlotted content inode slot bytes number block =
    (number ≡ slot_block content inode slot) × (block ≡ slotted_block content inode slot bytes)

-- blocks in which the slot has these bytes
abbrev pub IsSlottedIn : Geometry → Inode → ℕ → List ℕ → Image → Image → Type 0
IsSlottedIn g inode slot bytes old new =
    new ≡ with_bytes old (slot_block (content_in g old) inode slot) 0
    (slotted_block (content_in g old) inode slot bytes)

-- the slot is free and the directory has no such name, or the name lies in it
abbrev pub IsVacant : Geometry → Image → Inode → ℕ → List ℕ → Type 0
IsVacant g content inode slot name =
    ((slot_at g.inodes content inode slot ≡ Ok None) × (get (entries_in g.inodes content inode) name ≡ None))
    ⊎ ((number : ℕ) × (number_under name (slot_at g.inodes content inode slot) ≡ Ok (Some number)))
