-- The slots of a directory that are in use.
use Rattle.std.specs.Prelude.{◌≡◌, ℕ, ◌*◌, ◌<◌, List, take, Some, Ok}
use Rattle.base.specs.declared.TheConstants.{SLOTS_PER_BLOCK}
use Rattle.disk.specs.Crash.{Image}
use Rattle.nfs_types.specs.Fits.{AreBytes}
use Rattle.layout.specs.declared.inode.Inode.{Inode}
use Rattle.layout.specs.declared.slot.Slot.{Slot}
use Rattle.layout.specs.Decode.{bytes_of, numbers_of, slot_bytes, span_of}
use Rattle.layout.specs.SlotForm.{read_slot}
use Rattle.image_read.specs.Files.Slots.{used_slots}

abbrev pub slots_of_directory : ℕ → Image → Inode → List Slot
slots_of_directory inodes content inode =
    used_slots inodes (bytes_of content (take (span_of inode) (numbers_of content inode)))
    (SLOTS_PER_BLOCK * span_of inode)

-- the names in a directory's slots are bytes
abbrev pub AreSlotsOf : ℕ → Image → Inode → Type 0
AreSlotsOf inodes content inode = (index : ℕ) (slot : Slot) → index < SLOTS_PER_BLOCK * span_of inode
    → read_slot inodes (slot_bytes content inode index) ≡ Ok (Some slot) → AreBytes slot.name
