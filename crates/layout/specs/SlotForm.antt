-- The slot of a directory: a name and the number of the file that it names.
use Rattle.std.specs.Prelude.{◌≡◌, ℕ, ◌+◌, ◌-◌, ◌*◌, ◌^◌, ◌<◌, ◌≤◌, Bool, cond, ◌&&◌, List, ◌++◌, length, nat_eq}
use Rattle.std.specs.Prelude.{nat_le}
use Rattle.std.specs.Prelude.{nat_lt, take, drop, replicate, Option, Some, None, Result, Ok, Err}
use Rattle.std.specs.Cmp.Lexicographic.{slice_cmp}
use Rattle.std.specs.Ordering.{is_eq, nat_cmp}
use Rattle.base.specs.declared.TheConstants.{BLOCK_BYTES, NAME_BYTES}
use Rattle.objects.specs.Spliced.{spliced}
use Rattle.layout.specs.declared.fault.LayoutFault.{LayoutFault}
use Rattle.layout.specs.declared.fault.LayoutFault.TheVariants.{Range}
use Rattle.layout.specs.declared.slot.SlotProbe.{SlotProbe}
use Rattle.layout.specs.declared.slot.SlotProbe.TheVariants as probe
use Rattle.layout.specs.declared.slot.Slot.{Slot}
use Rattle.layout.specs.declared.slot.TheConstants.{NUMBER_AT, COUNT_AT, NAME_AT, SLOT_BYTES}
use Rattle.layout.specs.Fields.{four_at, four_bytes, is_zeros}

-- the name and the number of a slot that is in use
abbrev pub slot_of : List ℕ → Slot
slot_of bytes = record {
  number = four_at NUMBER_AT bytes;
  name = take (four_at COUNT_AT bytes) (drop NAME_AT bytes);
}

-- the number is that of an inode of the image, the name's length is lawful, and nothing but zeros is behind
-- the name
abbrev pub is_sound_slot : ℕ → List ℕ → Bool
is_sound_slot inodes bytes =
    nat_lt (four_at NUMBER_AT bytes) inodes && nat_le 1 (four_at COUNT_AT bytes)
    && nat_le (four_at COUNT_AT bytes) NAME_BYTES
    && is_zeros (drop (NAME_AT + four_at COUNT_AT bytes) bytes)

-- The slot that 128 bytes are in an image of so many inodes; a free one is nothing but zeros. The characters
-- of a name aren't looked at.
unfoldable pub read_slot : ℕ → List ℕ → Result (Option Slot) LayoutFault
read_slot inodes bytes =
    cond (nat_eq (four_at NUMBER_AT bytes) 0)
    (cond (is_zeros bytes) (Ok None) (Err Range))
    (cond (is_sound_slot inodes bytes) (Ok (Some (slot_of bytes))) (Err Range))

-- the number that what was read of a slot has under a name
abbrev pub number_under : List ℕ → Result (Option Slot) LayoutFault → Result (Option ℕ) LayoutFault
number_under name (Ok (Some slot)) = Ok (cond (is_eq (slice_cmp nat_cmp name slot.name)) (Some slot.number) None)
number_under name (Ok None) = Ok None
number_under name (Err fault) = Err fault

-- What a look at a slot shows, of which this is read: each of these holds of no slot of which another does.
abbrev pub IsProbe : List ℕ → Result (Option Slot) LayoutFault → SlotProbe → Type 0
IsProbe name read probe.Refused = read ≡ Err Range
IsProbe name read (probe.Named number) = number_under name read ≡ Ok (Some number)
IsProbe name read probe.Other = number_under name read ≡ Ok None

-- the bytes that a slot in use gets: the number, the length of the name, the name, and zeros
abbrev pub used_bytes : Slot → List ℕ
used_bytes slot =
    four_bytes slot.number ++ four_bytes (length slot.name) ++ slot.name
    ++ replicate (SLOT_BYTES - NAME_AT - length slot.name) 0

-- a block of a directory in whose first slot a name lies, and in no other
abbrev pub first_slot : Slot → List ℕ
first_slot slot = used_bytes slot ++ replicate (BLOCK_BYTES - SLOT_BYTES) 0

-- a block of a directory with these bytes in a slot
abbrev pub with_slot : List ℕ → ℕ → List ℕ → List ℕ
with_slot block slot bytes = spliced block (SLOT_BYTES * slot) bytes

-- it names an inode of an image of so many, and its name has a lawful length
pub record SoundSlot (inodes : ℕ) (slot : Slot) : Type 0 where
  pub number : (0 < slot.number) × (slot.number < inodes) × (slot.number < 2 ^ 32)
  pub name : (1 ≤ length slot.name) × (length slot.name ≤ NAME_BYTES)

-- these are the bytes of this slot
pub record IsSlot (inodes : ℕ) (bytes : List ℕ) (slot : Slot) : Type 0 where
  pub spelled : bytes ≡ used_bytes slot
  pub sound : SoundSlot inodes slot

-- what 128 bytes of a directory are: zeros where the slot is free, and else the bytes of one in use
abbrev pub IsInDirectory : ℕ → List ℕ → Option Slot → Type 0
IsInDirectory inodes bytes None = bytes ≡ replicate SLOT_BYTES 0
IsInDirectory inodes bytes (Some slot) = IsSlot inodes bytes slot
