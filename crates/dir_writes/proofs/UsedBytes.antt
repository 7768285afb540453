-- The bytes of a slot in which a name lies.
use Rattle.std.proofs.Common.{◌≡◌, ℕ, zero, suc, ◌-◌, ◌≤◌, refl, List, ◌++◌, length, replicate, Some, Ok, arith}
use Rattle.std.proofs.Common.{length-append}
use Rattle.std.proofs.lemmas.List.{length-replicate}
use Rattle.base.specs.declared.TheConstants.{NAME_BYTES}
use Rattle.nfs_types.specs.Fits.{AreBytes}
use Rattle.layout.specs.declared.slot.Slot.{Slot}
use Rattle.layout.specs.declared.slot.TheConstants.{SLOT_BYTES}
use Rattle.layout.specs.Fields.{four_bytes}
use Rattle.layout.specs.SlotForm.{SoundSlot, read_slot, used_bytes}
use Rattle.layout.proofs.FreshBytes.{IsBytes, four, join}
use Rattle.layout.proofs.SlotBytes.{slot_read}

pub zero_bytes : (n : ℕ) → AreBytes (replicate n 0)
zero_bytes zero index = omega arith
zero_bytes (suc n) zero = omega arith
zero_bytes (suc n) (suc index) = zero_bytes n index

pub used_long : (slot : Slot) → length slot.name ≤ NAME_BYTES → length (used_bytes slot) ≡ SLOT_BYTES
unfolding four_bytes
used_long slot short =
    let leading = four_bytes slot.number ++ four_bytes (length slot.name) in
    let zeros : List ℕ = replicate (SLOT_BYTES - 8 - length slot.name) 0 in
    let eight : length leading ≡ 8 = refl in
    let named = length-append leading slot.name in
    let all = length-append (leading ++ slot.name) zeros in
    let rest = length-replicate {A = ℕ} (SLOT_BYTES - 8 - length slot.name) 0 in
    omega (arith, eight, named, all, rest, short)

pub used_are : (slot : Slot) → AreBytes slot.name → AreBytes (used_bytes slot)
used_are slot are =
    let name : IsBytes slot.name = record { are = are } in
    let zeros : IsBytes (replicate (SLOT_BYTES - 8 - length slot.name) 0) =
    record { are = zero_bytes (SLOT_BYTES - 8 - length slot.name) } in
    (join (join (join (four slot.number) (four (length slot.name))) name) zeros).are

pub used_read : (inodes : ℕ) (slot : Slot) → SoundSlot inodes slot
    → read_slot inodes (used_bytes slot) ≡ Ok (Some slot)
used_read inodes slot sound = slot_read inodes (used_bytes slot) slot (record { spelled = refl; sound = sound })
