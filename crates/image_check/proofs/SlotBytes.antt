-- The names in a directory's slots are bytes.
use Rattle.std.proofs.Common.{◌≡◌, ℕ, ◌+◌, ◌*◌, inl, inr, sym, subst, Bool, true, false, cond}
use Rattle.std.proofs.Common.{List, [], ◌∷◌, take, drop, replicate, nat_eq, length-take, Option, Some, None, Result, Ok}
use Rattle.std.proofs.Common.{Err, arith}
use Rattle.std.proofs.lemmas.Bool.{cases_lt}
use Rattle.std.proofs.lemmas.List.{get_or-drop, get_or-take, get_or_past}
use Rattle.disk.specs.Crash.{Image}
use Rattle.nfs_types.specs.Fits.{AreBytes}
use Rattle.base.specs.declared.TheConstants.{BLOCK_BYTES}
use Rattle.layout.specs.declared.fault.LayoutFault.{LayoutFault}
use Rattle.layout.specs.declared.fault.LayoutFault.TheVariants.{Range}
use Rattle.layout.specs.declared.inode.Inode.{Inode}
use Rattle.layout.specs.declared.slot.Slot.{Slot}
use Rattle.layout.specs.declared.slot.TheConstants.{SLOT_BYTES}
use Rattle.layout.specs.Decode.{bytes_of, numbers_of, slot_bytes, span_of}
use Rattle.layout.specs.Fields.{four_at, is_zeros}
use Rattle.layout.specs.SlotForm.{is_sound_slot, read_slot, slot_of}
use Rattle.layout.proofs.FreshBytes.{IsBytes, join, zero_block}
use Rattle.image_contents.specs.Names.SlotsOf.{AreSlotsOf}

pub taken : (count : ℕ) (xs : List ℕ) → AreBytes xs → AreBytes (take count xs)
taken count xs are index = elim (cases_lt index count) [
  | inl less ↦
      (let is = get_or-take {A = ℕ} count xs index 0 less in let small = are index in omega (arith, is, small))
  | inr past ↦
      (let few = length-take count xs in
      let is = get_or_past {X = ℕ} (take count xs) index 0 (omega (arith, few, past)) in
      omega (arith, is))
]

pub dropped : (count : ℕ) (xs : List ℕ) → AreBytes xs → AreBytes (drop count xs)
dropped count xs are index =
    let is = get_or-drop {A = ℕ} count xs index 0 in let small = are (count + index) in omega (arith, is, small)

named : (bytes : List ℕ) (r : Result (Option Slot) LayoutFault) (slot : Slot) → r ≡ Ok (Some slot)
    → ((one : Slot) → r ≡ Ok (Some one) → one ≡ slot_of bytes) → AreBytes bytes → AreBytes slot.name
named bytes r slot is from are =
    subst (λ (one : Slot). AreBytes one.name) (sym (from slot is))
    (taken (four_at 4 bytes) (drop 8 bytes) (dropped 8 bytes are))

module _ (inodes : ℕ) (bytes : List ℕ) where
  from_used : (sound : Bool) (slot : Slot)
      → ◌≡◌ {A = Result (Option Slot) LayoutFault} (cond sound (Ok (Some (slot_of bytes))) (Err Range)) (Ok (Some slot))
      → slot ≡ slot_of bytes
  from_used true slot e = cc
  from_used false slot e = cc

  from_free : (free : Bool) (slot : Slot)
      → ◌≡◌ {A = Result (Option Slot) LayoutFault} (cond free (Ok None) (Err Range)) (Ok (Some slot))
      → slot ≡ slot_of bytes
  from_free true slot e = cc
  from_free false slot e = cc

  by_number : (none : Bool) (slot : Slot)
      → ◌≡◌ {A = Result (Option Slot) LayoutFault} (cond none (cond (is_zeros bytes) (Ok None) (Err Range))
      (cond (is_sound_slot inodes bytes) (Ok (Some (slot_of bytes))) (Err Range))) (Ok (Some slot))
      → slot ≡ slot_of bytes
  by_number true slot e = from_free (is_zeros bytes) slot e
  by_number false slot e = from_used (is_sound_slot inodes bytes) slot e

  slot_is : (slot : Slot) → read_slot inodes bytes ≡ Ok (Some slot) → slot ≡ slot_of bytes
  unfolding read_slot
  slot_is slot e = by_number (nat_eq (four_at 0 bytes) 0) slot e

module _ (content : Image) (are : (number : ℕ) → AreBytes (content number)) where
  one_is : (none : Bool) (number : ℕ) → IsBytes (cond none (replicate BLOCK_BYTES 0) (content number))
  one_is true number = zero_block.each
  one_is false number = record { are = are number }

  all_are : (numbers : List ℕ) → IsBytes (bytes_of content numbers)
  unfolding bytes_of
  all_are [] = record { are = λ index. omega arith }
  all_are (number ∷ numbers) = join (one_is (nat_eq number 0) number) (all_are numbers)

  pub slots_are_bytes : (inodes : ℕ) (inode : Inode) → AreSlotsOf inodes content inode
  unfolding slot_bytes
  slots_are_bytes inodes inode index slot less is =
      let bytes = take SLOT_BYTES (drop (SLOT_BYTES * index) (bytes_of content (take (span_of inode) (numbers_of content
      inode)))) in
      named bytes (read_slot inodes bytes) slot is (λ one e. slot_is inodes bytes one e)
      (taken SLOT_BYTES (drop (SLOT_BYTES * index) (bytes_of content (take (span_of inode) (numbers_of content inode))))
      (dropped (SLOT_BYTES * index) (bytes_of content (take (span_of inode) (numbers_of content inode)))
      (all_are (take (span_of inode) (numbers_of content inode))).are))
