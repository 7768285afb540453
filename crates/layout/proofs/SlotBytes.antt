-- What 128 bytes of a directory are read as is what they are the bytes of.
use Rattle.std.proofs.Common.{◌≡◌, ℕ, zero, suc, ◌+◌, ◌-◌, ◌<◌, ◌≤◌, sym, ap, ◌∙◌, refl, subst, Bool, true}
use Rattle.std.proofs.Common.{false, cond, ◌&&◌, List, ◌++◌, length, take, drop, replicate, nat_eq, nat_le}
use Rattle.std.proofs.Common.{nat_lt, Option, Some, None, Ok, Err, arith}
use Rattle.std.proofs.Math.Seq.{take-append_seam, drop-append_seam}
use Rattle.std.proofs.lemmas.Bool.{lt-ltb, le-leb}
use Rattle.std.proofs.lemmas.Bool.Decides.{nat_tests}
use Rattle.std.proofs.lemmas.List.{drop-drop, length-drop, take_all}
use Rattle.std.proofs.lemmas.Nat.{from_le_bytes-to_le_bytes_4}
use Rattle.base.specs.declared.TheConstants.{NAME_BYTES}
use Rattle.nfs_types.specs.Fits.{AreBytes}
use Rattle.layout.specs.declared.fault.LayoutFault.{LayoutFault}
use Rattle.layout.specs.declared.fault.LayoutFault.TheVariants.{Range}
use Rattle.layout.specs.declared.slot.Slot.{Slot}
use Rattle.layout.specs.declared.slot.TheConstants.{SLOT_BYTES}
use Rattle.layout.specs.Fields.{four_at, four_bytes, is_zeros}
use Rattle.layout.specs.SlotForm.{read_slot, slot_of, is_sound_slot, used_bytes, IsSlot, IsInDirectory}
use Rattle.layout.proofs.Fits.{four, part-length}
use Rattle.layout.proofs.Refused.{chosen, chosen_fault}
use Rattle.layout.proofs.Respelled.{all_zeros, first_four, followed}

pub all_four : (a b c d : Bool) → (a && b && c && d) ≡ true → (a ≡ true) × (b ≡ true) × (c ≡ true) × (d ≡ true)
all_four true true true true e = (refl, refl, refl, refl)
all_four _ _ _ _ e = cc

pub no_more : (a b : ℕ) → nat_le a b ≡ true → a ≤ b
no_more a b e = grind (arith, nat_tests)

is_less : (a b : ℕ) → nat_lt a b ≡ true → a < b
is_less a b e = grind (arith, nat_tests)

more_than_none : (n : ℕ) → nat_eq n 0 ≡ false → 0 < n
more_than_none n e = grind (arith, nat_tests)

not_none : (n : ℕ) → 0 < n → nat_eq n 0 ≡ false
not_none n some = grind (arith, nat_tests)

pub zeros_are : (n : ℕ) → is_zeros (replicate n 0) ≡ true
zeros_are zero = refl
zeros_are (suc n) = zeros_are n

-- ---- bytes that are read are those of the slot

module _ (inodes : ℕ) (bytes : List ℕ) (are : AreBytes bytes) (long : length bytes ≡ SLOT_BYTES) where
  abbrev count : ℕ
  count = four_at 4 bytes

  abbrev name : List ℕ
  name = take count (drop 8 bytes)

  module _ (sound : is_sound_slot inodes bytes ≡ true) (used : nat_eq (four_at 0 bytes) 0 ≡ false) where
    tests : (nat_lt (four_at 0 bytes) inodes ≡ true) × (nat_le 1 count ≡ true)
        × (nat_le count NAME_BYTES ≡ true) × (is_zeros (drop (8 + count) bytes) ≡ true)
    tests = all_four (nat_lt (four_at 0 bytes) inodes) (nat_le 1 count) (nat_le count NAME_BYTES)
        (is_zeros (drop (8 + count) bytes)) sound

    few : count ≤ NAME_BYTES
    few = no_more count NAME_BYTES tests.2

    name-length : length name ≡ count
    name-length = part-length count 8 bytes (let most = few in omega (arith, long, most))

    rest-length : length (drop (8 + count) bytes) ≡ SLOT_BYTES - 8 - length name
    rest-length =
        let rest = length-drop (8 + count) bytes in
        let name = name-length in
        omega (arith, rest, long, name)

    rest : replicate (SLOT_BYTES - 8 - length name) 0 ≡ take (SLOT_BYTES - 8 - count) (drop (8 + count) bytes)
    rest =
        ap (λ k. replicate k 0) (sym rest-length)
        ∙ sym (all_zeros (drop (8 + count) bytes) tests.3)
        ∙ sym (take_all (SLOT_BYTES - 8 - count) (drop (8 + count) bytes)
        (let l = rest-length in let n = name-length in omega (arith, l, n)))

    spelled : bytes ≡ used_bytes (slot_of bytes)
    spelled =
        let most = few in
        let all : 8 + count + (SLOT_BYTES - 8 - count) ≡ SLOT_BYTES = omega (arith, most) in
        let there : 8 + count ≡ 0 + (8 + count) = omega arith in
        sym (ap (λ k. take k bytes) all ∙ take_all SLOT_BYTES bytes (omega (arith, long)))
        ∙ sym (followed bytes are 0 (8 + count) (SLOT_BYTES - 8 - count) _ _
        (followed bytes are 0 8 count _ _
        (followed bytes are 0 4 4 _ _ (first_four bytes are 0 (omega (arith, long)))
        (ap four_bytes name-length ∙ first_four bytes are 4 (omega (arith, long)))) refl)
        (rest ∙ ap (λ from. take (SLOT_BYTES - 8 - count) (drop from bytes)) there))

    pub is_slot : IsSlot inodes bytes (slot_of bytes)
    is_slot = record {
      spelled = spelled;
      sound = record {
        number = (
          more_than_none (four_at 0 bytes) used,
          is_less (four_at 0 bytes) inodes tests.0,
          four bytes are 0,
        );
        name = (
          subst (λ n. 1 ≤ n) (sym name-length) (no_more 1 count tests.1),
          subst (λ n. n ≤ NAME_BYTES) (sym name-length) few,
        );
      };
    }

-- ---- bytes of a slot are read as it

module _ (inodes : ℕ) (bytes : List ℕ) (slot : Slot) (is : IsSlot inodes bytes slot) where
  short : length slot.name ≤ NAME_BYTES
  short = is.sound.name.1

  number_is : four_at 0 (used_bytes slot) ≡ slot.number
  unfolding four_at four_bytes
  number_is = from_le_bytes-to_le_bytes_4 slot.number is.sound.number.2

  count_is : four_at 4 (used_bytes slot) ≡ length slot.name
  unfolding four_at four_bytes
  count_is = from_le_bytes-to_le_bytes_4 (length slot.name) (let most = short in omega (arith, most))

  abbrev behind : List ℕ
  behind = replicate (SLOT_BYTES - 8 - length slot.name) 0

  from_name : drop 8 (used_bytes slot) ≡ slot.name ++ behind
  unfolding four_bytes
  from_name = refl

  name_is : take (four_at 4 (used_bytes slot)) (drop 8 (used_bytes slot)) ≡ slot.name
  name_is = (λ i. take (count_is i) (from_name i)) ∙ take-append_seam slot.name behind

  behind_is : drop (8 + four_at 4 (used_bytes slot)) (used_bytes slot) ≡ behind
  behind_is = ap (λ n. drop (8 + n) (used_bytes slot)) count_is
      ∙ sym (drop-drop (length slot.name) 8 (used_bytes slot))
      ∙ ap (drop (length slot.name)) from_name ∙ drop-append_seam slot.name behind

  slot_is : slot_of (used_bytes slot) ≡ slot
  slot_is = λ i. record { number = number_is i; name = name_is i }

  passes : is_sound_slot inodes (used_bytes slot) ≡ true
  passes = λ i. (ap (λ n. nat_lt n inodes) number_is ∙ lt-ltb slot.number inodes is.sound.number.1) i
      && (ap (nat_le 1) count_is ∙ le-leb 1 (length slot.name) is.sound.name.0) i
      && (ap (λ n. nat_le n NAME_BYTES) count_is ∙ le-leb (length slot.name) NAME_BYTES short) i
      && (ap is_zeros behind_is ∙ zeros_are (SLOT_BYTES - 8 - length slot.name)) i

  used : nat_eq (four_at 0 (used_bytes slot)) 0 ≡ false
  used = ap (λ n. nat_eq n 0) number_is ∙ not_none slot.number is.sound.number.0

  pub slot_read : read_slot inodes bytes ≡ Ok (Some slot)
  unfolding read_slot
  slot_read = ap (read_slot inodes) is.spelled
      ∙ (λ i. cond (used i) (cond (is_zeros (used_bytes slot)) (Ok None) (Err Range))
      (cond (passes i) (Ok (Some (slot_is i))) (Err Range)))

pub free_read : (inodes : ℕ) → read_slot inodes (replicate SLOT_BYTES 0) ≡ Ok None
unfolding read_slot four_at
free_read inodes = refl

-- ---- both ways

module _ (inodes : ℕ) (bytes : List ℕ) (are : AreBytes bytes) (long : length bytes ≡ SLOT_BYTES) where
  pub is_read : (one : Option Slot) → IsInDirectory inodes bytes one → read_slot inodes bytes ≡ Ok one
  is_read None is = ap (read_slot inodes) is ∙ free_read inodes
  is_read (Some slot) is = slot_read inodes bytes slot is

  by_number : (none : Bool) (one : Option Slot) → nat_eq (four_at 0 bytes) 0 ≡ none
      → cond none (cond (is_zeros bytes) (Ok None) (Err Range))
      (cond (is_sound_slot inodes bytes) (Ok (Some (slot_of bytes))) (Err Range))
      ≡ Ok one
      → IsInDirectory inodes bytes one
  by_number true one is e =
      let zeros = chosen (is_zeros bytes) None one e in
      subst (IsInDirectory inodes bytes) zeros.1
      (all_zeros bytes zeros.0 ∙ ap (λ count. replicate count 0) long)
  by_number false one is e =
      let read = chosen (is_sound_slot inodes bytes) (Some (slot_of bytes)) one e in
      subst (IsInDirectory inodes bytes) read.1 (is_slot inodes bytes are long read.0 is)

  pub read_is : (one : Option Slot) → read_slot inodes bytes ≡ Ok one → IsInDirectory inodes bytes one
  unfolding read_slot
  read_is one e = by_number (nat_eq (four_at 0 bytes) 0) one refl e

  fault_by_number : (none : Bool) (fault : LayoutFault)
      → cond none (cond (is_zeros bytes) (Ok None) (Err Range))
      (cond (is_sound_slot inodes bytes) (Ok (Some (slot_of bytes))) (Err Range))
      ≡ Err fault
      → fault ≡ Range
  fault_by_number true fault e = chosen_fault (is_zeros bytes) None fault e
  fault_by_number false fault e = chosen_fault (is_sound_slot inodes bytes) (Some (slot_of bytes)) fault e

  pub fault_is : (fault : LayoutFault) → read_slot inodes bytes ≡ Err fault → fault ≡ Range
  unfolding read_slot
  fault_is fault e = fault_by_number (nat_eq (four_at 0 bytes) 0) fault e
