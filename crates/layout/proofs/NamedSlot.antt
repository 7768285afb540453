-- What stands in a slot that has a name.
use Rattle.std.proofs.Common.{◌≡◌, ℕ, ◌+◌, ◌≤◌, sym, ap, ◌∙◌, refl, Bool, true, false, cond, List, ◌++◌, length}
use Rattle.std.proofs.Common.{take, drop, replicate}
use Rattle.std.proofs.Common.{nat_eq, nat_le, nat_lt, Option, Some, None, Result, Ok, Err, IsOk, arith}
use Rattle.std.specs.Cmp.Lexicographic.{slice_cmp}
use Rattle.std.specs.FinMap as map
use Rattle.std.specs.Ordering.{is_eq, nat_cmp}
use Rattle.std.specs.declared.cmp.Ordering.{Ordering}
use Rattle.std.specs.declared.cmp.Ordering.TheVariants.{Less, Equal, Greater}
use Rattle.std.specs.Int.{w32, w64, from_le_bytes, to_le_bytes}
use Rattle.std.proofs.lemmas.List.{drop-drop, drop-replicate, length-drop, length-take-le}
use Rattle.base.specs.declared.TheConstants.{NAME_BYTES}
use Rattle.nfs_types.specs.Fits.{AreBytes}
use Rattle.layout.specs.declared.fault.LayoutFault.{LayoutFault}
use Rattle.layout.specs.declared.fault.LayoutFault.TheVariants.{Range}
use Rattle.layout.specs.declared.slot.Slot.{Slot}
use Rattle.layout.specs.declared.slot.TheConstants.{COUNT_AT, NAME_AT, NUMBER_AT, SLOT_BYTES}
use Rattle.layout.specs.Fields.{eight_at, four_at, four_bytes, is_zeros}
use Rattle.layout.specs.SlotForm.{is_sound_slot, number_under, read_slot, slot_of, used_bytes}
use Rattle.layout.proofs.SlotBytes.{all_four, is_slot, no_more}

abbrev Under : Type 0
Under = Result (Option ℕ) LayoutFault

is_under : (test : Bool) (one number : ℕ) → ◌≡◌ {A = Under} (Ok (cond test (Some one) None)) (Ok (Some number))
    → test ≡ true
is_under true one number e = refl
is_under false one number e = cc

not_under : (test : Bool) (one : ℕ)
    → ((number : ℕ) → ◌≡◌ {A = Under} (Ok (cond test (Some one) None)) (Ok (Some number)) → ⊥)
    → ◌≡◌ {A = Under} (Ok (cond test (Some one) None)) (Ok None)
not_under true one none = absurd (none one refl)
not_under false one none = refl

-- a slot that isn't refused, and has no number under a name
pub none_under : (name : List ℕ) (read : Result (Option Slot) LayoutFault) → IsOk read
    → ((number : ℕ) → number_under name read ≡ Ok (Some number) → ⊥) → number_under name read ≡ Ok None
none_under name (Ok None) ok none = refl
none_under name (Ok (Some one)) ok none = not_under (is_eq (slice_cmp nat_cmp name one.name)) one.number none
none_under name (Err fault) ok none = let clash : false ≡ true = ok in cc

same_bytes : (a b : List ℕ) (r : Ordering) → slice_cmp nat_cmp a b ≡ r → is_eq r ≡ true → a ≡ b
same_bytes a b Less is e = cc
same_bytes a b Equal is e = map.slice_cmp-IsAntisymmetric map.nat_cmp-IsAntisymmetric a b is
same_bytes a b Greater is e = cc

module _ (inodes : ℕ) (bytes name : List ℕ) (number : ℕ) where
  abbrev count : ℕ
  count = four_at COUNT_AT bytes

  abbrev there : List ℕ
  there = take count (drop NAME_AT bytes)

  by_tests : (free zeros sound : Bool) → is_sound_slot inodes bytes ≡ sound
      → number_under name (cond free (cond zeros (Ok None) (Err Range))
      (cond sound (Ok (Some (slot_of bytes))) (Err Range))) ≡ Ok (Some number)
      → (is_sound_slot inodes bytes ≡ true) × (is_eq (slice_cmp nat_cmp name there) ≡ true) × (free ≡ false)
  by_tests true true sound e is = cc
  by_tests true false sound e is = cc
  by_tests false zeros true e is =
      (e, is_under (is_eq (slice_cmp nat_cmp name there)) (four_at NUMBER_AT bytes) number is, refl)
  by_tests false zeros false e is = cc

  module _ (long : length bytes ≡ SLOT_BYTES) (is : number_under name (read_slot inodes bytes) ≡ Ok (Some number)) where
    tests : (is_sound_slot inodes bytes ≡ true) × (is_eq (slice_cmp nat_cmp name there) ≡ true)
        × (nat_eq (four_at NUMBER_AT bytes) 0 ≡ false)
    unfolding read_slot
    tests = by_tests (nat_eq (four_at NUMBER_AT bytes) 0) (is_zeros bytes) (is_sound_slot inodes bytes) refl is

    same : name ≡ there
    same = same_bytes name there (slice_cmp nat_cmp name there) refl tests.1

    few : count ≤ NAME_BYTES
    few = no_more count NAME_BYTES (all_four (nat_lt (four_at NUMBER_AT bytes) inodes) (nat_le 1 count)
        (nat_le count NAME_BYTES) (is_zeros (drop (NAME_AT + count) bytes)) tests.0).2

    -- the name has a lawful length
    pub short : length name ≤ NAME_BYTES
    short =
        let most = few in
        let all = length-drop NAME_AT bytes in
        let len = length-take-le count (drop NAME_AT bytes) (omega (arith, most, all, long)) in
        let is = ap length same in
        omega (arith, most, len, is)

    -- it is spelled with the name
    spelled : AreBytes bytes → bytes ≡ used_bytes (record { number = four_at NUMBER_AT bytes; name = name })
    spelled are =
        (is_slot inodes bytes are long tests.0 tests.2).spelled
        ∙ ap (λ (l : List ℕ). used_bytes (record { number = four_at NUMBER_AT bytes; name = l })) (sym same)

    -- behind its number it is as each that has the name
    behind : AreBytes bytes → drop 4 bytes ≡ drop 4 (used_bytes (record { number = 0; name = name }))
    unfolding four_bytes
    behind are = ap (drop 4) (spelled are)

    pub same_word : AreBytes bytes → (from : ℕ)
        → eight_at (4 + from) bytes ≡ eight_at (4 + from) (used_bytes (record { number = 0; name = name }))
    unfolding eight_at
    same_word are from =
        ap (from_le_bytes w64)
        (sym (drop-drop from 4 bytes) ∙ ap (drop from) (behind are)
        ∙ drop-drop from 4 (used_bytes (record { number = 0; name = name })))

-- the bytes of the slots that have a name, put together over zeros
pub patterned : (name zeros part first last : List ℕ) → zeros ≡ replicate SLOT_BYTES 0
    → part ≡ to_le_bytes w32 (length name)
    → first ≡ take 4 zeros ++ part ++ drop (4 + length part) zeros
    → last ≡ take 8 first ++ name ++ drop (8 + length name) first
    → last ≡ used_bytes (record { number = 0; name = name })
unfolding four_bytes
patterned name zeros part first last zeros_are part_is first_is last_is =
    let head : first ≡ to_le_bytes w32 0 ++ to_le_bytes w32 (length name) ++ replicate 120 0 =
    first_is ∙ (λ i. take 4 (zeros_are i) ++ part_is i ++ drop (4 + length (part_is i)) (zeros_are i)) in
    last_is ∙ (λ i. take 8 (head i) ++ name ++ drop (8 + length name) (head i))
    ∙ ap (λ l. to_le_bytes w32 0 ++ to_le_bytes w32 (length name) ++ name ++ l)
    (sym (drop-drop (length name) 8 (to_le_bytes w32 0 ++ to_le_bytes w32 (length name) ++ replicate 120 0))
    ∙ drop-replicate (length name) 120 0)
