-- Directories name numbers of inodes alone.
use Rattle.std.proofs.Common.{◌≡◌, ℕ, ◌<◌, ◌≤◌, ap, refl, subst, Bool, true, false, cond, ◌&&◌, nat_eq}
use Rattle.std.proofs.Common.{List, [], ◌∷◌, Option, Some, None, Result, Ok, Err, arith}
use Rattle.std.specs.List.{cons_option, filter_map, flat_map, range_with_len}
use Rattle.std.proofs.lemmas.Bool.{ne_eqb}
use Rattle.std.proofs.lemmas.List.Sums.{sum_by-append, sum_by-cons}
use Rattle.disk.specs.Crash.{Image}
use Rattle.nfs_spec.specs.Model.Node.{DirentValue}
use Rattle.layout.specs.declared.fault.LayoutFault.{LayoutFault}
use Rattle.layout.specs.declared.fault.LayoutFault.TheVariants.{Range}
use Rattle.layout.specs.declared.geometry.Geometry.{Geometry}
use Rattle.layout.specs.declared.inode.Inode.{Inode}
use Rattle.layout.specs.declared.inode.InodeKind.{InodeKind}
use Rattle.layout.specs.declared.inode.InodeKind.TheVariants.{Directory, Link, Regular}
use Rattle.layout.specs.declared.slot.Slot.{Slot}
use Rattle.layout.specs.Decode.{dirent_in, named_in, slot_bytes, slots_of}
use Rattle.layout.specs.Parts.{Parts}
use Rattle.layout.specs.SlotForm.{is_sound_slot, read_slot, slot_of}
use Rattle.inode.proofs.AllTests.{is_less}
use Rattle.dir.proofs.Members.{none_some}
use Rattle.image_read.specs.ImageCounts.Tally.{times}
use Rattle.image_read.specs.Laws.TreeOf.{all_named, named_numbers, named_of, numbers_named}

-- ---- a slot that is read names the number of an inode

first_of : (a b c d : Bool) → (a && b && c && d) ≡ true → a ≡ true
first_of true b c d e = refl
first_of false b c d e = cc

free_slot : (slot : Slot) → ◌≡◌ {A = Result (Option Slot) LayoutFault} (Ok None) (Ok (Some slot)) → ⊥
free_slot slot e = cc

no_slot : (slot : Slot) → ◌≡◌ {A = Result (Option Slot) LayoutFault} (Err Range) (Ok (Some slot)) → ⊥
no_slot slot e = cc

one_slot : (one other : Slot) → ◌≡◌ {A = Result (Option Slot) LayoutFault} (Ok (Some one)) (Ok (Some other))
    → one ≡ other
one_slot one other e = cc

slot_by : (inodes : ℕ) (bytes : List ℕ) (slot : Slot) (free zeros good : Bool) → is_sound_slot inodes bytes ≡ good
    → ◌≡◌ {A = Result (Option Slot) LayoutFault} (cond free (cond zeros (Ok None) (Err Range))
    (cond good (Ok (Some (slot_of bytes))) (Err Range))) (Ok (Some slot))
    → slot.number < inodes
slot_by inodes bytes slot true true good is e = absurd (free_slot slot e)
slot_by inodes bytes slot true false good is e = absurd (no_slot slot e)
slot_by inodes bytes slot false zeros false is e = absurd (no_slot slot e)
slot_by inodes bytes slot false zeros true is e =
    subst (λ (s : Slot). s.number < inodes) (one_slot (slot_of bytes) slot e)
    (is_less (slot_of bytes).number inodes (first_of _ _ _ _ is))

slot_below : (inodes : ℕ) (bytes : List ℕ) (slot : Slot) → read_slot inodes bytes ≡ Ok (Some slot)
    → slot.number < inodes
unfolding read_slot
slot_below inodes bytes slot e =
    slot_by inodes bytes slot _ _ (is_sound_slot inodes bytes) refl e

one_dirent : (one other : List ℕ × DirentValue) → Some one ≡ Some other → one ≡ other
one_dirent one other e = cc

dirent_below : (inodes index : ℕ) (bytes : List ℕ) (r : Result (Option Slot) LayoutFault) → read_slot inodes bytes ≡ r
    → (entry : List ℕ × DirentValue) → dirent_in index r ≡ Some entry → entry.1.number < inodes
dirent_below inodes index bytes (Ok (Some slot)) is entry e =
    subst (λ (one : List ℕ × DirentValue). one.1.number < inodes)
    (one_dirent (slot.name, record { number = slot.number; slot = index }) entry e) (slot_below inodes bytes slot is)
dirent_below inodes index bytes (Ok None) is entry e = absurd (none_some entry e)
dirent_below inodes index bytes (Err fault) is entry e = absurd (none_some entry e)

-- ---- so no other number is named

module _ (inodes number : ℕ) (past : inodes ≤ number) where
  with_first : (es : List (List ℕ × DirentValue)) (o : Option (List ℕ × DirentValue))
      → ((e : List ℕ × DirentValue) → o ≡ Some e → e.1.number < inodes)
      → times (numbers_named es) number ≡ 0 → times (numbers_named (cons_option o es)) number ≡ 0
  with_first es None each rest = rest
  with_first es (Some e) each rest =
      let low = each e refl in
      let here : ◌≡◌ {A = ℕ} (cond (nat_eq e.1.number number) 1 0) 0 =
      ap (λ b. cond b 1 0) (ne_eqb e.1.number number (λ is. omega (arith, is, low, past))) in
      let all = sum_by-cons (λ n. cond (nat_eq n number) 1 0) e.1.number (numbers_named es) in
      omega (arith, here, all, rest)

  none_given : (f : ℕ → Option (List ℕ × DirentValue))
      → ((k : ℕ) (e : List ℕ × DirentValue) → f k ≡ Some e → e.1.number < inodes)
      → (ks : List ℕ) → times (numbers_named (filter_map f ks)) number ≡ 0
  none_given f each [] = refl
  none_given f each (k ∷ ks) = with_first (filter_map f ks) (f k) (each k) (none_given f each ks)

  none_of_kind : (content : Image) (inode : Inode) (kind : InodeKind)
      → times (named_numbers inodes content kind inode) number ≡ 0
  unfolding named_in
  none_of_kind content inode Directory =
      none_given (λ index. dirent_in index (read_slot inodes (slot_bytes content inode index)))
      (λ k e is. dirent_below inodes k (slot_bytes content inode k)
      (read_slot inodes (slot_bytes content inode k)) refl e
      is)
      (slots_of inode)
  none_of_kind content inode Regular = refl
  none_of_kind content inode Link = refl

  none_of : (content : Image) (r : Result (Option Inode) LayoutFault) → times (named_of inodes content r) number ≡ 0
  none_of content (Ok (Some inode)) = none_of_kind content inode inode.kind
  none_of content (Ok None) = refl
  none_of content (Err fault) = refl

  none_all : (h : ℕ → List ℕ) → ((k : ℕ) → times (h k) number ≡ 0) → (ks : List ℕ)
      → times (flat_map h ks) number ≡ 0
  none_all h each [] = refl
  none_all h each (k ∷ ks) =
      let here = each k in
      let rest = none_all h each ks in
      let all = sum_by-append (λ n. cond (nat_eq n number) 1 0) (h k) (flat_map h ks) in
      omega (arith, here, rest, all)

pub none_named : (g : Geometry) (parts : Parts) (number : ℕ) → g.inodes ≤ number
    → times (all_named g parts) number ≡ 0
unfolding all_named
none_named g parts number past =
    none_all g.inodes number past (λ n. named_of g.inodes parts.content (parts.table n))
    (λ k. none_of g.inodes number past parts.content (parts.table k)) (range_with_len 0 g.inodes)
