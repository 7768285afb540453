-- The slots in use of a directory, and its entries.
use Rattle.std.proofs.Common.{◌≡◌, ℕ, zero, suc, ◌+◌, ◌*◌, refl, List, ◌∷◌, map, take, Option, Some, None, Result, Ok}
use Rattle.std.proofs.Common.{Err}
use Rattle.std.specs.List.{cons_option, filter_map, range_with_len}
use Rattle.base.specs.declared.TheConstants.{SLOTS_PER_BLOCK}
use Rattle.disk.specs.Crash.{Image}
use Rattle.nfs_spec.specs.Model.Node.{DirentValue}
use Rattle.layout.specs.declared.fault.LayoutFault.{LayoutFault}
use Rattle.layout.specs.declared.inode.Inode.{Inode}
use Rattle.layout.specs.declared.slot.Slot.{Slot}
use Rattle.layout.specs.Decode.{bytes_of, dirent_in, named_in, numbers_of, slot_bytes, span_of}
use Rattle.image_read.specs.Files.Slots.{in_use, slot_at, used_slots}
use Rattle.image_contents.specs.Names.SlotsOf.{slots_of_directory}

one_alike : {B : Type 0} (h : List ℕ × DirentValue → B) (k : Slot → B) (index : ℕ)
    → ((slot : Slot) → h (slot.name, record { number = slot.number; slot = index }) ≡ k slot)
    → (r : Result (Option Slot) LayoutFault) (es : List (List ℕ × DirentValue)) (slots : List Slot)
    → map h es ≡ map k slots → map h (cons_option (dirent_in index r) es) ≡ map k (cons_option (in_use r) slots)
one_alike h k index same (Ok (Some slot)) es slots rest = λ i. same slot i ∷ rest i
one_alike h k index same (Ok None) es slots rest = rest
one_alike h k index same (Err fault) es slots rest = rest

-- what is told of an entry and of its slot alike, is told alike of all
alike : {B : Type 0} (h : List ℕ × DirentValue → B) (k : Slot → B)
    → ((index : ℕ) (slot : Slot) → h (slot.name, record { number = slot.number; slot = index }) ≡ k slot)
    → (f : ℕ → Result (Option Slot) LayoutFault) (a n : ℕ)
    → map h (filter_map (λ index. dirent_in index (f index)) (range_with_len a n))
    ≡ map k (filter_map (λ index. in_use (f index)) (range_with_len a n))
alike h k same f a zero = refl
alike h k same f a (suc n) =
    one_alike h k a (same a) (f a) (filter_map (λ index. dirent_in index (f index)) (range_with_len (a + 1) n))
    (filter_map (λ index. in_use (f index)) (range_with_len (a + 1) n)) (alike h k same f (a + 1) n)

module _ (inodes : ℕ) (content : Image) (inode : Inode) where
  abbrev slot_in : ℕ → Result (Option Slot) LayoutFault
  slot_in index = slot_at inodes (bytes_of content (take (span_of inode) (numbers_of content inode))) index

  pub names : map (λ (e : List ℕ × DirentValue). e.0) (named_in inodes content inode)
      ≡ map (λ (slot : Slot). slot.name) (slots_of_directory inodes content inode)
  unfolding named_in slot_bytes used_slots
  names = alike (λ (e : List ℕ × DirentValue). e.0) (λ (slot : Slot). slot.name) (λ index slot. refl) slot_in 0
      (SLOTS_PER_BLOCK * span_of inode)

  pub numbers : map (λ (e : List ℕ × DirentValue). e.1.number) (named_in inodes content inode)
      ≡ map (λ (slot : Slot). slot.number) (slots_of_directory inodes content inode)
  unfolding named_in slot_bytes used_slots
  numbers = alike (λ (e : List ℕ × DirentValue). e.1.number) (λ (slot : Slot). slot.number) (λ index slot. refl)
      slot_in 0 (SLOTS_PER_BLOCK * span_of inode)
