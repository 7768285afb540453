-- The names of a directory, and those in its slots.
use Rattle.std.proofs.Common.{◌≡◌, ℕ, ◌*◌, inl, inr, sym, ap, ◌∙◌, refl, subst, true, ◌&&◌, List, [], ◌∷◌}
use Rattle.std.proofs.Common.{length, take, Option, Some, None, Result, Ok, Err, arith}
use Rattle.std.specs.Cmp.Lexicographic.{nat_list_cmp_total}
use Rattle.std.specs.FinMap as finmap
use Rattle.std.specs.List.{IsDistinct, list_all}
use Rattle.base.specs.declared.TheConstants.{SLOTS_PER_BLOCK}
use Rattle.disk.specs.Crash.{Image}
use Rattle.layout.specs.declared.fault.LayoutFault.{LayoutFault}
use Rattle.layout.specs.declared.geometry.Geometry.{Geometry}
use Rattle.layout.specs.declared.inode.Inode.{Inode}
use Rattle.layout.specs.declared.slot.Slot.{Slot}
use Rattle.layout.specs.Decode.{bytes_of, entries_in, named_in, numbers_of, slot_bytes, span_of}
use Rattle.layout.proofs.Respelled.{all_two}
use Rattle.nfs_spec.proofs.ProceduresLemmas.NameChanges.{names_apart}
use Rattle.dir.proofs.Members.{In, in_range, from_range}
use Rattle.image_read.specs.Files.Slots.{in_use, slot_at, used_slots}
use Rattle.image_read.specs.Laws.TreeOf.{HasNames}
use Rattle.image_contents.specs.Names.Names.{AreNames, is_name, names_in, same_name}
use Rattle.image_contents.specs.Names.SlotsOf.{AreSlotsOf, slots_of_directory}
use Rattle.image_contents.proofs.NamesLemmas.Entries.{names}
use Rattle.image_contents.proofs.NamesLemmas.Lawful.{lawful, sound}
use Rattle.image_contents.proofs.NamesLemmas.Once.{distinct_once, once_distinct}

-- a test of all names, and of each
one_passes : (slots : List Slot) (slot : Slot) → list_all is_name (names_in slots) ≡ true → In slot slots
    → is_name slot.name ≡ true
one_passes [] slot all there = absurd there
one_passes (x ∷ slots) slot all (inl one) =
    ap (λ (s : Slot). is_name s.name) (sym one) ∙ (all_two (is_name x.name) (list_all is_name (names_in slots)) all).0
one_passes (x ∷ slots) slot all (inr there) =
    one_passes slots slot (all_two (is_name x.name) (list_all is_name (names_in slots)) all).1 there

each_passes : (slots : List Slot) → ((slot : Slot) → In slot slots → is_name slot.name ≡ true)
    → list_all is_name (names_in slots) ≡ true
each_passes [] each = refl
each_passes (x ∷ slots) each =
    λ i. each x (inl refl) i && each_passes slots (λ slot there. each slot (inr there)) i

used_is : (r : Result (Option Slot) LayoutFault) (slot : Slot) → in_use r ≡ Some slot → r ≡ Ok (Some slot)
used_is (Ok (Some one)) slot e = ap Ok e
used_is (Ok None) slot e = cc
used_is (Err fault) slot e = cc

module _ (inodes : ℕ) (content : Image) (inode : Inode) where
  abbrev slots : List Slot
  slots = slots_of_directory inodes content inode

  pub once : AreNames slots → finmap.len (entries_in inodes content inode) ≡ length (named_in inodes content inode)
  once are =
      distinct_once nat_list_cmp_total names_apart (named_in inodes content inode)
      (subst (IsDistinct same_name) (sym (names inodes content inode)) are.apart)

module _ (g : Geometry) (content : Image) (inode : Inode) where
  pub has_names : AreSlotsOf g.inodes content inode → AreNames (slots_of_directory g.inodes content inode)
      → HasNames g content inode
  unfolding slot_bytes used_slots
  has_names bytes are index slot less is =
      sound slot.name
      (one_passes (slots_of_directory g.inodes content inode) slot are.lawful
      (in_range (λ k. in_use (slot_at g.inodes (bytes_of content (take (span_of inode) (numbers_of content inode))) k))
      0
      (SLOTS_PER_BLOCK * span_of inode) index slot (omega arith) (omega (arith, less)) (ap in_use is)))
      (bytes index slot less is)

  pub are_names : HasNames g content inode
      → finmap.len (entries_in g.inodes content inode) ≡ length (named_in g.inodes content inode)
      → AreNames (slots_of_directory g.inodes content inode)
  unfolding slot_bytes used_slots
  are_names has once = record {
    lawful = each_passes (slots_of_directory g.inodes content inode) (λ slot there.
        let from = from_range (λ k. in_use (slot_at g.inodes (bytes_of content (take (span_of inode)
        (numbers_of content inode))) k)) 0 (SLOTS_PER_BLOCK * span_of inode) slot there in
        let less = from.2 in
        lawful slot.name (has from.0 slot (omega (arith, less)) (used_is _ slot from.3)));
    apart = subst (IsDistinct same_name) (names g.inodes content inode)
        (once_distinct nat_list_cmp_total names_apart (named_in g.inodes content inode) once);
  }
