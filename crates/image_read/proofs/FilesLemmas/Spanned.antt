-- The blocks that a directory spans, and the others.
use Rattle.std.proofs.Common.{◌≡◌, ℕ, ◌*◌, ◌≤◌, sym, ap, ◌∙◌, subst, true, ◌&&◌, List, length, take, drop, nat_eq}
use Rattle.std.specs.List.{list_all}
use Rattle.std.proofs.lemmas.List.{length-take-le}
use Rattle.base.specs.declared.TheConstants.{SLOTS_PER_BLOCK}
use Rattle.disk.specs.Crash.{Image}
use Rattle.layout.specs.declared.geometry.Geometry.{Geometry}
use Rattle.layout.specs.declared.inode.Inode.{Inode}
use Rattle.layout.specs.declared.slot.Slot.{Slot}
use Rattle.layout.specs.Decode.{bytes_of, span_of}
use Rattle.layout.specs.InodeForm.{is_data_block_or_none}
use Rattle.layout.specs.Places.{is_data}
use Rattle.inode.proofs.AllTests.{all_two}
use Rattle.image_read.specs.Files.Slots.{AreSlots, HasSlots, IsSpanned}
use Rattle.image_read.proofs.FilesLemmas.Data.{all_data, all_some, first_pass, is_some}

module _ (g : Geometry) (content : Image) (inode : Inode) (numbers leading back : List ℕ)
    (is : leading ≡ take (span_of inode) numbers) (rest : back ≡ drop (span_of inode) numbers)
    (few : span_of inode ≤ length numbers) where
  long_leading : length leading ≡ span_of inode
  long_leading = ap length is ∙ length-take-le (span_of inode) numbers few

  -- the slots of the blocks that are spanned
  pub has_spanned : (slots : List Slot)
      → HasSlots g.inodes (bytes_of content leading) (SLOTS_PER_BLOCK * length leading) slots
      → HasSlots g.inodes (bytes_of content (take (span_of inode) numbers)) (SLOTS_PER_BLOCK * span_of inode) slots
  has_spanned slots has =
      subst (λ count. HasSlots g.inodes (bytes_of content (take (span_of inode) numbers)) (SLOTS_PER_BLOCK * count) slots)
      long_leading
      (subst (λ l. HasSlots g.inodes (bytes_of content l) (SLOTS_PER_BLOCK * length leading) slots) is has)

  pub are_spanned : list_all (is_data g) leading ≡ true → list_all (λ number. nat_eq number 0) back ≡ true
      → (slots : List Slot) → HasSlots g.inodes (bytes_of content leading) (SLOTS_PER_BLOCK * length leading) slots
      → IsSpanned g.inodes content inode numbers
  are_spanned lie none slots has =
      let spanned : list_all (is_data g) (take (span_of inode) numbers) ≡ true =
      ap (list_all (is_data g)) (sym is) ∙ lie in
      let some : list_all is_some (take (span_of inode) numbers) ≡ true =
      all_some g (take (span_of inode) numbers) spanned in
      let others : list_all (λ number. nat_eq number 0) (drop (span_of inode) numbers) ≡ true =
      ap (list_all (λ number. nat_eq number 0)) (sym rest) ∙ none in
      record { few = few; first = λ i. some i && others i; slots = (has_spanned slots has).are }

  module _ (spans : IsSpanned g.inodes content inode numbers) where
    pub slots_of_leading : AreSlots g.inodes (bytes_of content leading) (SLOTS_PER_BLOCK * length leading)
    slots_of_leading =
        subst (λ count. AreSlots g.inodes (bytes_of content leading) (SLOTS_PER_BLOCK * count)) (sym long_leading)
        (subst (λ l. AreSlots g.inodes (bytes_of content l) (SLOTS_PER_BLOCK * span_of inode)) (sym is) spans.slots)

    pub leading_is_data : list_all (is_data_block_or_none g) numbers ≡ true → list_all (is_data g) leading ≡ true
    leading_is_data placed =
        ap (list_all (is_data g)) is
        ∙ all_data g (take (span_of inode) numbers) (first_pass (is_data_block_or_none g) (span_of inode) numbers placed)
        (all_two (list_all is_some (take (span_of inode) numbers))
        (list_all (λ number. nat_eq number 0) (drop (span_of inode) numbers)) spans.first).0

    pub back_is_none : list_all (λ number. nat_eq number 0) back ≡ true
    back_is_none =
        ap (list_all (λ number. nat_eq number 0)) rest
        ∙ (all_two (list_all is_some (take (span_of inode) numbers))
        (list_all (λ number. nat_eq number 0) (drop (span_of inode) numbers)) spans.first).1
