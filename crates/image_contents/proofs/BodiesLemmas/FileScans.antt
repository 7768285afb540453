-- What is told of one file.
use Rattle.std.proofs.Common.{◌≡◌, ℕ, ◌-◌, ◌*◌, ◌≤◌, sym, ap, ◌∙◌, refl, subst, Bool, true, false, ◌&&◌, ◌||◌}
use Rattle.std.proofs.Common.{List, [], ◌∷◌, ◌++◌, length, map, take, drop, nat_eq, nat_le, nat_lt, Option, arith}
use Rattle.std.specs.List.{list_all}
use Rattle.std.proofs.lemmas.List.{take-append-le}
use Rattle.base.specs.declared.TheConstants.{BLOCK_BYTES, DIRECT_INDEXES, FIRST_DOUBLE_INDEX, SLOTS_PER_BLOCK}
use Rattle.disk.specs.Crash.{Image}
use Rattle.layout.specs.declared.geometry.Geometry.{Geometry}
use Rattle.layout.specs.declared.inode.Inode.{Inode}
use Rattle.layout.specs.declared.inode.InodeKind.{InodeKind}
use Rattle.layout.specs.declared.inode.InodeKind.TheVariants.{Directory, Link, Regular}
use Rattle.layout.specs.declared.slot.Slot.{Slot}
use Rattle.layout.specs.Decode.{IsMapped, bytes_of, numbers_in, numbers_of, span_of}
use Rattle.layout.specs.Fields.{is_zeros}
use Rattle.layout.specs.Geometry.{data_at}
use Rattle.layout.specs.InodeForm.{is_data_block_or_none}
use Rattle.layout.proofs.FileNumbers.{first_ones}
use Rattle.layout.proofs.Respelled.{all_two}
use Rattle.image_read.specs.Files.Content.{AreLong}
use Rattle.image_read.specs.Files.RowNumbers.{numbers_before_double}
use Rattle.image_read.specs.Files.Slots.{HasSlots, IsSpanned, used_slots}
use Rattle.image_read.specs.declared.counts.links.Links.{Links}
use Rattle.image_read.specs.Laws.TreeOf.{named_numbers}
use Rattle.image_contents.specs.Names.Names.{AreNames}
use Rattle.image_read.specs.Counts.Adds.{AreNamed, for_directories, is_none_or_below, named_children}
use Rattle.image_contents.specs.Names.SlotsOf.{slots_of_directory}
use Rattle.image_contents.proofs.NamesLemmas.Entries.{numbers as dirent_numbers}
use Rattle.image_contents.specs.Bodies.Bodies.{HasBlocksOf, IsScanned, IsSpannedOf}
use Rattle.image_contents.specs.Bodies.Inner.{is_zero_below}
use Rattle.image_contents.proofs.BodiesLemmas.BelowBytes.{whole_zeros, zero_doubled}
use Rattle.image_contents.proofs.BodiesLemmas.Finding.{none_named}
use Rattle.image_contents.proofs.BodiesLemmas.SlotsBeforeDouble.{spanned_all}

abbrev number_of : Slot → ℕ
number_of slot = slot.number

-- the numbers in slots are counted
abbrev pub AddsSlots : List (Option Inode) → ℕ → Links → Links → List Slot → Type 0
AddsSlots table number old new slots =
    (all met naming : List ℕ) → AreNamed all met naming old
    → AreNamed (all ++ map number_of slots) (met ++ named_children table number (map number_of slots))
    (naming ++ for_directories table number (map number_of slots)) new

-- a data block is one of the image's
pub all_below : (g : Geometry) (size : ℕ) → size ≡ g.blocks → (numbers : List ℕ)
    → list_all (is_data_block_or_none g) numbers ≡ true → list_all (is_none_or_below size) numbers ≡ true
all_below g size is [] all = refl
all_below g size is (n ∷ numbers) all =
    let both = all_two (is_data_block_or_none g n) (list_all (is_data_block_or_none g) numbers) all in
    let here : (nat_eq n 0 || nat_lt n size) ≡ true =
    ap (λ k. nat_eq n 0 || nat_lt n k) is
    ∙ below_if (nat_eq n 0) (nat_le (data_at g.blocks g.inodes) n) (nat_lt n g.blocks) both.0 in
    let rest : list_all (is_none_or_below size) numbers ≡ true = all_below g size is numbers both.1 in
    λ i. here i && rest i
  where
    below_if : (none low below : Bool) → (none || (low && below)) ≡ true → (none || below) ≡ true
    below_if true low below e = refl
    below_if false true below e = e
    below_if false false below e = cc

pub none_or_below : (g : Geometry) (size : ℕ) → size ≡ g.blocks → (number : ℕ)
    → is_data_block_or_none g number ≡ true → is_none_or_below size number ≡ true
none_or_below g size is number one =
    (all_two (is_none_or_below size number) true
    (all_below g size is (number ∷ []) (λ i. one i && true))).0

module _ (g : Geometry) (content : Image) (inode : Inode) where
  pub mapped_of_blocks : (kind : InodeKind) → HasBlocksOf g content kind inode → IsMapped g content inode
  mapped_of_blocks Directory has = has.0
  mapped_of_blocks Regular has = has
  mapped_of_blocks Link has = has

  pub has_blocks : (kind : InodeKind) → IsMapped g content inode → IsSpannedOf g content kind inode
      → HasBlocksOf g content kind inode
  has_blocks Directory mapped spans = (mapped, spans)
  has_blocks Regular mapped spans = mapped
  has_blocks Link mapped spans = mapped

  module _ (table : List (Option Inode)) (number : ℕ) where
    pub slots_scanned : (numbers : List ℕ) (slots : List Slot) (old new : Links) (is_clean : Bool)
        → length inode.direct ≡ DIRECT_INDEXES → nat_eq inode.double 0 ≡ true → length numbers ≡ FIRST_DOUBLE_INDEX
        → numbers ≡ numbers_before_double content inode → IsSpanned g.inodes content inode numbers
        → HasSlots g.inodes (bytes_of content (take (span_of inode) numbers)) (SLOTS_PER_BLOCK * span_of inode) slots
        → AddsSlots table number old new slots → (is_clean ≡ true → AreNames slots) → (is_clean ≡ false → AreNames slots → ⊥)
        → IsScanned g content table number Directory inode old new is_clean
    slots_scanned numbers slots old new is_clean direct none long are spans has counted lawful unlawful =
        let spanned = spans.few in
        let few : span_of inode ≤ FIRST_DOUBLE_INDEX = omega (arith, spanned, long) in
        let first : take (span_of inode) numbers ≡ take (span_of inode) (numbers_of content inode) =
        ap (take (span_of inode)) are ∙ sym (first_ones content inode direct (span_of inode) few) in
        let is : slots ≡ slots_of_directory g.inodes content inode =
        has.used ∙ ap (λ l. used_slots g.inodes (bytes_of content l) (SLOTS_PER_BLOCK * span_of inode)) first in
        let names : map number_of slots ≡ named_numbers g.inodes content Directory inode =
        ap (map number_of) is ∙ sym (dirent_numbers g.inodes content inode) in
        record {
          spans = spanned_all content inode direct none g.inodes few
              (subst (λ l. IsSpanned g.inodes content inode l) are spans);
          named = λ all met naming before.
              subst (λ l. AreNamed (all ++ l) (met ++ named_children table number l)
              (naming ++ for_directories table number l)
              new) names (counted all met naming before);
          yes = λ t. subst (λ l. AreNames l) is (lawful t);
          no = λ f are_names. unlawful f (subst (λ l. AreNames l) (sym is) are_names);
        }

    -- nothing lies below a double indirect block that isn't there
    pub none_below : AreLong content → (kind : InodeKind) (old new : Links) (is_clean : Bool) → nat_eq inode.double 0 ≡ true
        → IsScanned g content table number kind inode old new is_clean
        → IsScanned g content table number kind inode old new (is_clean && is_zero_below content inode)
    none_below long kind old new is_clean none =
        subst (IsScanned g content table number kind inode old new)
        (sym (ap (λ b. is_clean && b)
        (zero_doubled content long (inode.size - BLOCK_BYTES * FIRST_DOUBLE_INDEX) inode.double none)
        ∙ and_true is_clean))
      where
        and_true : (b : Bool) → (b && true) ≡ b
        and_true true = refl
        and_true false = refl

    pub regular_scanned : AreLong content → (numbers : List ℕ) (links : Links) (is_clean : Bool)
        → length inode.direct ≡ DIRECT_INDEXES → numbers ≡ numbers_before_double content inode
        → is_clean ≡ is_zeros (drop inode.size (bytes_of content numbers))
        → IsScanned g content table number Regular inode links links (is_clean && is_zero_below content inode)
    regular_scanned whole numbers links is_clean direct are zeros =
        let proven : (is_clean && is_zero_below content inode)
        ≡ is_zeros (drop inode.size (bytes_of content (numbers_of content inode))) =
        ap (λ b. b && is_zero_below content inode)
        (zeros ∙ ap (λ l. is_zeros (drop inode.size (bytes_of content l))) are)
        ∙ sym (whole_zeros content whole inode direct) in
        record {
          spans = tt;
          named = λ all met naming named. none_named g content table number all met naming links named;
          yes = λ t. sym proven ∙ t;
          no = λ f z. let clash : true ≡ false = sym z ∙ sym proven ∙ f in cc;
        }

    pub link_scanned : (numbers first : List ℕ) (links : Links) (is_clean : Bool) → numbers ≡ numbers_before_double content inode
        → first ≡ take 1 numbers → 1 ≤ length inode.direct → is_clean ≡ is_zeros (drop inode.size (bytes_of content first))
        → IsScanned g content table number Link inode links links is_clean
    link_scanned numbers first links is_clean are is long zeros =
        let same : first ≡ take 1 inode.direct =
        is ∙ ap (take 1) are ∙ take-append-le 1 inode.direct (numbers_in content inode.indirect) long in
        let proven : is_clean ≡ is_zeros (drop inode.size (bytes_of content (take 1 inode.direct))) =
        zeros ∙ ap (λ l. is_zeros (drop inode.size (bytes_of content l))) same in
        record {
          spans = tt;
          named = λ all met naming named. none_named g content table number all met naming links named;
          yes = λ t. sym proven ∙ t;
          no = λ f z. let clash : true ≡ false = sym z ∙ sym proven ∙ f in cc;
        }
