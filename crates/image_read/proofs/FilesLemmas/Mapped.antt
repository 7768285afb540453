-- The numbers of a file: those that its inode has, and those in a block that holds numbers.
use Rattle.std.proofs.Common.{◌≡◌, ℕ, sym, ap, ◌∙◌, Bool, true, false, not, ◌||◌, ◌&&◌, List, ◌++◌}
use Rattle.std.proofs.Common.{[], ◌∷◌, refl, replicate, nat_eq}
use Rattle.std.specs.List.{list_all, list_any}
use Rattle.base.specs.declared.TheConstants.{INDIRECT_INDEXES}
use Rattle.disk.specs.Crash.{Image}
use Rattle.layout.specs.declared.geometry.Geometry.{Geometry}
use Rattle.layout.specs.declared.inode.Inode.{Inode}
use Rattle.layout.specs.Decode.{numbers_in}
use Rattle.layout.specs.Fields.{numbers_at}
use Rattle.layout.specs.InodeForm.{is_data_block_or_none}
use Rattle.layout.specs.Parts.{content_in}
use Rattle.layout.specs.Places.{is_data}
use Rattle.layout.proofs.NumbersIn.{in_length, none_in, some_in}
use Rattle.inode.proofs.InodeThere.{data_of}
use Rattle.image_read.specs.Files.RowNumbers.{AreRowNumbers, IsRowMapped, numbers_before_double}
use Rattle.image_read.proofs.FilesLemmas.Data.{as_image, is_some, some_number}

-- a number is 0 or not
pub not_all : (numbers : List ℕ) → list_all (λ number. nat_eq number 0) numbers ≡ false → list_any is_some numbers ≡ true
not_all [] e = cc
not_all (n ∷ numbers) e = by_head (nat_eq n 0) (not_all numbers) e
  where
    by_head : (none : Bool)
        → (list_all (λ number. nat_eq number 0) numbers ≡ false → list_any is_some numbers ≡ true)
        → (none && list_all (λ number. nat_eq number 0) numbers) ≡ false
        → (not none || list_any is_some numbers) ≡ true
    by_head true rest e = rest e
    by_head false rest e = refl

pub all_none : (numbers : List ℕ) → list_all (λ number. nat_eq number 0) numbers ≡ true → list_any is_some numbers ≡ true → ⊥
all_none [] e some = cc
all_none (n ∷ numbers) e some = by_head (nat_eq n 0) (all_none numbers) e some
  where
    by_head : (none : Bool)
        → (list_all (λ number. nat_eq number 0) numbers ≡ true → list_any is_some numbers ≡ true → ⊥)
        → (none && list_all (λ number. nat_eq number 0) numbers) ≡ true
        → (not none || list_any is_some numbers) ≡ true → ⊥
    by_head true rest e some = rest e some
    by_head false rest e some = cc

module _ (g : Geometry) (image : Image) where
  abbrev content : Image
  content = content_in g image

  -- ---- a block that holds numbers

  module _ (pointer : ℕ) where
    module _ (numbers : List ℕ) (are : AreRowNumbers g image pointer numbers) where
      pub row_numbers : numbers_in content pointer ≡ numbers
      row_numbers =
          some_in content pointer (some_number g pointer are.lies)
          ∙ ap (numbers_at INDIRECT_INDEXES 0) (as_image g image pointer are.lies) ∙ sym are.are

      pub row_mapped : IsRowMapped g content pointer
      row_mapped = record {
        lies = λ i. some_number g pointer are.lies i || are.lies i;
        placed = ap (list_all (is_data_block_or_none g)) row_numbers ∙ are.placed;
        used = (λ i. some_number g pointer are.lies i || list_any is_some (row_numbers i)) ∙ are.some;
      }

    -- and back
    pub numbers_of_row : nat_eq pointer 0 ≡ false → IsRowMapped g content pointer
        → AreRowNumbers g image pointer (numbers_at INDIRECT_INDEXES 0 (image pointer))
    numbers_of_row some row =
        let lies = data_of (nat_eq pointer 0) (is_data g pointer) some row.lies in
        let inside : numbers_in content pointer ≡ numbers_at INDIRECT_INDEXES 0 (image pointer) =
        some_in content pointer some ∙ ap (numbers_at INDIRECT_INDEXES 0) (as_image g image pointer lies) in
        record {
          lies = lies;
          are = refl;
          placed = ap (list_all (is_data_block_or_none g)) (sym inside) ∙ row.placed;
          some =
              sym (ap (list_any is_some) inside)
              ∙ (λ i. sym some i || list_any is_some (numbers_in content pointer))
              ∙ row.used;
        }

  -- ---- the numbers that lie in no inner block

  module _ (inode : Inode) where
    -- without an indirect block they are its own, and zeros
    pub numbers_without_indirect : nat_eq inode.indirect 0 ≡ true
        → inode.direct ++ replicate INDIRECT_INDEXES 0 ≡ numbers_before_double content inode
    numbers_without_indirect none =
        sym (ap (λ l. inode.direct ++ l) (none_in content inode.indirect none
        ∙ ap (λ n. replicate n 0) (in_length content inode.indirect)))
