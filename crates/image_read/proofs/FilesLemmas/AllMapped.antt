-- A file is mapped where its parts are: the numbers that lie in no inner block, and each block that holds numbers.
use Rattle.std.proofs.Common.{◌≡◌, ℕ, suc, ◌<◌, sym, ap, ◌∙◌, refl, Bool, true, ◌||◌, ◌&&◌, List, [], ◌∷◌}
use Rattle.std.proofs.Common.{length, get_or, nat_eq, arith}
use Rattle.std.specs.List.{list_all, list_any}
use Rattle.std.proofs.lemmas.List.Folds.{list_all-append}
use Rattle.base.specs.declared.TheConstants.{INDIRECT_INDEXES}
use Rattle.disk.specs.Crash.{Image}
use Rattle.layout.specs.declared.geometry.Geometry.{Geometry}
use Rattle.layout.specs.declared.inode.Inode.{Inode}
use Rattle.layout.specs.Decode.{IsMapped, doubled_in, is_used_pointer, numbers_in}
use Rattle.layout.specs.InodeForm.{is_data_block_or_none}
use Rattle.layout.specs.Places.{is_data}
use Rattle.layout.proofs.FileNumbers.{all_pass, parts_pass, pass_pointers, pointers_pass}
use Rattle.layout.proofs.NumbersIn.{doubled_pass, in_length, no_double_pass, none_pass}
use Rattle.layout.proofs.Respelled.{all_two}
use Rattle.image_read.specs.Files.RowNumbers.{IsBelowMapped, IsMappedBeforeDouble, IsRowMapped}
use Rattle.image_read.proofs.FilesLemmas.Data.{each_passes, is_some}

all_each : (p : ℕ → Bool) (xs : List ℕ) → ((i : ℕ) → i < length xs → p (get_or xs i 0) ≡ true) → list_all p xs ≡ true
all_each p [] each = refl
all_each p (x ∷ xs) each =
    let here : p x ≡ true = each 0 (omega arith) in
    let rest : list_all p xs ≡ true = all_each p xs (λ i less. each (suc i) (omega (arith, less))) in
    λ i. here i && rest i

module _ (g : Geometry) (content : Image) where
  abbrev placed : ℕ → Bool
  placed = is_data_block_or_none g

  -- ---- a block that holds numbers

  module _ (pointer : ℕ) where
    pub no_row : nat_eq pointer 0 ≡ true → IsRowMapped g content pointer
    no_row none = record {
      lies = ap (λ b. b || is_data g pointer) none;
      placed = none_pass content pointer none placed refl;
      used = ap (λ b. b || list_any is_some (numbers_in content pointer)) none;
    }

  -- ---- what a double indirect block reaches

  module _ (double : ℕ) where
    pub no_below : nat_eq double 0 ≡ true → IsBelowMapped g content double
    no_below none = record {
      double_mapped = no_row double none;
      placed = no_double_pass content double none placed refl;
      used = none_pass content double none (is_used_pointer content) refl;
    }

    -- it is mapped where each inner block is
    pub rows_below : IsRowMapped g content double
        → ((i : ℕ) → i < INDIRECT_INDEXES → IsRowMapped g content (get_or (numbers_in content double) i 0))
        → IsBelowMapped g content double
    rows_below row rows =
        let long = in_length content double in
        record {
          double_mapped = row;
          placed =
              doubled_pass content double placed
              ∙ all_each (λ inner. list_all placed (numbers_in content inner)) (numbers_in content double)
              (λ i less. (rows i (omega (arith, less, long))).placed);
          used =
              all_each (is_used_pointer content) (numbers_in content double)
              (λ i less. (rows i (omega (arith, less, long))).used);
        }

    -- and back
    pub row_below : IsBelowMapped g content double → (i : ℕ) → i < INDIRECT_INDEXES
        → IsRowMapped g content (get_or (numbers_in content double) i 0)
    row_below below i less =
        let long = in_length content double in
        let within : i < length (numbers_in content double) = omega (arith, less, long) in
        record {
          lies = each_passes placed (numbers_in content double) i below.double_mapped.placed within;
          placed =
              each_passes (λ inner. list_all placed (numbers_in content inner)) (numbers_in content double) i
              (sym (doubled_pass content double placed) ∙ below.placed) within;
          used = each_passes (is_used_pointer content) (numbers_in content double) i below.used within;
        }

  -- ---- a file

  module _ (inode : Inode) where
    pub mapped_before_double : list_all placed inode.direct ≡ true → IsRowMapped g content inode.indirect
        → IsMappedBeforeDouble g content inode
    mapped_before_double direct_part row = record {
      indirect = row.lies;
      numbers =
          list_all-append placed inode.direct (numbers_in content inode.indirect)
          ∙ (λ i. direct_part i && row.placed i);
      used = row.used;
    }

    module _ (mapped : IsMappedBeforeDouble g content inode) where
      both_mapped : (list_all placed inode.direct ≡ true) × (list_all placed (numbers_in content inode.indirect) ≡ true)
      both_mapped = all_two (list_all placed inode.direct) (list_all placed (numbers_in content inode.indirect))
          (sym (list_all-append placed inode.direct (numbers_in content inode.indirect)) ∙ mapped.numbers)

      pub mapped_direct : list_all placed inode.direct ≡ true
      mapped_direct = both_mapped.0

      pub mapped_row : IsRowMapped g content inode.indirect
      mapped_row = record { lies = mapped.indirect; placed = both_mapped.1; used = mapped.used }

      -- all of it is mapped, if what the double indirect block reaches is too
      pub all_mapped : IsBelowMapped g content inode.double → IsMapped g content inode
      all_mapped below = record {
        pointers =
            pass_pointers content inode placed mapped.indirect below.double_mapped.lies below.double_mapped.placed;
        numbers = all_pass content inode placed both_mapped.0 both_mapped.1 below.placed;
        used =
            pass_pointers content inode (is_used_pointer content) mapped.used below.double_mapped.used below.used;
      }

    -- and back
    module _ (mapped : IsMapped g content inode) where
      parts : (list_all placed inode.direct ≡ true) × (list_all placed (numbers_in content inode.indirect) ≡ true)
          × (list_all placed (doubled_in content inode.double) ≡ true)
      parts = parts_pass content inode placed mapped.numbers

      pointers : (placed inode.indirect ≡ true) × (placed inode.double ≡ true)
          × (list_all placed (numbers_in content inode.double) ≡ true)
      pointers = pointers_pass content inode placed mapped.pointers

      used : (is_used_pointer content inode.indirect ≡ true) × (is_used_pointer content inode.double ≡ true)
          × (list_all (is_used_pointer content) (numbers_in content inode.double) ≡ true)
      used = pointers_pass content inode (is_used_pointer content) mapped.used

      pub before_double_of_mapped : IsMappedBeforeDouble g content inode
      before_double_of_mapped =
          mapped_before_double parts.0 (record { lies = pointers.0; placed = parts.1; used = used.0 })

      pub below_of_mapped : IsBelowMapped g content inode.double
      below_of_mapped = record {
        double_mapped = record { lies = pointers.1; placed = pointers.2; used = used.1 };
        placed = parts.2;
        used = used.2;
      }
