-- What a block is read as an indirect block is what it has the bytes of.
use Rattle.std.proofs.Common.{◌≡◌, ℕ, ◌+◌, ◌<◌, ◌^◌, sym, ap, ◌∙◌, refl, subst, true, false}
use Rattle.std.proofs.Common.{List, [], ◌∷◌, length, drop, arith}
use Rattle.std.specs.Int.{w32, from_le_bytes}
use Rattle.std.specs.List.{list_all, AllByRecursion}
use Rattle.std.proofs.lemmas.List.{drop-drop, take_all}
use Rattle.std.proofs.lemmas.Nat.{from_le_bytes-to_le_bytes_4}
use Rattle.base.specs.declared.TheConstants.{BLOCK_BYTES, INDIRECT_INDEXES}
use Rattle.nfs_types.specs.Fits.{AreBytes}
use Rattle.layout.specs.declared.geometry.Geometry.{Geometry}
use Rattle.layout.specs.Fields.{four_at, numbers_at, four_bytes, number_bytes}
use Rattle.layout.specs.InodeForm.{is_data_block_or_none}
use Rattle.layout.specs.NumbersForm.{IsNumbers}
use Rattle.layout.proofs.Fits.{numbers}
use Rattle.layout.proofs.NumbersAt.{numbers-length}
use Rattle.layout.proofs.Respelled.{numbers_back}

abbrev AreSmall : List ℕ → Type 0
AreSmall list = AllByRecursion (λ number. number < 2 ^ 32) list

-- numbers that were written from an offset on are read there
first_back : (n : ℕ) (list bytes : List ℕ) (from : ℕ) → n < 2 ^ 32
    → drop from bytes ≡ number_bytes (n ∷ list) → four_at from bytes ≡ n
unfolding four_at four_bytes
first_back n list bytes from small is = ap (from_le_bytes w32) is ∙ from_le_bytes-to_le_bytes_4 n small

others_back : (n : ℕ) (list bytes : List ℕ) (from : ℕ) → drop from bytes ≡ number_bytes (n ∷ list)
    → drop (from + 4) bytes ≡ number_bytes list
unfolding four_bytes
others_back n list bytes from is = sym (drop-drop 4 from bytes) ∙ ap (drop 4) is

written_back : (list bytes : List ℕ) (from : ℕ) → AreSmall list
    → drop from bytes ≡ number_bytes list → numbers_at (length list) from bytes ≡ list
unfolding numbers_at
written_back [] bytes from small is = refl
written_back (n ∷ list) bytes from small is =
    λ i. first_back n list bytes from small.0 is i
    ∷ written_back list bytes (from + 4) small.1 (others_back n list bytes from is) i

module _ (g : Geometry) (bytes : List ℕ) (are : AreBytes bytes) (long : length bytes ≡ BLOCK_BYTES) where
  abbrev all : List ℕ
  all = numbers_at INDIRECT_INDEXES 0 bytes

  pub are_numbers : (list : List ℕ) → list ≡ all
      → list_all (is_data_block_or_none g) list ≡ true → IsNumbers g bytes list
  are_numbers list is places = record {
    spelled = sym (ap number_bytes is ∙ numbers_back bytes are INDIRECT_INDEXES 0 (omega (arith, long))
        ∙ take_all BLOCK_BYTES bytes (omega (arith, long)));
    sound = record {
      count = ap (λ (l : List ℕ). length l) is ∙ numbers-length INDIRECT_INDEXES 0 bytes;
      small = subst AreSmall (sym is) (numbers bytes are INDIRECT_INDEXES 0);
      places = places;
    };
  }

  pub numbers_are : (list : List ℕ) → IsNumbers g bytes list → list ≡ all
  numbers_are list is = sym (ap (λ count. numbers_at count 0 bytes) (sym is.sound.count)
      ∙ written_back list bytes 0 is.sound.small is.spelled)

  pub refused : list_all (is_data_block_or_none g) all ≡ false
      → (list : List ℕ) → IsNumbers g bytes list → ⊥
  refused some_unplaced list is =
      let clash : true ≡ false = sym is.sound.places
      ∙ ap (list_all (is_data_block_or_none g)) (numbers_are list is) ∙ some_unplaced in cc
