-- Numbers that were written in a block are read there.
use Rattle.std.proofs.Common.{◌≡◌, ℕ, ◌+◌, ◌<◌, ◌^◌, sym, ap, ◌∙◌, refl, Bool, true, false, cond, ◌||◌}
use Rattle.std.proofs.Common.{List, [], ◌∷◌, length, drop, nat_eq, replicate, arith}
use Rattle.std.specs.Int.{w32, from_le_bytes}
use Rattle.std.specs.List.{AllByRecursion, list_all}
use Rattle.std.proofs.lemmas.Bool.{eq-eqb}
use Rattle.std.proofs.lemmas.List.{drop-drop}
use Rattle.std.proofs.lemmas.Nat.{from_le_bytes-to_le_bytes_4}
use Rattle.base.specs.declared.TheConstants.{INDIRECT_INDEXES}
use Rattle.disk.specs.Crash.{Image}
use Rattle.layout.specs.declared.geometry.Geometry.{Geometry}
use Rattle.layout.specs.Decode.{is_used_pointer, numbers_in}
use Rattle.layout.specs.Fields.{four_at, four_bytes, number_bytes, numbers_at}
use Rattle.layout.specs.InodeForm.{is_data_block_or_none}
use Rattle.layout.specs.Parts.{put}
use Rattle.layout.specs.Places.{is_data}
use Rattle.layout.proofs.NumbersIn.{in_length, none_in, some_in}
use Rattle.layout.proofs.OnGrid.{data_within}
use Rattle.layout.proofs.Written.{not_same}
use Rattle.inode.proofs.AllTests.{all_two, same_number}
use Rattle.inode_data.proofs.Owned.{put_here}
use Rattle.inode_sizes.specs.Cut.{has_some, left_over, with_numbers, with_zeros, zeroed}
use Rattle.inode_sizes.proofs.CutNumbers.{are_zeros, none_some}

abbrev pub AreSmall : List ℕ → Type 0
AreSmall list = AllByRecursion (λ number. number < 2 ^ 32) list

first_back : (n : ℕ) (list bytes : List ℕ) (from : ℕ) → n < 2 ^ 32 → drop from bytes ≡ number_bytes (n ∷ list)
    → four_at from bytes ≡ n
unfolding four_at four_bytes
first_back n list bytes from small is = ap (from_le_bytes w32) is ∙ from_le_bytes-to_le_bytes_4 n small

others_back : (n : ℕ) (list bytes : List ℕ) (from : ℕ) → drop from bytes ≡ number_bytes (n ∷ list)
    → drop (from + 4) bytes ≡ number_bytes list
unfolding four_bytes
others_back n list bytes from is = sym (drop-drop 4 from bytes) ∙ ap (drop 4) is

written_back : (list bytes : List ℕ) (from : ℕ) → AreSmall list → drop from bytes ≡ number_bytes list
    → numbers_at (length list) from bytes ≡ list
unfolding numbers_at
written_back [] bytes from small is = refl
written_back (n ∷ list) bytes from small is =
    λ i. first_back n list bytes from small.0 is i
    ∷ written_back list bytes (from + 4) small.1 (others_back n list bytes from is) i

-- ---- what is placed is small

module _ (g : Geometry) where
  pub small_one : (none : Bool) (b : ℕ) → nat_eq b 0 ≡ none → (none || is_data g b) ≡ true → b < 2 ^ 32
  small_one true b none is = let same = same_number b 0 none in omega (arith, same)
  small_one false b some is =
      let low = (data_within g b is).1 in let most = g.lawful.0.1 in omega (arith, low, most)

  pub small_all : (xs : List ℕ) → list_all (is_data_block_or_none g) xs ≡ true → AreSmall xs
  small_all [] all = tt
  small_all (x ∷ xs) all =
      let both = all_two (is_data_block_or_none g x) (list_all (is_data_block_or_none g) xs) all in
      (small_one (nat_eq x 0) x refl both.0, small_all xs both.1)

  -- they are read where the block is written, and where there is neither a block nor one of them
  pub read_back : (after : Image) (b : ℕ) (stay : List ℕ) → length stay ≡ INDIRECT_INDEXES
      → list_all (is_data_block_or_none g) stay ≡ true
      → (nat_eq b 0 ≡ false → after b ≡ number_bytes stay)
      → (nat_eq b 0 ≡ true → has_some stay ≡ false) → numbers_in after b ≡ stay
  read_back after b stay long placed written none = by_test (nat_eq b 0) refl
    where
      by_test : (t : Bool) → nat_eq b 0 ≡ t → numbers_in after b ≡ stay
      by_test true e =
          none_in after b e
          ∙ ap (λ m. replicate {A = ℕ} m 0) (in_length after b ∙ sym long)
          ∙ sym (are_zeros stay (λ q inside. none_some stay (none e) q))
      by_test false e =
          some_in after b e ∙ ap (numbers_at INDIRECT_INDEXES 0) (written e)
          ∙ ap (λ m. numbers_at m 0 (number_bytes stay)) (sym long)
          ∙ written_back stay (number_bytes stay) 0 (small_all stay placed) refl

-- ---- a block that stays where one of its numbers does

not_both : (b : ℕ) → b ≡ 0 → nat_eq b 0 ≡ false → ⊥
not_both b is some = let clash : true ≡ false = sym (eq-eqb b 0 is) ∙ some in cc

module _ (pointer now : ℕ) (stay : List ℕ) (is : now ≡ left_over pointer stay) where
  pub left_over_some : nat_eq now 0 ≡ false → pointer ≡ now
  left_over_some some = by_test (has_some stay) is
    where
      by_test : (t : Bool) → now ≡ cond t pointer 0 → pointer ≡ now
      by_test true e = sym e
      by_test false e = absurd (not_both now e some)

  pub left_over_any : nat_eq now 0 ≡ false → has_some stay ≡ true
  left_over_any some = by_test (has_some stay) is
    where
      by_test : (t : Bool) → now ≡ cond t pointer 0 → t ≡ true
      by_test true e = refl
      by_test false e = absurd (not_both now e some)

  pub left_over_none : (nat_eq pointer 0 ≡ true → has_some stay ≡ false) → nat_eq now 0 ≡ true → has_some stay ≡ false
  left_over_none empty none = by_test (has_some stay) refl is
    where
      by_test : (t : Bool) → has_some stay ≡ t → now ≡ cond t pointer 0 → has_some stay ≡ false
      by_test true e same = empty (ap (λ x. nat_eq x 0) (sym same) ∙ none)
      by_test false e same = e

-- it is what it was, or none
pub left_over_passes : (test : ℕ → Bool) (pointer now : ℕ) (stay : List ℕ) → test 0 ≡ true → now ≡ left_over pointer stay
    → test pointer ≡ true → test now ≡ true
left_over_passes test pointer now stay none same is = by_test (has_some stay) same
  where
    by_test : (t : Bool) → now ≡ cond t pointer 0 → test now ≡ true
    by_test true e = ap test e ∙ is
    by_test false e = ap test e ∙ none

-- it is used, where it has those numbers
pub used_one : (after : Image) (b : ℕ) (stay : List ℕ) → numbers_in after b ≡ stay
    → (nat_eq b 0 ≡ false → has_some stay ≡ true) → is_used_pointer after b ≡ true
used_one after b stay are any = by_test (nat_eq b 0) refl
  where
    by_test : (t : Bool) → nat_eq b 0 ≡ t → (t || has_some (numbers_in after b)) ≡ true
    by_test true e = refl
    by_test false e = ap has_some are ∙ any e

-- ---- a block that is written, and the others

module _ (content : Image) (number : ℕ) where
  module _ (numbers : List ℕ) where
    pub numbers_else : (b : ℕ) → (nat_eq number 0 ≡ false → b ≡ number → ⊥)
        → with_numbers content number numbers b ≡ content b
    numbers_else b not = by_test (nat_eq number 0) refl
      where
        by_test : (t : Bool) → nat_eq number 0 ≡ t
            → cond t content (put content number (number_bytes numbers)) b ≡ content b
        by_test true e = refl
        by_test false e = ap (λ t. cond t (number_bytes numbers) (content b)) (not_same b number (not e))

    pub numbers_here : nat_eq number 0 ≡ false → with_numbers content number numbers number ≡ number_bytes numbers
    numbers_here some =
        ap (λ t. cond t content (put content number (number_bytes numbers)) number) some
        ∙ put_here content number (number_bytes numbers)

  module _ (from : ℕ) where
    pub zeros_else : (b : ℕ) → (nat_eq number 0 ≡ false → b ≡ number → ⊥)
        → with_zeros content number from b ≡ content b
    zeros_else b not = by_test (nat_eq number 0) refl
      where
        by_test : (t : Bool) → nat_eq number 0 ≡ t
            → cond t content (put content number (zeroed from (content number))) b ≡ content b
        by_test true e = refl
        by_test false e = ap (λ t. cond t (zeroed from (content number)) (content b)) (not_same b number (not e))

    pub zeros_here : nat_eq number 0 ≡ false → with_zeros content number from number ≡ zeroed from (content number)
    zeros_here some =
        ap (λ t. cond t content (put content number (zeroed from (content number))) number) some
        ∙ put_here content number (zeroed from (content number))
