-- Bytes that are read as an inode are those that the inode gets.
use Rattle.std.proofs.Common.{◌≡◌, ℕ, zero, suc, ◌+◌, ◌*◌, ◌≤◌, sym, ap, ◌∙◌, refl, Bool, true}
use Rattle.std.proofs.Common.{false, cond, ◌&&◌, ◌||◌, nat_eq, List, [], ◌∷◌, ◌++◌, length, take, drop}
use Rattle.std.proofs.Common.{replicate, Some, None, arith}
use Rattle.std.specs.Int.{w32, w64, from_le_bytes}
use Rattle.std.proofs.Math.Seq.{take-add}
use Rattle.std.proofs.lemmas.Bool.Decides.{nat_tests}
use Rattle.std.proofs.lemmas.List.{drop-drop, take_all}
use Rattle.std.proofs.lemmas.Nat.{le_bytes_4, le_bytes_8}
use Rattle.base.specs.declared.TheConstants.{DIRECT_INDEXES, INODE_BYTES}
use Rattle.nfs_types.specs.Fits.{AreBytes}
use Rattle.layout.specs.declared.inode.InodeKind.{InodeKind}
use Rattle.layout.specs.declared.inode.InodeKind.TheVariants.{Regular, Directory, Link}
use Rattle.layout.specs.Fields.{four_at, eight_at, numbers_at, four_bytes, eight_bytes, number_bytes, is_zeros}
use Rattle.layout.specs.InodeForm.{kind_of_number, number_of_kind, fields_of, rest_is_zero}
use Rattle.layout.specs.InodeForm.{verifier_at, verifier_bytes, time_at, time_bytes, header_bytes, middle_bytes}
use Rattle.layout.specs.InodeForm.{tail_bytes}
use Rattle.layout.specs.InodeForm.{inode_bytes}
use Rattle.layout.proofs.Fits.{part-length}
use Rattle.layout.proofs.WrittenBytes.{taken, dropped}

-- a number of 4 bytes is told by no more than these, and so one of 8
only_four : (xs : List ℕ) → from_le_bytes w32 xs ≡ from_le_bytes w32 (take 4 xs)
only_four [] = refl
only_four (a ∷ []) = refl
only_four (a ∷ b ∷ []) = refl
only_four (a ∷ b ∷ c ∷ []) = refl
only_four (a ∷ b ∷ c ∷ d ∷ rest) = refl

only_eight : (xs : List ℕ) → from_le_bytes w64 xs ≡ from_le_bytes w64 (take 8 xs)
only_eight [] = refl
only_eight (a ∷ []) = refl
only_eight (a ∷ b ∷ []) = refl
only_eight (a ∷ b ∷ c ∷ []) = refl
only_eight (a ∷ b ∷ c ∷ d ∷ []) = refl
only_eight (a ∷ b ∷ c ∷ d ∷ e ∷ []) = refl
only_eight (a ∷ b ∷ c ∷ d ∷ e ∷ f ∷ []) = refl
only_eight (a ∷ b ∷ c ∷ d ∷ e ∷ f ∷ g ∷ []) = refl
only_eight (a ∷ b ∷ c ∷ d ∷ e ∷ f ∷ g ∷ h ∷ rest) = refl

pub all_two : (a b : Bool) → (a && b) ≡ true → (a ≡ true) × (b ≡ true)
all_two true true e = (refl, refl)
all_two true false e = cc
all_two false b e = cc

pub all_three : (a b c : Bool) → (a && b && c) ≡ true → (a ≡ true) × (b ≡ true) × (c ≡ true)
all_three true true true e = (refl, refl, refl)
all_three _ _ _ e = cc

pub all_four : (a b c d : Bool) → (a && b && c && d) ≡ true
    → (a ≡ true) × (b ≡ true) × (c ≡ true) × (d ≡ true)
all_four true true true true e = (refl, refl, refl, refl)
all_four _ _ _ _ e = cc

pub same_number : (a b : ℕ) → nat_eq a b ≡ true → a ≡ b
same_number a b e = grind (arith, nat_tests)

module _ (bytes : List ℕ) (are : AreBytes bytes) where
  -- so many of the bytes, from an offset on
  abbrev pub part : ℕ → ℕ → List ℕ
  part from count = take count (drop from bytes)

  part_are : (from count : ℕ) → AreBytes (part from count)
  part_are from count = (taken count (dropped from (record { are = are }))).are

  pub first_four : (from : ℕ) → from + 4 ≤ length bytes → four_bytes (four_at from bytes) ≡ part from 4
  unfolding four_at four_bytes
  first_four from inside =
      le_bytes_4 (part from 4) (from_le_bytes w32 (drop from bytes)) (part-length 4 from bytes inside)
      (part_are from 4) (only_four (drop from bytes))

  pub first_eight : (from : ℕ) → from + 8 ≤ length bytes → eight_bytes (eight_at from bytes) ≡ part from 8
  unfolding eight_at eight_bytes
  first_eight from inside =
      le_bytes_8 (part from 8) (from_le_bytes w64 (drop from bytes)) (part-length 8 from bytes inside)
      (part_are from 8) (only_eight (drop from bytes))

  -- more of them
  pub more : (from count width : ℕ) → part from (count + width) ≡ part from count ++ part (from + count) width
  more from count width = take-add count width (drop from bytes)
      ∙ ap (λ l. part from count ++ take width l) (drop-drop count from bytes)

  pub numbers_back : (count from : ℕ) → from + 4 * count ≤ length bytes
      → number_bytes (numbers_at count from bytes) ≡ part from (4 * count)
  unfolding numbers_at
  numbers_back zero from inside = refl
  numbers_back (suc count) from inside =
      (λ i. first_four from (omega (arith, inside)) i
      ++ numbers_back count (from + 4) (omega (arith, inside)) i)
      ∙ sym (more from 4 (4 * count))
      ∙ ap (part from) (omega arith)

  pub followed : (from count width : ℕ) (so_far new : List ℕ) → so_far ≡ part from count
      → new ≡ part (from + count) width → so_far ++ new ≡ part from (count + width)
  followed from count width so_far new one two = (λ i. one i ++ two i) ∙ sym (more from count width)

  module _ (long : length bytes ≡ INODE_BYTES) where
    four : (at : ℕ) → at ≤ 124 → four_bytes (four_at at bytes) ≡ part at 4
    four at few = first_four at (omega (arith, few, long))

    eight : (at : ℕ) → at ≤ 120 → eight_bytes (eight_at at bytes) ≡ part at 8
    eight at few = first_eight at (omega (arith, few, long))

    zero_four : (at : ℕ) → at ≤ 124 → four_at at bytes ≡ 0 → four_bytes 0 ≡ part at 4
    zero_four at few none = ap four_bytes (sym none) ∙ four at few

    time : (at : ℕ) → at ≤ 120 → time_bytes (time_at at (at + 4) bytes) ≡ part at 8
    time at few = followed at 4 4 _ _ (four at (omega (arith, few))) (four (at + 4) (omega (arith, few)))

    head : (kind : InodeKind) → four_at 0 bytes ≡ number_of_kind kind → four_at 20 bytes ≡ 0
        → header_bytes (fields_of kind bytes) ≡ part 0 24
    unfolding fields_of header_bytes
    head kind is gap =
        followed 0 20 4 _ _
        (followed 0 16 4 _ _
        (followed 0 12 4 _ _
        (followed 0 8 4 _ _
        (followed 0 4 4 _ _ (ap four_bytes (sym is) ∙ four 0 (omega arith)) (four 4 (omega arith)))
        (four 8 (omega arith)))
        (four 12 (omega arith)))
        (four 16 (omega arith)))
        (zero_four 20 (omega arith) gap)

    middle : (kind : InodeKind) → middle_bytes (fields_of kind bytes) ≡ part 24 48
    unfolding fields_of middle_bytes
    middle kind =
        followed 24 40 8 _ _
        (followed 24 32 8 _ _
        (followed 24 24 8 _ _
        (followed 24 16 8 _ _
        (followed 24 8 8 _ _ (eight 24 (omega arith)) (time 32 (omega arith)))
        (time 40 (omega arith)))
        (time 48 (omega arith)))
        (eight 56 (omega arith)))
        (eight 64 (omega arith))

    -- the flags say whether there is a verifier, and where there is none its bytes are zeros
    verifier : (given : Bool) → nat_eq (four_at 76 bytes) 1 ≡ given
        → (given || nat_eq (four_at 76 bytes) 0 && nat_eq (eight_at 80 bytes) 0) ≡ true
        → verifier_bytes (cond given (Some (verifier_at 80 bytes)) None) ≡ part 76 12
    verifier true is rest =
        followed 76 4 8 _ _ (ap four_bytes (sym (same_number (four_at 76 bytes) 1 is)) ∙ four 76 (omega arith))
        refl
    verifier false is rest =
        let both = all_two (nat_eq (four_at 76 bytes) 0) (nat_eq (eight_at 80 bytes) 0) rest in
        followed 76 4 8 _ _ (zero_four 76 (omega arith) (same_number (four_at 76 bytes) 0 both.0))
        (ap eight_bytes (sym (same_number (eight_at 80 bytes) 0 both.1)) ∙ eight 80 (omega arith))

    tail : (kind : InodeKind)
        → (nat_eq (four_at 76 bytes) 1 || nat_eq (four_at 76 bytes) 0 && nat_eq (eight_at 80 bytes) 0) ≡ true
        → tail_bytes (fields_of kind bytes) ≡ part 72 56
    unfolding fields_of tail_bytes
    tail kind flags =
        followed 72 52 4 _ _
        (followed 72 48 4 _ _
        (followed 72 16 32 _ _
        (followed 72 4 12 _ _ (four 72 (omega arith)) (verifier (nat_eq (four_at 76 bytes) 1) refl flags))
        (numbers_back DIRECT_INDEXES 88 (omega (arith, long))))
        (four 120 (omega arith)))
        (four 124 (omega arith))

    pub spelled : (kind : InodeKind) → four_at 0 bytes ≡ number_of_kind kind → rest_is_zero bytes ≡ true
        → bytes ≡ inode_bytes (fields_of kind bytes)
    spelled kind is rest =
        let both = all_two (nat_eq (four_at 20 bytes) 0)
        (nat_eq (four_at 76 bytes) 1 || nat_eq (four_at 76 bytes) 0 && nat_eq (eight_at 80 bytes) 0) rest in
        sym (take_all INODE_BYTES bytes (omega (arith, long)))
        ∙ sym (followed 0 72 56 _ _
        (followed 0 24 48 _ _ (head kind is (same_number (four_at 20 bytes) 0 both.0)) (middle kind))
        (tail kind both.1))

-- the number of a kind
pub number_of : (number : ℕ) (kind : InodeKind) → kind_of_number number ≡ Some kind
    → number ≡ number_of_kind kind
number_of number kind e =
    by_tests (nat_eq number 1) (nat_eq number 2) (nat_eq number 5) refl refl refl e
  where
    by_tests : (one two five : Bool) → nat_eq number 1 ≡ one → nat_eq number 2 ≡ two → nat_eq number 5 ≡ five
        → cond one (Some Regular) (cond two (Some Directory) (cond five (Some Link) None)) ≡ Some kind
        → number ≡ number_of_kind kind
    by_tests true two five is _ _ e =
        let kind_is : Regular ≡ kind = cc in same_number number 1 is ∙ ap number_of_kind kind_is
    by_tests false true five _ is _ e =
        let kind_is : Directory ≡ kind = cc in same_number number 2 is ∙ ap number_of_kind kind_is
    by_tests false false true _ _ is e =
        let kind_is : Link ≡ kind = cc in same_number number 5 is ∙ ap number_of_kind kind_is
    by_tests false false false _ _ _ e = cc

-- nothing but zeros
pub all_zeros : (bytes : List ℕ) → is_zeros bytes ≡ true → bytes ≡ replicate (length bytes) 0
all_zeros [] e = refl
all_zeros (b ∷ bytes) e =
    let both = all_two (nat_eq b 0) (is_zeros bytes) e in
    λ i. same_number b 0 both.0 i ∷ all_zeros bytes both.1 i
