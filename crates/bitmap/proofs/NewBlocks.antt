-- A clear bit of the bitmap of blocks is that of a block that is free and wasn't taken, and where none is clear
-- all that were free are taken.
use Rattle.std.proofs.Common.{◌≡◌, ℕ, zero, suc, ◌+◌, ◌*◌, ◌<◌, ◌≤◌, inl, inr, sym, ap, ◌∙◌, refl, subst}
use Rattle.std.proofs.Common.{Bool, true, false, cond, not, List, [], ◌∷◌, length}
use Rattle.std.proofs.Common.{◌||◌, ◌&&◌, nat_eq, nat_lt, nat_le, sum_by, Option, Some, None, arith}
use Rattle.std.specs.List.{AllByRecursion, list_any, range_with_len}
use Rattle.std.proofs.lemmas.Bool.{cases_eq, eq-eqb, lt-ltb, leb-false}
use Rattle.std.proofs.lemmas.Bool.Decides.{nat_tests}
use Rattle.std.proofs.lemmas.List.Sums.{sum_by-cons}
use Rattle.base.specs.declared.TheConstants.{BITS_PER_BLOCK, FIRST_HOME_BLOCK}
use Rattle.disk.specs.Crash.{Image}
use Rattle.nfs_spec.specs.Model.Tree.{Tree, free}
use Rattle.layout.specs.declared.geometry.Geometry.{Geometry}
use Rattle.layout.specs.Geometry.{bitmap_blocks, data_at}
use Rattle.layout.specs.Holds.{Holds}
use Rattle.layout.specs.Owners.{owned}
use Rattle.layout.specs.Parts.{Parts, bit_at, parts_of, put}
use Rattle.layout.specs.Places.{is_data}
use Rattle.layout.proofs.OnGrid.{data_within}
use Rattle.layout.proofs.Written.{not_same}
use Rattle.inode.proofs.WriteSetsLemmas.Marks.{unmarked_is_free, times}
use Rattle.bitmap.specs.Bits.{IsClearOf, MarksBlock}
use Rattle.bitmap.specs.NewBlock.{HasTaken, IsFreeBlock, IsNewBlock, marking}
use Rattle.bitmap.proofs.FreeBits.{free_blocks}
use Rattle.bitmap.proofs.Ranges.{met_once, one_if}

-- ---- sums

no_more : (f h : ℕ → ℕ) (a k : ℕ) → ((n : ℕ) → n < a + k → f n ≤ h n)
    → sum_by f (range_with_len a k) ≤ sum_by h (range_with_len a k)
no_more f h a zero less = omega arith
no_more f h a (suc k) less =
    let here = less a (omega arith) in
    let one = sum_by-cons f a (range_with_len (a + 1) k) in
    let two = sum_by-cons h a (range_with_len (a + 1) k) in
    let rest = no_more f h (a + 1) k (λ n low. less n (omega (arith, low))) in
    omega (arith, here, one, two, rest)

none_of : (a b c : Bool) → (a || b || c) ≡ false → (a ≡ false) × (b ≡ false) × (c ≡ false)
none_of true b c e = cc
none_of false true c e = cc
none_of false false true e = cc
none_of false false false e = (refl, refl, refl)

-- ---- bits that were set one after another

one_first : (b x : ℕ) (xs : List ℕ) → times b (x ∷ xs) ≡ cond (nat_eq x b) 1 0 + times b xs
one_first b x xs = sum_by-cons (λ one. cond (nat_eq one b) 1 0) x xs

pub marking_others : (taken : List ℕ) (bits : ℕ → Bool) (b : ℕ) → times b taken ≡ 0
    → marking taken bits b ≡ bits b
marking_others [] bits b none = refl
marking_others (x ∷ xs) bits b none = elim (cases_eq x b) [
  | inl is ↦ (let more = one_first b x xs in
      let some = ap {B = ℕ} (λ (t : Bool). cond t 1 0) (eq-eqb x b is) in
      absurd (omega (arith, none, more, some)))
  | inr not ↦ ap (λ t. cond t true (marking xs bits b)) (not_same b x (λ same. not (sym same)))
      ∙ marking_others xs bits b (let more = one_first b x xs in omega (arith, none, more))
]

pub marking_them : (taken : List ℕ) (bits : ℕ → Bool) (b : ℕ) → 1 ≤ times b taken
    → marking taken bits b ≡ true
marking_them [] bits b some = absurd (omega (arith, some))
marking_them (x ∷ xs) bits b some = elim (cases_eq x b) [
  | inl is ↦ ap (λ t. cond t true (marking xs bits b)) (eq-eqb b x (sym is))
  | inr not ↦ ap (λ t. cond t true (marking xs bits b)) (not_same b x (λ same. not (sym same)))
      ∙ marking_them xs bits b
      (let more = one_first b x xs in let none = ap {B = ℕ} (λ (t : Bool). cond t 1 0) (not_same x b not) in
      omega (arith, some, more, none))
]

-- a bit that is clear then was clear, and isn't one of them
still_unmarked : (taken : List ℕ) (bits : ℕ → Bool) (b : ℕ) → marking taken bits b ≡ false
    → (bits b ≡ false) × (times b taken ≡ 0)
still_unmarked taken bits b clear = by_count (times b taken) refl
  where
    by_count : (k : ℕ) → times b taken ≡ k → (bits b ≡ false) × (times b taken ≡ 0)
    by_count zero e = (sym (marking_others taken bits b e) ∙ clear, e)
    by_count (suc k) e =
        let clash : true ≡ false = sym (marking_them taken bits b (omega (arith, e))) ∙ clear in cc

-- what is true of each number of a list is true of one that is in it
pub of_each : (P : ℕ → Type 0) (xs : List ℕ) (b : ℕ) → AllByRecursion P xs → 1 ≤ times b xs → P b
of_each P [] b all some = absurd (omega (arith, some))
of_each P (x ∷ xs) b all some = elim (cases_eq x b) [
  | inl is ↦ subst P is all.0
  | inr not ↦ of_each P xs b all.1
      (let more = one_first b x xs in let none = ap {B = ℕ} (λ (t : Bool). cond t 1 0) (not_same x b not) in
      omega (arith, some, more, none))
]

all_low : (g : Geometry) (base : Image) (xs : List ℕ) → AllByRecursion (IsFreeBlock g base) xs
    → AllByRecursion (λ b. b < BITS_PER_BLOCK * bitmap_blocks g.blocks) xs
all_low g base [] all = tt
all_low g base (x ∷ xs) all = (
  let within = (data_within g x all.0.lies).1 in omega (arith, within),
  all_low g base xs all.1,
)

module _ (g : Geometry) (base : Image) (tree : Tree) (taken : List ℕ) (image : Image)
    (has : HasTaken g base tree taken image) where
  abbrev parts : Parts
  parts = parts_of g base

  abbrev bits : ℕ
  bits = BITS_PER_BLOCK * bitmap_blocks g.blocks

  -- the image's bit, by the base's
  bit_is : (n : ℕ) → n < bits → bit_at image FIRST_HOME_BLOCK n ≡ marking taken parts.block_bits n
  bit_is n less =
      ap (λ b. b && bit_at image FIRST_HOME_BLOCK n) (sym (lt-ltb n bits less))
      ∙ ap (λ (p : Parts). p.block_bits n) has.parts

  base_is : (n : ℕ) → n < bits → parts.block_bits n ≡ bit_at base FIRST_HOME_BLOCK n
  base_is n less = ap (λ b. b && bit_at base FIRST_HOME_BLOCK n) (lt-ltb n bits less)

  lies : (n : ℕ) → n < bits → parts.block_bits n ≡ false → is_data g n ≡ true
  lies n less clear =
      let none = none_of (nat_lt n (data_at g.blocks g.inodes)) (nat_le g.blocks n)
      (list_any (λ one. nat_eq one n) (owned g parts))
      (sym (has.holds.parts.marked.blocks_marked n less) ∙ clear) in
      λ i. past n (data_at g.blocks g.inodes) none.0 i && lt-ltb n g.blocks (leb-false g.blocks n none.1) i
    where
      past : (a b : ℕ) → nat_lt a b ≡ false → nat_le b a ≡ true
      past a b is = grind (arith, nat_tests)

  found : (n : ℕ) → n < bits → bit_at image FIRST_HOME_BLOCK n ≡ false
      → IsFreeBlock g base n × (times n taken ≡ 0)
  found n less clear =
      let is = still_unmarked taken parts.block_bits n (sym (bit_is n less) ∙ clear) in (
        record {
          lies = lies n less is.0;
          clear = is.0;
          unowned = unmarked_is_free g parts n has.holds.parts.marked less is.0;
        },
        is.1,
      )

  -- each bit that was clear is that of one that was taken
  none_left : ((n : ℕ) → n < bits → bit_at image FIRST_HOME_BLOCK n ≡ true) → free tree ≤ length taken
  none_left set =
      let counted = no_more (λ n. one_if (not (bit_at base FIRST_HOME_BLOCK n))) (λ n. times n taken) 0 bits each in
      let met = met_once bits taken (all_low g base taken has.were_free) in
      let all = free_blocks g base tree has.holds in
      omega (arith, counted, met, all)
    where
      of_bit : (n : ℕ) (b : Bool) → bit_at base FIRST_HOME_BLOCK n ≡ b → n < bits
          → one_if (not b) ≤ times n taken
      of_bit n true is less = omega arith
      of_bit n false is less = some (times n taken) refl
        where
          some : (k : ℕ) → times n taken ≡ k → 1 ≤ k
          some zero e =
              let clash : true ≡ false =
              sym (set n less) ∙ bit_is n less ∙ marking_others taken parts.block_bits n e
              ∙ base_is n less ∙ is in cc
          some (suc k) e = omega arith

      each : (n : ℕ) → n < 0 + bits → one_if (not (bit_at base FIRST_HOME_BLOCK n)) ≤ times n taken
      each n less = of_bit n (bit_at base FIRST_HOME_BLOCK n) refl (omega (arith, less))

  pub new_block : (one : Option ℕ) → IsClearOf image FIRST_HOME_BLOCK (bitmap_blocks g.blocks) one
      → IsNewBlock g base tree taken one
  new_block (Some n) clear = found n clear.0 clear.1
  new_block None none = none_left none

  -- a clear bit is never that of a block that is no data block
  pub none_else : (n : ℕ) → IsClearOf image FIRST_HOME_BLOCK (bitmap_blocks g.blocks) (Some n)
      → is_data g n ≡ false → ⊥
  none_else n clear isnt =
      let clash : true ≡ false = sym (found n clear.0 clear.1).0.lies ∙ isnt in cc

  -- one block more that was free is marked
  pub taken_more : (n : ℕ) (next : Image) → IsNewBlock g base tree taken (Some n)
      → MarksBlock g n true image next → HasTaken g base tree (n ∷ taken) next
  taken_more n next new marks = record {
    holds = has.holds;
    bytes = marks.bytes has.bytes;
    parts = marks.parts ∙ (λ i. record (has.parts i) { block_bits = put (has.parts i).block_bits n true });
    were_free = (new.0, has.were_free);
    once = λ b. elim (cases_eq n b) [
      | inl is ↦ (let more = one_first b n taken in
          let one = ap {B = ℕ} (λ (t : Bool). cond t 1 0) (eq-eqb n b is) in
          let none = subst (λ k. times k taken ≡ 0) is new.1 in
          omega (arith, more, one, none))
      | inr not ↦ (let more = one_first b n taken in
          let none = ap {B = ℕ} (λ (t : Bool). cond t 1 0) (not_same n b not) in
          let rest = has.once b in
          omega (arith, more, none, rest))
    ];
  }

-- at first nothing was taken
pub none_taken : (g : Geometry) (base : Image) (tree : Tree) → Holds g base tree → HasTaken g base tree [] base
none_taken g base tree holds = record {
  holds = holds;
  bytes = λ number low. (holds.bytes number low).1;
  parts = refl;
  were_free = tt;
  once = λ number. omega arith;
}
