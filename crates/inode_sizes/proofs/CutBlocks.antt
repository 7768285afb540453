-- Blocks of which one got other bytes.
use Rattle.std.proofs.Common.{◌≡◌, ℕ, zero, suc, ◌-◌, ◌<◌, ◌≤◌, sym, ap, ◌∙◌, refl, subst, Bool, true, false}
use Rattle.std.proofs.Common.{cond, List, [], ◌∷◌, ◌++◌, length, take, replicate, nat_eq, append-nil, Some, Ok, arith}
use Rattle.std.specs.Int.{w32, to_le_bytes}
use Rattle.std.proofs.lemmas.Bool.{eq-eqb}
use Rattle.std.proofs.lemmas.List.{take_all}
use Rattle.base.specs.declared.TheConstants.{BLOCK_BYTES}
use Rattle.disk.specs.Crash.{Image}
use Rattle.nfs_types.specs.Fits.{AreBytes}
use Rattle.layout.specs.declared.geometry.Geometry.{Geometry}
use Rattle.layout.specs.declared.inode.Inode.{Inode}
use Rattle.layout.specs.Fields.{four_bytes, number_bytes}
use Rattle.layout.specs.InodeForm.{SoundInode, is_data_block_or_none}
use Rattle.layout.specs.Parts.{content_in, parts_of, put, with_bytes, with_inode}
use Rattle.layout.specs.Places.{is_data}
use Rattle.layout.proofs.FreshBytes.{fours}
use Rattle.layout.proofs.OnGrid.{data_within}
use Rattle.layout.proofs.WrittenBytes.{taken}
use Rattle.inode.proofs.AllTests.{same_number}
use Rattle.inode.proofs.InodeThere.{data_of}
use Rattle.bitmap.specs.Bits.{AreOfBytes}
use Rattle.inode_data.proofs.ImageWritten.{AreBlocks, block_parts, blocks_preserved, inode_preserved, inode_parts}
use Rattle.bitmap.specs.Inodes.Frees.{Frees, without}
use Rattle.inode_sizes.specs.Cut.{with_numbers, with_zeros, zeroed}
use Rattle.inode_sizes.specs.CutBlocks.{HasNumbers, HasPointers, HasZeros, IsCut, with_pointers}
use Rattle.inode_sizes.specs.declared.cuts.CutPointers.{CutPointers}

-- ---- bytes

zeros : (n : ℕ) → AreBytes (replicate n 0)
zeros zero index = omega arith
zeros (suc n) zero = omega arith
zeros (suc n) (suc index) = zeros n index

both : (xs ys : List ℕ) → AreBytes xs → AreBytes ys → AreBytes (xs ++ ys)
both [] ys first rest index = rest index
both (x ∷ xs) ys first rest zero = first 0
both (x ∷ xs) ys first rest (suc index) = both xs ys (λ i. first (suc i)) rest index

pub zeroed_are : (from : ℕ) (bytes : List ℕ) → AreBytes bytes → AreBytes (zeroed from bytes)
zeroed_are from bytes are =
    both (take from bytes) (replicate (BLOCK_BYTES - from) 0) (taken from (record { are = are })).are
    (zeros (BLOCK_BYTES - from))

-- the bytes of a number, as they are written
pub four_is : (number : ℕ) (bytes : List ℕ) → bytes ≡ to_le_bytes w32 number → bytes ≡ four_bytes number
unfolding four_bytes
four_is number bytes is = is

pub four-length : (number : ℕ) → length (four_bytes number) ≡ 4
unfolding four_bytes
four-length number = refl

-- ---- nothing is written

pub same_zeros : (g : Geometry) (number from : ℕ) (image : Image) → number ≡ 0
    → HasZeros g number from image image
same_zeros g number from image is = record {
  bytes = λ are. are;
  parts = λ i. record (parts_of g image) {
    content = sym (ap (λ t. cond t (content_in g image)
        (put (content_in g image) number (zeroed from (content_in g image number)))) (eq-eqb number 0 is)) i;
  };
}

pub whole_zeros : (g : Geometry) (number from : ℕ) (image : Image) → BLOCK_BYTES ≤ from → from ≤ BLOCK_BYTES
    → length (content_in g image number) ≡ BLOCK_BYTES → HasZeros g number from image image
whole_zeros g number from image past most long = record {
  bytes = λ are. are;
  parts = λ i. record (parts_of g image) { content = λ b. one (nat_eq number 0) b i };
}
  where
    same : zeroed from (content_in g image number) ≡ content_in g image number
    same =
        (λ i. take_all from (content_in g image number) (omega (arith, past, long)) i
        ++ replicate {A = ℕ} (none i) 0)
        ∙ append-nil (content_in g image number)
      where
        none : BLOCK_BYTES - from ≡ 0
        none = omega (arith, past)

    at : (b : ℕ) (t : Bool) → nat_eq b number ≡ t → content_in g image b
        ≡ cond t (zeroed from (content_in g image number)) (content_in g image b)
    at b true is = ap (content_in g image) (same_number b number is) ∙ sym same
    at b false is = refl

    one : (t : Bool) (b : ℕ) → content_in g image b
        ≡ cond t (content_in g image) (put (content_in g image) number (zeroed from (content_in g image number))) b
    one true b = refl
    one false b = at b (nat_eq b number) refl

pub same_numbers : (g : Geometry) (number : ℕ) (numbers : List ℕ) (image : Image) → number ≡ 0
    → HasNumbers g number numbers image image
same_numbers g number numbers image is = record {
  bytes = λ are. are;
  parts = λ i. record (parts_of g image) {
    content = sym (ap (λ t. cond t (content_in g image) (put (content_in g image) number (number_bytes numbers)))
        (eq-eqb number 0 is)) i;
  };
}

-- ---- a block is written

module _ (g : Geometry) (number : ℕ) (image new : Image) (bytes : List ℕ) (some : nat_eq number 0 ≡ false)
    (placed : is_data_block_or_none g number ≡ true) (are : AreBlocks g image)
    (size : length bytes ≡ BLOCK_BYTES) (is : new ≡ with_bytes image number 0 bytes) where
  lies : is_data g number ≡ true
  lies = data_of (nat_eq number 0) (is_data g number) some placed

  left_over : AreBytes bytes → AreOfBytes g new
  left_over bytes_are q low = subst (λ (blocks : Image). AreBytes (blocks q)) (sym is)
      (blocks_preserved g image number bytes are lies size bytes_are q low).1

  written : parts_of g new ≡ record (parts_of g image) { content = put (content_in g image) number bytes }
  written = ap (parts_of g) is ∙ block_parts g image number bytes are lies size

  there : content_in g image number ≡ image number
  there = ap (λ t. cond t (image number) (replicate BLOCK_BYTES 0)) lies

  pub zeros_put : (from : ℕ) → bytes ≡ zeroed from (content_in g image number)
      → HasZeros g number from image new
  zeros_put from same = record {
    bytes = λ old. left_over (subst AreBytes (sym same)
        (zeroed_are from (content_in g image number) (subst AreBytes (sym there)
        (are number (data_within g number lies).1).1)));
    parts = written ∙ (λ i. record (parts_of g image) {
      content = (ap (put (content_in g image) number) same
          ∙ sym (ap (λ t. cond t (content_in g image)
          (put (content_in g image) number (zeroed from (content_in g image number)))) some)) i;
    });
  }

  pub numbers_put : (numbers : List ℕ) → bytes ≡ number_bytes numbers → HasNumbers g number numbers image new
  numbers_put numbers same = record {
    bytes = λ old. left_over (subst AreBytes (sym same) (fours numbers).are);
    parts = written ∙ (λ i. record (parts_of g image) {
      content = (ap (put (content_in g image) number) same
          ∙ sym (ap (λ t. cond t (content_in g image) (put (content_in g image) number (number_bytes numbers)))
          some)) i;
    });
  }

-- ---- all of them

pub all_pointers : (g : Geometry) (cut : CutPointers) (first second third final : Image)
    → HasNumbers g cut.indirect_part.pointer cut.indirect_part.numbers.items first second
    → HasNumbers g cut.double.inners.part cut.double.inners.part_numbers.items second third
    → HasNumbers g cut.double.pointer cut.double.inners.numbers.items third final
    → HasPointers g cut first final
all_pointers g cut first second third final indirect_part part double = record {
  bytes = λ old. double.bytes (part.bytes (indirect_part.bytes old));
  parts = double.parts
      ∙ (λ i. record (part.parts i) {
        content = with_numbers (part.parts i).content cut.double.pointer cut.double.inners.numbers.items;
      })
      ∙ (λ i. record (indirect_part.parts i) {
        content = with_numbers (with_numbers (indirect_part.parts i).content cut.double.inners.part
            cut.double.inners.part_numbers.items) cut.double.pointer cut.double.inners.numbers.items;
      });
}

pub all_cut : (g : Geometry) (n : ℕ) (inode : Inode) (last from : ℕ) (cut : CutPointers)
    (first second third fourth final : Image) → n < g.inodes → SoundInode g inode → AreOfBytes g first
    → HasZeros g last from first second → HasPointers g cut second third
    → Frees g cut.gone.items third fourth → ((q : ℕ) → q < g.blocks → length (fourth q) ≡ BLOCK_BYTES)
    → final ≡ with_inode g fourth n inode → IsCut g n inode last from cut first final
all_cut g n inode last from cut first second third fourth final less sound old zeros pointers frees long is =
    record {
      bytes = λ still q low. subst (λ (image : Image). AreBytes (image q)) (sym is)
          (inode_preserved g fourth n inode are less sound q low).1;
      parts = ap (parts_of g) is ∙ inode_parts g fourth n inode are less sound
          ∙ (λ i. record (before i) { table = put (before i).table n (Ok (Some inode)) });
    }
  where
    are : AreBlocks g fourth
    are q low = (long q low, frees.bytes (pointers.bytes (zeros.bytes old)) q low)

    before : parts_of g fourth ≡ record (parts_of g first) {
      content = with_pointers (with_zeros (content_in g first) last from) cut;
      block_bits = without cut.gone.items (parts_of g first).block_bits;
    }
    before =
        frees.parts
        ∙ (λ i. record (pointers.parts i) { block_bits = without cut.gone.items (pointers.parts i).block_bits })
        ∙ (λ i. record (zeros.parts i) {
          content = with_pointers (zeros.parts i).content cut;
          block_bits = without cut.gone.items (zeros.parts i).block_bits;
        })
