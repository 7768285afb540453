-- A bit of a bitmap that was put is one bit of the parts, and nothing else.
use Rattle.std.proofs.Common.{◌≡◌, ℕ, ◌+◌, ◌*◌, ◌/◌, ◌%◌, ◌<◌, ◌≤◌, inl, inr, sym, ap, ◌∙◌, refl, subst}
use Rattle.std.proofs.Common.{arith, Bool, true, false, cond, ◌&&◌, nat_eq, nat_lt, List, take, drop}
use Rattle.std.proofs.Common.{replicate}
use Rattle.std.proofs.Common.{Err, get_or, ◌^◌}
use Rattle.std.proofs.lemmas.Bool.{cases_eq, eqb-true, lt-ltb, ltb-true}
use Rattle.std.proofs.lemmas.Bool.Decides.{leb_tells}
use Rattle.base.specs.declared.TheConstants.{BITS_PER_BLOCK, BLOCK_BYTES, FIRST_HOME_BLOCK, INODE_BYTES}
use Rattle.disk.specs.Crash.{Image}
use Rattle.layout.specs.declared.fault.LayoutFault.TheVariants.{Range}
use Rattle.layout.specs.declared.geometry.Geometry.{Geometry}
use Rattle.layout.specs.Decode.{inode_at}
use Rattle.layout.specs.Geometry.{bitmap_blocks, data_at, inode_bitmap_at, table_at}
use Rattle.layout.specs.InodeForm.{read_inode}
use Rattle.layout.specs.Parts.{bit_at, bits_of, content_in, put, table_of}
use Rattle.layout.specs.Places.{inode_block, inode_offset, is_data}
use Rattle.bitmap.specs.Bits.{AreOfBytes, MarksBlock, MarksNumber, PutsBit}

module _ (g : Geometry) (old new : Image) (first bit : ℕ) (is : Bool)
    (puts : PutsBit first bit is old new) where
  abbrev at : ℕ
  at = first + bit / BITS_PER_BLOCK

  -- ---- what the bitmap isn't

  one_inode : at < table_at g.blocks g.inodes → (m : ℕ) (low : Bool) → nat_lt m g.inodes ≡ low
      → cond low (inode_at g new m) (Err Range) ≡ cond low (inode_at g old m) (Err Range)
  unfolding inode_at
  one_inode low m false e = refl
  one_inode low m true e =
      ap (λ content. read_inode g (take INODE_BYTES (drop (inode_offset m) content)))
      (puts.others (inode_block g m) (λ same. omega (arith, low, same)))

  same_table : at < table_at g.blocks g.inodes → table_of g new ≡ table_of g old
  same_table low = λ i m. one_inode low m (nat_lt m g.inodes) refl i

  one_block : at < table_at g.blocks g.inodes → (block : ℕ) (lies : Bool) → is_data g block ≡ lies
      → cond lies (new block) (replicate BLOCK_BYTES 0) ≡ cond lies (old block) (replicate BLOCK_BYTES 0)
  one_block low block false e = refl
  one_block low block true e = puts.others block (λ same.
      elim (leb_tells (data_at g.blocks g.inodes) block) [
        | inl past ↦ omega (arith, past.1, same, low)
        | inr not ↦ (let no : true ≡ false = sym e ∙ ap (λ b. b && nat_lt block g.blocks) not.0 in cc)
      ])

  same_content : at < table_at g.blocks g.inodes → content_in g new ≡ content_in g old
  same_content low = λ i block. one_block low block (is_data g block) refl i

  -- a bitmap that the bit isn't of
  other_bit : (begin count other : ℕ) → (at < begin) → bit_at new begin other ≡ bit_at old begin other
  unfolding bit_at
  other_bit begin count other low =
      ap (λ content. nat_eq (get_or content (other % BITS_PER_BLOCK / 8) 0 / 2 ^ (other % 8) % 2) 1)
      (puts.others (begin + other / BITS_PER_BLOCK) (λ same. omega (arith, low, same)))

  bits_behind : (begin count : ℕ) → at < begin → bits_of new begin count ≡ bits_of old begin count
  bits_behind begin count low = λ i other.
      nat_lt other (BITS_PER_BLOCK * count) && other_bit begin count other low i

  one_ahead : (begin count other : ℕ) → begin + count ≤ at → (in_it : Bool)
      → nat_lt other (BITS_PER_BLOCK * count) ≡ in_it
      → (in_it && bit_at new begin other) ≡ (in_it && bit_at old begin other)
  unfolding bit_at
  one_ahead begin count other past false e = refl
  one_ahead begin count other past true e =
      ap (λ content. nat_eq (get_or content (other % BITS_PER_BLOCK / 8) 0 / 2 ^ (other % 8) % 2) 1)
      (puts.others (begin + other / BITS_PER_BLOCK)
      (λ same. let low = ltb-true other (BITS_PER_BLOCK * count) e in omega (arith, past, low, same)))

  bits_ahead : (begin count : ℕ) → begin + count ≤ at → bits_of new begin count ≡ bits_of old begin count
  bits_ahead begin count past = λ i other.
      one_ahead begin count other past (nat_lt other (BITS_PER_BLOCK * count)) refl i

  -- ---- its own bitmap

  one_here : (count other : ℕ) (t : Bool) → bit < BITS_PER_BLOCK * count → nat_eq other bit ≡ t
      → (nat_lt other (BITS_PER_BLOCK * count) && cond t is (bit_at old first other))
      ≡ cond t is (nat_lt other (BITS_PER_BLOCK * count) && bit_at old first other)
  one_here count other true less e =
      ap (λ b. b && is)
      (ap (λ k. nat_lt k (BITS_PER_BLOCK * count)) (eqb-true other bit e)
      ∙ lt-ltb bit (BITS_PER_BLOCK * count) less)
  one_here count other false less e = refl

  bits_here : (count : ℕ) → bit < BITS_PER_BLOCK * count
      → bits_of new first count ≡ put (bits_of old first count) bit is
  bits_here count less = λ i other.
      (ap (λ b. nat_lt other (BITS_PER_BLOCK * count) && b) (puts.bits other)
      ∙ one_here count other (nat_eq other bit) less refl) i

  bytes_still : AreOfBytes g old → AreOfBytes g new
  bytes_still are number less = elim (cases_eq number at) [
    | inl same ↦ subst (λ k. (index : ℕ) → get_or (new k) index 0 < 256) (sym same)
        (puts.bytes (are at (subst (λ k. k < g.blocks) same less)))
    | inr not ↦ subst (λ (l : List ℕ). (index : ℕ) → get_or l index 0 < 256) (sym (puts.others number not))
        (are number less)
  ]

pub marks_block : (g : Geometry) (old new : Image) (number : ℕ) (is : Bool) → number < g.blocks
    → PutsBit FIRST_HOME_BLOCK number is old new → MarksBlock g number is old new
marks_block g old new number is less puts = record {
  bytes = bytes_still g old new FIRST_HOME_BLOCK number is puts;
  parts = λ i. record {
    table = same_table g old new FIRST_HOME_BLOCK number is puts low i;
    content = same_content g old new FIRST_HOME_BLOCK number is puts low i;
    block_bits = bits_here g old new FIRST_HOME_BLOCK number is puts (bitmap_blocks g.blocks)
        (omega (arith, less)) i;
    inode_bits = bits_behind g old new FIRST_HOME_BLOCK number is puts (inode_bitmap_at g.blocks)
        (bitmap_blocks g.inodes) ahead i;
  };
}
  where
    ahead : FIRST_HOME_BLOCK + number / BITS_PER_BLOCK < inode_bitmap_at g.blocks
    ahead = omega (arith, less)

    low : FIRST_HOME_BLOCK + number / BITS_PER_BLOCK < table_at g.blocks g.inodes
    low = omega (arith, less)

pub marks_number : (g : Geometry) (old new : Image) (number : ℕ) (is : Bool) → number < g.inodes
    → PutsBit (inode_bitmap_at g.blocks) number is old new → MarksNumber g number is old new
marks_number g old new number is less puts = record {
  bytes = bytes_still g old new (inode_bitmap_at g.blocks) number is puts;
  parts = λ i. record {
    table = same_table g old new (inode_bitmap_at g.blocks) number is puts low i;
    content = same_content g old new (inode_bitmap_at g.blocks) number is puts low i;
    block_bits = bits_ahead g old new (inode_bitmap_at g.blocks) number is puts FIRST_HOME_BLOCK
        (bitmap_blocks g.blocks) (omega arith) i;
    inode_bits = bits_here g old new (inode_bitmap_at g.blocks) number is puts (bitmap_blocks g.inodes)
        (omega (arith, less)) i;
  };
}
  where
    low : inode_bitmap_at g.blocks + number / BITS_PER_BLOCK < table_at g.blocks g.inodes
    low = omega (arith, less)
