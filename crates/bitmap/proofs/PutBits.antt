-- The blocks of a bitmap in one of which a piece was put that has another value of one bit.
use Rattle.std.proofs.Common.{◌≡◌, ℕ, ◌+◌, ◌*◌, ◌/◌, ◌%◌, ◌^◌, inl, inr, sym, ap, ◌∙◌, subst}
use Rattle.std.proofs.Common.{arith, Bool, cond, nat_eq, List, take, drop, length, get_or}
use Rattle.std.proofs.lemmas.Bool.{cases_eq}
use Rattle.base.specs.declared.TheConstants.{BITS_PER_BLOCK, BLOCK_BYTES}
use Rattle.disk.specs.Crash.{Image}
use Rattle.nfs_types.specs.Fits.{AreBytes}
use Rattle.objects.specs.declared.addr.Addr.{Addr}
use Rattle.objects.specs.Spliced.{spliced}
use Rattle.layout.specs.declared.grid.TheConstants.{PIECE_BITS, PIECE_BYTES, PIECES_PER_BLOCK}
use Rattle.layout.specs.Parts.{bit_at, with_bytes}
use Rattle.layout.proofs.Fits.{part-length}
use Rattle.layout.proofs.Written.{elsewhere, here}
use Rattle.layout.proofs.WrittenBytes.{dropped, spliced-bytes, taken}
use Rattle.txn_law.specs.Window.{object_at}
use Rattle.bitmap.specs.Bits.{PutsBit}
use Rattle.layout_records.specs.Bits.{HasBit, bit_in}
use Rattle.bitmap.proofs.InBlock.{in_block}
use Rattle.layout_records.proofs.OneBit.{differs, equal}

-- a bit of the bitmap is one of its block
as_in : (image : Image) (first bit : ℕ)
    → bit_at image first bit ≡ bit_in (image (first + bit / BITS_PER_BLOCK)) (bit % BITS_PER_BLOCK)
unfolding bit_at
as_in image first bit =
    let same : bit % 8 ≡ bit % BITS_PER_BLOCK % 8 = omega arith in
    ap (λ s. nat_eq
    (get_or (image (first + bit / BITS_PER_BLOCK)) (bit % BITS_PER_BLOCK / 8) 0 / 2 ^ s % 2) 1) same

module _ (image next : Image) (first bit : ℕ) (is : Bool) (addr : Addr) (old new : List ℕ)
    (block : addr.block.0 ≡ first + bit / PIECE_BITS / PIECES_PER_BLOCK) (offset : addr.offset ≡ PIECE_BYTES * (bit / PIECE_BITS % PIECES_PER_BLOCK))
    (len : addr.len ≡ PIECE_BYTES) (long : length (image addr.block.0) ≡ BLOCK_BYTES)
    (was : object_at image addr ≡ old) (put : HasBit (bit % PIECE_BITS) is old new)
    (next_is : next ≡ with_bytes image addr.block.0 addr.offset new) where
  abbrev at : ℕ
  at = first + bit / BITS_PER_BLOCK

  abbrev piece : ℕ
  piece = bit / PIECE_BITS % PIECES_PER_BLOCK

  same_block : addr.block.0 ≡ at
  same_block = block ∙ omega arith

  whole : length (image at) ≡ BLOCK_BYTES
  whole = ap (λ k. length (image k)) (sym same_block) ∙ long

  old_is : old ≡ take PIECE_BYTES (drop (PIECE_BYTES * piece) (image at))
  old_is = sym was ∙ (λ i. take (len i) (drop (offset i) (image (same_block i))))

  old_long : length old ≡ PIECE_BYTES
  old_long = ap (λ (l : List ℕ). length l) old_is
      ∙ part-length PIECE_BYTES (PIECE_BYTES * piece) (image at) (let w = whole in omega (arith, w))

  new_long : length new ≡ PIECE_BYTES
  new_long = put.len ∙ old_long

  written : next ≡ with_bytes image at (PIECE_BYTES * piece) new
  written = next_is ∙ (λ i. with_bytes image (same_block i) (offset i) new)

  there : next at ≡ spliced (image at) (PIECE_BYTES * piece) new
  there = (λ i. written i at) ∙ here image at (PIECE_BYTES * piece) new

  others : (one : ℕ) → (one ≡ at → ⊥) → next one ≡ image one
  others one not = (λ i. written i one) ∙ elsewhere image at (PIECE_BYTES * piece) new one not

  bytes_still : AreBytes (image at) → AreBytes (next at)
  bytes_still are =
      subst AreBytes (sym there)
      (spliced-bytes (image at) new (PIECE_BYTES * piece) are (record {
        are = put.bytes
            (subst AreBytes (sym old_is) (taken PIECE_BYTES (dropped (PIECE_BYTES * piece) (record { are = are }))).are);
      }))

  puts_in : (other : ℕ) → bit_in new other
      ≡ cond (nat_eq other (bit % PIECE_BITS)) is (bit_in (take PIECE_BYTES (drop (PIECE_BYTES * piece) (image at))) other)
  puts_in other = put.bits other ∙ ap (λ l. cond (nat_eq other (bit % PIECE_BITS)) is (bit_in l other)) old_is

  bits_are : (other : ℕ) → bit_at next first other ≡ cond (nat_eq other bit) is (bit_at image first other)
  bits_are other = elim (cases_eq (other / BITS_PER_BLOCK) (bit / BITS_PER_BLOCK)) [
    | inr away ↦
        as_in next first other
        ∙ ap (λ content. bit_in content (other % BITS_PER_BLOCK))
        (others (first + other / BITS_PER_BLOCK) (λ same. away (omega (arith, same))))
        ∙ sym (as_in image first other)
        ∙ sym (ap (λ b. cond b is (bit_at image first other))
        (differs other bit (λ same. away (ap (λ n. n / BITS_PER_BLOCK) same))))
    | inl same ↦
        as_in next first other
        ∙ ap (λ k. bit_in (next (first + k)) (other % BITS_PER_BLOCK)) same
        ∙ ap (λ content. bit_in content (other % BITS_PER_BLOCK)) there
        ∙ in_block (image at) new piece (bit % PIECE_BITS) is (let w = whole in omega (arith, w)) new_long
        (omega arith) puts_in (other % BITS_PER_BLOCK)
        ∙ (λ i. cond (test same i) is (back same i))
  ]
    where
      test : other / BITS_PER_BLOCK ≡ bit / BITS_PER_BLOCK
          → nat_eq (other % BITS_PER_BLOCK) (PIECE_BITS * piece + bit % PIECE_BITS) ≡ nat_eq other bit
      test same = elim (cases_eq other bit) [
        | inl is ↦ equal (other % BITS_PER_BLOCK) (PIECE_BITS * piece + bit % PIECE_BITS) (omega (arith, is))
            ∙ sym (equal other bit is)
        | inr not ↦ differs (other % BITS_PER_BLOCK) (PIECE_BITS * piece + bit % PIECE_BITS)
            (λ is. not (omega (arith, is, same))) ∙ sym (differs other bit not)
      ]

      back : other / BITS_PER_BLOCK ≡ bit / BITS_PER_BLOCK
          → bit_in (image at) (other % BITS_PER_BLOCK) ≡ bit_at image first other
      back same = ap (λ k. bit_in (image (first + k)) (other % BITS_PER_BLOCK)) (sym same)
          ∙ sym (as_in image first other)

  pub puts : PutsBit first bit is image next
  puts = record { others = others; bytes = bytes_still; bits = bits_are }
