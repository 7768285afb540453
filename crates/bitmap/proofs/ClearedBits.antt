-- The bits of a piece of the bitmap that were cleared one after another, and the blocks whose bits these are.
use Rattle.std.proofs.Common.{◌≡◌, ℕ, ◌+◌, ◌*◌, ◌/◌, ◌%◌, ◌≤◌, sym, ap, ◌∙◌, refl, subst, false, arith}
use Rattle.std.proofs.Common.{List, [], ◌∷◌, ◌++◌, length, take, drop}
use Rattle.std.specs.List.{AllByRecursion}
use Rattle.base.specs.declared.TheConstants.{BLOCK_BYTES, FIRST_HOME_BLOCK}
use Rattle.disk.specs.Crash.{Image}
use Rattle.objects.specs.declared.addr.Addr.{Addr}
use Rattle.objects.specs.Spliced.{spliced}
use Rattle.objects.proofs.Splices.{spliced-length, there}
use Rattle.layout.specs.declared.geometry.Geometry.{Geometry}
use Rattle.layout.specs.declared.grid.TheConstants.{PIECE_BITS, PIECE_BYTES, PIECES_PER_BLOCK}
use Rattle.layout.specs.Parts.{with_bytes}
use Rattle.layout.proofs.Fits.{part-length}
use Rattle.layout.proofs.Written.{here}
use Rattle.txn_law.specs.Window.{object_at}
use Rattle.layout_records.specs.Bits.{HasBit}
use Rattle.bitmap.specs.Bits.{MarksBlock}
use Rattle.bitmap.specs.Frees.{AreCleared, Frees, IsInPiece, without}
use Rattle.bitmap.proofs.MarkParts.{marks_block}
use Rattle.bitmap.proofs.PutAgain.{put_again, put_same}
use Rattle.bitmap.proofs.PutBits.{puts}

-- one more number
pub cleared_more : (numbers : List ℕ) (number : ℕ) (old middle new : List ℕ) → AreCleared numbers old middle
    → HasBit (number % PIECE_BITS) false middle new → AreCleared (numbers ++ number ∷ []) old new
cleared_more [] number old middle new same has =
    (new, subst (λ bytes. HasBit (number % PIECE_BITS) false bytes new) same has, refl)
cleared_more (one ∷ numbers) number old middle new cleared has =
    (cleared.0, cleared.1, cleared_more numbers number cleared.0 middle new cleared.2 has)

pub cleared_length : (numbers : List ℕ) (old new : List ℕ) → AreCleared numbers old new → length new ≡ length old
cleared_length [] old new same = ap (λ (bytes : List ℕ). length bytes) same
cleared_length (number ∷ numbers) old new cleared =
    cleared_length numbers cleared.0 new cleared.2 ∙ cleared.1.len

-- one block that is marked as free, and then others
frees_first : (g : Geometry) (number : ℕ) (numbers : List ℕ) (old middle new : Image)
    → MarksBlock g number false old middle → Frees g numbers middle new → Frees g (number ∷ numbers) old new
frees_first g number numbers old middle new marks frees = record {
  bytes = λ are. frees.bytes (marks.bytes are);
  parts = frees.parts ∙ (λ i. record (marks.parts i) { block_bits = without numbers (marks.parts i).block_bits });
}

module _ (g : Geometry) (addr : Addr) (piece : ℕ)
    (block : addr.block.0 ≡ FIRST_HOME_BLOCK + piece / PIECES_PER_BLOCK)
    (offset : addr.offset ≡ PIECE_BYTES * (piece % PIECES_PER_BLOCK)) (len : addr.len ≡ PIECE_BYTES) where
  -- The blocks with the piece in which the bits are cleared.
  pub frees_cleared : (image : Image) (numbers old new : List ℕ) → length (image addr.block.0) ≡ BLOCK_BYTES
      → object_at image addr ≡ old → AllByRecursion (IsInPiece g.blocks piece) numbers → AreCleared numbers old new
      → Frees g numbers image (with_bytes image addr.block.0 addr.offset new)
  frees_cleared image [] old new long was all same =
      subst (Frees g [] image)
      (sym (ap (with_bytes image addr.block.0 addr.offset) (same ∙ sym was)
      ∙ put_same image addr.block.0 addr.offset addr.len (omega (arith, offset, len, long))))
      (record { bytes = λ are. are; parts = refl })
  frees_cleared image (number ∷ numbers) old new long was all cleared =
      subst (Frees g (number ∷ numbers) image)
      (put_again image addr.block.0 addr.offset middle new (sym rest) has_space)
      (frees_first g number numbers image next _ marks
      (frees_cleared next numbers middle new
      (ap (λ (content : List ℕ). length content) (here image addr.block.0 addr.offset middle)
      ∙ spliced-length (image addr.block.0) middle addr.offset has_space ∙ long) lies all.1 cleared.2))
    where
      middle : List ℕ
      middle = cleared.0

      next : Image
      next = with_bytes image addr.block.0 addr.offset middle

      old_long : length old ≡ PIECE_BYTES
      old_long = ap (λ (bytes : List ℕ). length bytes) (sym was)
          ∙ part-length addr.len addr.offset (image addr.block.0) (omega (arith, offset, len, long)) ∙ len

      middle_long : length middle ≡ PIECE_BYTES
      middle_long = cleared.1.len ∙ old_long

      has_space : addr.offset + length middle ≤ length (image addr.block.0)
      has_space = omega (arith, middle_long, offset, long)

      rest : length new ≡ length middle
      rest = cleared_length numbers middle new cleared.2

      lies : object_at next addr ≡ middle
      lies = ap (λ (content : List ℕ). take addr.len (drop addr.offset content))
          (here image addr.block.0 addr.offset middle)
          ∙ ap (λ k. take k (drop addr.offset (spliced (image addr.block.0) addr.offset middle)))
          (len ∙ sym middle_long)
          ∙ there (image addr.block.0) middle addr.offset has_space

      marks : MarksBlock g number false image next
      marks = marks_block g image next number false all.0.0
          (puts image next FIRST_HOME_BLOCK number false addr old middle
          (block ∙ ap (λ p. FIRST_HOME_BLOCK + p / PIECES_PER_BLOCK) (sym all.0.1))
          (offset ∙ ap (λ p. PIECE_BYTES * (p % PIECES_PER_BLOCK)) (sym all.0.1)) len long was cleared.1 refl)
