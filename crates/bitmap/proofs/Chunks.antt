-- A sum over a range in chunks, and so the clear bits of a bitmap by its pieces.
use Rattle.std.proofs.Common.{◌≡◌, ℕ, zero, suc, ◌+◌, ◌*◌, ◌/◌, ◌%◌, ◌^◌, ◌<◌, sym, ap, ◌∙◌, refl, not}
use Rattle.std.proofs.Common.{List, [], ◌∷◌, length, drop, get_or, nat_eq, sum_by, arith}
use Rattle.std.specs.List.{range_with_len}
use Rattle.std.proofs.lemmas.List.{get_or-drop, get_or-take}
use Rattle.std.proofs.lemmas.List.Sums.{sum_by-cons}
use Rattle.base.specs.declared.TheConstants.{BITS_PER_BLOCK, BLOCK_BYTES}
use Rattle.disk.specs.Crash.{Image}
use Rattle.layout.specs.declared.grid.TheConstants.{PIECE_BYTES, PIECES_PER_BLOCK}
use Rattle.layout.specs.Parts.{bit_at}
use Rattle.layout.proofs.Fits.{part-length}
use Rattle.bitmap.specs.Clear.{clear_of}
use Rattle.layout_records.specs.Bits.{clear_in, clear_in_byte}
use Rattle.layout_records.specs.Bits.{piece_in}
use Rattle.bitmap.proofs.Ranges.{one_if, one_more, same_sums}

-- a range behind another
appended : (f : ℕ → ℕ) (a m n : ℕ) → sum_by f (range_with_len a (m + n))
    ≡ sum_by f (range_with_len a m) + sum_by (λ i. f (a + m + i)) (range_with_len 0 n)
appended f a m zero =
    let same : sum_by f (range_with_len a (m + 0)) ≡ sum_by f (range_with_len a m) =
    ap (λ k. sum_by f (range_with_len a k)) (plus_zero m) in
    omega (arith, same)
  where
    plus_zero : (m : ℕ) → m + 0 ≡ m
    plus_zero m = omega arith
appended f a m (suc n) =
    let same : sum_by f (range_with_len a (m + suc n)) ≡ sum_by f (range_with_len a (suc (m + n))) =
    ap (λ k. sum_by f (range_with_len a k)) (plus_suc m n) in
    let more = one_more f a (m + n) in
    let last : f (a + (m + n)) ≡ f (a + m + (0 + n)) = ap f (omega arith) in
    let behind = one_more (λ i. f (a + m + i)) 0 n in
    let rest = appended f a m n in
    omega (arith, same, more, last, behind, rest)
  where
    plus_suc : (m n : ℕ) → m + suc n ≡ suc (m + n)
    plus_suc m n = omega arith

pub chunks : (f : ℕ → ℕ) (c k : ℕ) → sum_by f (range_with_len 0 (c * k))
    ≡ sum_by (λ p. sum_by (λ i. f (c * p + i)) (range_with_len 0 c)) (range_with_len 0 k)
chunks f c zero = ap (λ n. sum_by f (range_with_len 0 n)) (mul_zero c)
  where
    mul_zero : (c : ℕ) → c * 0 ≡ 0
    mul_zero c = omega arith
chunks f c (suc k) =
    let chunk : ℕ → ℕ = λ p. sum_by (λ i. f (c * p + i)) (range_with_len 0 c) in
    let same : sum_by f (range_with_len 0 (c * suc k)) ≡ sum_by f (range_with_len 0 (c * k + c)) =
    ap (λ n. sum_by f (range_with_len 0 n)) (mul_more c k) in
    let both = appended f 0 (c * k) c in
    let here : sum_by (λ i. f (0 + c * k + i)) (range_with_len 0 c) ≡ chunk k =
    same_sums (λ i. f (0 + c * k + i)) (λ i. f (c * k + i)) 0 c (λ i from to. ap f (omega arith)) in
    let more = one_more chunk 0 k in
    let last : chunk (0 + k) ≡ chunk k = ap chunk (omega arith) in
    let rest = chunks f c k in
    omega (arith, same, both, here, more, last, rest)
  where
    mul_more : (c k : ℕ) → c * suc k ≡ c * k + c
    mul_more c k = omega arith

-- a sum over a list is one over its places
pub by_places : (f : ℕ → ℕ) (xs : List ℕ)
    → sum_by f xs ≡ sum_by (λ i. f (get_or xs i 0)) (range_with_len 0 (length xs))
by_places f [] = refl
by_places f (x ∷ xs) =
    let both = sum_by-cons f x xs in
    let rest = by_places f xs in
    let all : sum_by (λ i. f (get_or (x ∷ xs) i 0)) (range_with_len 0 (1 + length xs))
    ≡ sum_by (λ i. f (get_or (x ∷ xs) i 0)) (range_with_len 0 1)
    + sum_by (λ i. f (get_or (x ∷ xs) (0 + 1 + i) 0)) (range_with_len 0 (length xs)) =
    appended (λ i. f (get_or (x ∷ xs) i 0)) 0 1 (length xs) in
    let first : sum_by (λ i. f (get_or (x ∷ xs) i 0)) (range_with_len 0 1) ≡ f x =
    sum_by-cons (λ i. f (get_or (x ∷ xs) i 0)) 0 [] ∙ omega arith in
    let behind : sum_by (λ i. f (get_or (x ∷ xs) (0 + 1 + i) 0)) (range_with_len 0 (length xs))
    ≡ sum_by (λ i. f (get_or xs i 0)) (range_with_len 0 (length xs)) =
    same_sums (λ i. f (get_or (x ∷ xs) (0 + 1 + i) 0)) (λ i. f (get_or xs i 0)) 0 (length xs)
    (λ i from to. ap (λ k. f (get_or (x ∷ xs) k 0)) (one_past i)) in
    let long : sum_by (λ i. f (get_or (x ∷ xs) i 0)) (range_with_len 0 (suc (length xs)))
    ≡ sum_by (λ i. f (get_or (x ∷ xs) i 0)) (range_with_len 0 (1 + length xs)) =
    ap (λ n. sum_by (λ i. f (get_or (x ∷ xs) i 0)) (range_with_len 0 n)) (turned (length xs)) in
    omega (arith, both, rest, all, first, behind, long)
  where
    one_past : (i : ℕ) → 0 + 1 + i ≡ suc i
    one_past i = omega arith

    turned : (n : ℕ) → suc n ≡ 1 + n
    turned n = omega arith

module _ (blocks : Image) (first count : ℕ)
    (long : (number : ℕ) → number < first + count → length (blocks number) ≡ BLOCK_BYTES) where
  -- a byte of the bitmap
  abbrev byte : ℕ → ℕ
  byte y = get_or (blocks (first + y / BLOCK_BYTES)) (y % BLOCK_BYTES) 0

  abbrev bit : ℕ → ℕ
  bit b = one_if (not (nat_eq (get_or (blocks (first + b / BITS_PER_BLOCK)) (b % BITS_PER_BLOCK / 8) 0 / 2 ^ (b % 8) % 2) 1))

  in_byte : (y : ℕ) → sum_by (λ t. bit (8 * y + t)) (range_with_len 0 8) ≡ clear_in_byte (byte y)
  in_byte y = same_sums (λ t. bit (8 * y + t)) (λ t. one_if (not (nat_eq (byte y / 2 ^ t % 2) 1))) 0 8
      (λ t from to. same t (omega (arith, to)))
    where
      same : (t : ℕ) → t < 8 → bit (8 * y + t) ≡ one_if (not (nat_eq (byte y / 2 ^ t % 2) 1))
      same t less =
          let block : (8 * y + t) / BITS_PER_BLOCK ≡ y / BLOCK_BYTES = omega (arith, less) in
          let at : (8 * y + t) % BITS_PER_BLOCK / 8 ≡ y % BLOCK_BYTES = omega (arith, less) in
          let last : (8 * y + t) % 8 ≡ t = omega (arith, less) in
          λ i. one_if (not (nat_eq (get_or (blocks (first + block i)) (at i) 0 / 2 ^ last i % 2) 1))

  in_piece : (p : ℕ) → p < PIECES_PER_BLOCK * count
      → sum_by (λ i. clear_in_byte (byte (PIECE_BYTES * p + i))) (range_with_len 0 PIECE_BYTES)
      ≡ clear_in (piece_in blocks first p)
  in_piece p less =
      let has : length (piece_in blocks first p) ≡ PIECE_BYTES = piece_long in
      same_sums (λ i. clear_in_byte (byte (PIECE_BYTES * p + i)))
      (λ i. clear_in_byte (get_or (piece_in blocks first p) i 0)) 0 PIECE_BYTES
      (λ i from to. ap clear_in_byte (same i (omega (arith, to))))
      ∙ ap (λ n. sum_by (λ i. clear_in_byte (get_or (piece_in blocks first p) i 0)) (range_with_len 0 n))
      (sym has)
      ∙ sym (by_places clear_in_byte (piece_in blocks first p))
    where
      whole : length (blocks (first + p / PIECES_PER_BLOCK)) ≡ BLOCK_BYTES
      whole = long (first + p / PIECES_PER_BLOCK) (omega (arith, less))

      piece_long : length (piece_in blocks first p) ≡ PIECE_BYTES
      piece_long = part-length PIECE_BYTES (PIECE_BYTES * (p % PIECES_PER_BLOCK)) (blocks (first + p / PIECES_PER_BLOCK)) (omega (arith, whole))

      same : (i : ℕ) → i < PIECE_BYTES → byte (PIECE_BYTES * p + i) ≡ get_or (piece_in blocks first p) i 0
      same i under =
          let block : (PIECE_BYTES * p + i) / BLOCK_BYTES ≡ p / PIECES_PER_BLOCK = omega (arith, under) in
          let at : (PIECE_BYTES * p + i) % BLOCK_BYTES ≡ PIECE_BYTES * (p % PIECES_PER_BLOCK) + i = omega (arith, under) in
          (λ j. get_or (blocks (first + block j)) (at j) 0)
          ∙ sym (get_or-drop (PIECE_BYTES * (p % PIECES_PER_BLOCK)) (blocks (first + p / PIECES_PER_BLOCK)) i 0)
          ∙ sym (get_or-take PIECE_BYTES (drop (PIECE_BYTES * (p % PIECES_PER_BLOCK)) (blocks (first + p / PIECES_PER_BLOCK))) i 0 under)

  pub clear_pieces : sum_by (λ p. clear_in (piece_in blocks first p)) (range_with_len 0 (PIECES_PER_BLOCK * count))
      ≡ clear_of blocks first count
  unfolding bit_at
  clear_pieces =
      let bytes : sum_by bit (range_with_len 0 (8 * (BLOCK_BYTES * count)))
      ≡ sum_by (λ y. clear_in_byte (byte y)) (range_with_len 0 (BLOCK_BYTES * count)) =
      chunks bit 8 (BLOCK_BYTES * count)
      ∙ same_sums (λ y. sum_by (λ t. bit (8 * y + t)) (range_with_len 0 8)) (λ y. clear_in_byte (byte y))
      0 (BLOCK_BYTES * count) (λ y from to. in_byte y) in
      let pieces : sum_by (λ y. clear_in_byte (byte y)) (range_with_len 0 (PIECE_BYTES * (PIECES_PER_BLOCK * count)))
      ≡ sum_by (λ p. clear_in (piece_in blocks first p)) (range_with_len 0 (PIECES_PER_BLOCK * count)) =
      chunks (λ y. clear_in_byte (byte y)) PIECE_BYTES (PIECES_PER_BLOCK * count)
      ∙ same_sums (λ p. sum_by (λ i. clear_in_byte (byte (PIECE_BYTES * p + i))) (range_with_len 0 PIECE_BYTES))
      (λ p. clear_in (piece_in blocks first p)) 0 (PIECES_PER_BLOCK * count) (λ p from to. in_piece p (omega (arith, to))) in
      let all : sum_by bit (range_with_len 0 (BITS_PER_BLOCK * count))
      ≡ sum_by bit (range_with_len 0 (8 * (BLOCK_BYTES * count))) =
      ap (λ n. sum_by bit (range_with_len 0 n)) as_bytes in
      let same : sum_by (λ y. clear_in_byte (byte y)) (range_with_len 0 (BLOCK_BYTES * count))
      ≡ sum_by (λ y. clear_in_byte (byte y)) (range_with_len 0 (PIECE_BYTES * (PIECES_PER_BLOCK * count))) =
      ap (λ n. sum_by (λ y. clear_in_byte (byte y)) (range_with_len 0 n)) as_pieces in
      sym (all ∙ bytes ∙ same ∙ pieces)
    where
      as_pieces : BLOCK_BYTES * count ≡ PIECE_BYTES * (PIECES_PER_BLOCK * count)
      as_pieces = omega arith

      as_bytes : BITS_PER_BLOCK * count ≡ 8 * (BLOCK_BYTES * count)
      as_bytes = omega arith
