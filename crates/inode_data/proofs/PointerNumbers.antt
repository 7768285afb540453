-- The numbers in an indirect block after one of them was set.
use Rattle.std.proofs.Common.{◌≡◌, ℕ, suc, ◌+◌, ◌-◌, ◌*◌, ◌<◌, ◌≤◌, ◌^◌, inl, inr, sym, ap, ◌∙◌, refl}
use Rattle.std.proofs.Common.{List, [], ◌∷◌, length, take, drop, get_or, nat_eq, replicate, set, true, arith}
use Rattle.std.specs.Int.{w32, from_le_bytes, to_le_bytes}
use Rattle.std.proofs.lemmas.Bool.{cases_eq, cases_lt}
use Rattle.std.proofs.lemmas.List.{drop-replicate, ext_get_or, get_or-set_other, get_or-set_same}
use Rattle.std.proofs.lemmas.List.{length-set}
use Rattle.std.proofs.lemmas.Nat.{from_le_bytes-to_le_bytes_4}
use Rattle.base.specs.declared.TheConstants.{BLOCK_BYTES, INDIRECT_INDEXES}
use Rattle.disk.specs.Crash.{Image}
use Rattle.objects.specs.Spliced.{spliced}
use Rattle.objects.proofs.Splices as splices
use Rattle.layout.specs.Decode.{numbers_in}
use Rattle.layout.specs.Fields.{four_at, four_bytes, numbers_at}
use Rattle.layout.proofs.NumbersAt.{number_at, numbers-length}
use Rattle.layout.proofs.NumbersIn.{in_length, none_at}

only_four : (xs : List ℕ) → from_le_bytes w32 xs ≡ from_le_bytes w32 (take 4 xs)
only_four [] = refl
only_four (a ∷ []) = refl
only_four (a ∷ b ∷ []) = refl
only_four (a ∷ b ∷ c ∷ []) = refl
only_four (a ∷ b ∷ c ∷ d ∷ rest) = refl

-- a number is told by its four bytes
pub number_by_four : (at : ℕ) (xs four : List ℕ) → take 4 (drop at xs) ≡ four → four_at at xs ≡ from_le_bytes w32 four
unfolding four_at
number_by_four at xs four is = only_four (drop at xs) ∙ ap (from_le_bytes w32) is

pub four-length : (number : ℕ) → length (four_bytes number) ≡ 4
unfolding four_bytes
four-length number = refl

pub four_back : (number : ℕ) → number < 2 ^ 32 → from_le_bytes w32 (four_bytes number) ≡ number
unfolding four_bytes
four_back number small = from_le_bytes-to_le_bytes_4 number small

module _ (bytes : List ℕ) (i b : ℕ) (long : length bytes ≡ BLOCK_BYTES) (less : i < INDIRECT_INDEXES)
    (small : b < 2 ^ 32) where
  abbrev pub with_number : List ℕ
  with_number = spliced bytes (4 * i) (four_bytes b)

  has_space : 4 * i + length (four_bytes b) ≤ length bytes
  has_space = let four = four-length b in omega (arith, four, long, less)

  itself : four_at (4 * i) with_number ≡ b
  itself = number_by_four (4 * i) with_number (four_bytes b)
      (ap (λ k. take k (drop (4 * i) with_number)) (sym (four-length b))
      ∙ splices.there bytes (four_bytes b) (4 * i) has_space)
      ∙ four_back b small

  log_unchanged : (j : ℕ) → (j ≡ i → ⊥) → four_at (4 * j) with_number ≡ four_at (4 * j) bytes
  log_unchanged j not =
      number_by_four (4 * j) with_number (take 4 (drop (4 * j) bytes)) (elim (cases_lt j i) [
        | inl low ↦ splices.ahead bytes (four_bytes b) (4 * i) has_space (4 * j) 4 (omega (arith, low))
        | inr high ↦ splices.behind bytes (four_bytes b) (4 * i) has_space (4 * j) 4 (past high (four-length b))
      ])
      ∙ sym (number_by_four (4 * j) bytes (take 4 (drop (4 * j) bytes)) refl)
    where
      past : i ≤ j → {k : ℕ} → k ≡ 4 → 4 * i + k ≤ 4 * j
      past high e = elim (cases_lt i j) [
        | inl more ↦ omega (arith, more, e)
        | inr equal ↦ absurd (not (omega (arith, high, equal)))
      ]

  pub pointer_set : numbers_at INDIRECT_INDEXES 0 with_number ≡ set (numbers_at INDIRECT_INDEXES 0 bytes) i b
  pointer_set =
      let one = numbers-length INDIRECT_INDEXES 0 with_number in
      let two = numbers-length INDIRECT_INDEXES 0 bytes in
      let three = length-set (numbers_at INDIRECT_INDEXES 0 bytes) i b in
      ext_get_or 0 (numbers_at INDIRECT_INDEXES 0 with_number) (set (numbers_at INDIRECT_INDEXES 0 bytes) i b)
      (omega (arith, one, two, three))
      (λ j inside. at j (omega (arith, inside, one)) two)
    where
      at : (j : ℕ) → j < INDIRECT_INDEXES → length (numbers_at INDIRECT_INDEXES 0 bytes) ≡ INDIRECT_INDEXES
          → get_or (numbers_at INDIRECT_INDEXES 0 with_number) j 0
          ≡ get_or (set (numbers_at INDIRECT_INDEXES 0 bytes) i b) j 0
      at j inside two =
          number_at INDIRECT_INDEXES 0 with_number j inside
          ∙ ap (λ k. four_at k with_number) (omega arith)
          ∙ (elim (cases_eq j i) [
            | inl same ↦ ap (λ k. four_at (4 * k) with_number) same ∙ itself
                ∙ sym (ap (λ k. get_or (set (numbers_at INDIRECT_INDEXES 0 bytes) i b) k 0) same
                ∙ get_or-set_same (numbers_at INDIRECT_INDEXES 0 bytes) i b 0 (omega (arith, two, less)))
            | inr other ↦ log_unchanged j other ∙ ap (λ k. four_at k bytes) (omega arith)
                ∙ sym (number_at INDIRECT_INDEXES 0 bytes j inside)
                ∙ sym (get_or-set_other (numbers_at INDIRECT_INDEXES 0 bytes) i j b 0 other)
          ])

-- ---- a block of zeros

four_zeros : (m : ℕ) → take 4 (replicate {A = ℕ} (4 + m) 0) ≡ replicate 4 0
four_zeros m = ap (λ k. take 4 (replicate {A = ℕ} k 0)) there
  where
    there : 4 + m ≡ suc (suc (suc (suc m)))
    there = omega arith

-- it has the numbers that are there without a block
pub pointer_none : (content : Image) (indirect_block : ℕ) → nat_eq indirect_block 0 ≡ true
    → numbers_at INDIRECT_INDEXES 0 (replicate BLOCK_BYTES 0) ≡ numbers_in content indirect_block
pointer_none content indirect_block none =
    let one = numbers-length INDIRECT_INDEXES 0 (replicate BLOCK_BYTES 0) in
    let two = in_length content indirect_block in
    ext_get_or 0 (numbers_at INDIRECT_INDEXES 0 (replicate BLOCK_BYTES 0)) (numbers_in content indirect_block)
    (omega (arith, one, two)) (λ j inside. at j (omega (arith, inside, one)))
  where
    at : (j : ℕ) → j < INDIRECT_INDEXES
        → get_or (numbers_at INDIRECT_INDEXES 0 (replicate BLOCK_BYTES 0)) j 0
        ≡ get_or (numbers_in content indirect_block) j 0
    at j inside =
        let left : BLOCK_BYTES - (0 + 4 * j) ≡ 4 + (BLOCK_BYTES - 4 * j - 4) = omega (arith, inside) in
        number_at INDIRECT_INDEXES 0 (replicate BLOCK_BYTES 0) j inside
        ∙ number_by_four (0 + 4 * j) (replicate BLOCK_BYTES 0) (replicate 4 0)
        (ap (take 4) (drop-replicate (0 + 4 * j) BLOCK_BYTES 0 ∙ ap (λ m. replicate {A = ℕ} m 0) left)
        ∙ four_zeros (BLOCK_BYTES - 4 * j - 4))
        ∙ sym (none_at content indirect_block none j)

-- the bytes of a number, as they are written
pub le_four : (number : ℕ) (bytes : List ℕ) → bytes ≡ to_le_bytes w32 number → bytes ≡ four_bytes number
unfolding four_bytes
le_four number bytes is = is

-- an indirect block with a number more is a block
pub named_count : (bytes : List ℕ) (i b : ℕ) → length bytes ≡ BLOCK_BYTES → i < INDIRECT_INDEXES
    → length (spliced bytes (4 * i) (four_bytes b)) ≡ BLOCK_BYTES
named_count bytes i b long less =
    splices.spliced-length bytes (four_bytes b) (4 * i)
    (let four = four-length b in omega (arith, four, long, less)) ∙ long
