-- The lowest bit of a byte that is clear is one of the piece.
use Rattle.std.proofs.Common.{◌≡◌, ℕ, zero, suc, ◌+◌, ◌*◌, ◌/◌, ◌%◌, ◌^◌, ◌<◌, inl, inr, ap, ◌∙◌, refl}
use Rattle.std.proofs.Common.{arith, true, false, List, nat_eq, get_or}
use Rattle.std.specs.Int.{trailing_ones, w8}
use Rattle.std.proofs.lemmas.Bool.{cases_lt}
use Rattle.std.proofs.lemmas.Nat.Bits.{bit_at-trailing_ones}
use Rattle.layout.specs.declared.grid.TheConstants.{PIECE_BITS, PIECE_BYTES}
use Rattle.layout_records.specs.Bits.{bit_in}

pub lowest_clear : (bytes : List ℕ) (at : ℕ) → at < PIECE_BYTES → get_or bytes at 0 < 255
    → (8 * at + trailing_ones w8 (get_or bytes at 0) < PIECE_BITS)
    × (bit_in bytes (8 * at + trailing_ones w8 (get_or bytes at 0)) ≡ false)
lowest_clear bytes at less low =
    let byte = get_or bytes at 0 in
    let found = bit_at-trailing_ones w8 byte (omega (arith, low)) in
    let index_within = trailing_ones w8 byte in
    let few : index_within < 8 = found.0 in
    let block : (8 * at + index_within) / 8 ≡ at = omega (arith, few) in
    let rest : (8 * at + index_within) % 8 ≡ index_within = omega (arith, few) in (
      omega (arith, few, less),
      (λ i. nat_eq (get_or bytes (block i) 0 / 2 ^ rest i % 2) 1) ∙ ap (λ v. nat_eq v 1) found.1,
    )

full : (index_within : ℕ) → index_within < 8 → nat_eq (255 / 2 ^ index_within % 2) 1 ≡ true
full zero less = refl
full (suc zero) less = refl
full (suc (suc zero)) less = refl
full (suc (suc (suc zero))) less = refl
full (suc (suc (suc (suc zero)))) less = refl
full (suc (suc (suc (suc (suc zero))))) less = refl
full (suc (suc (suc (suc (suc (suc zero)))))) less = refl
full (suc (suc (suc (suc (suc (suc (suc zero))))))) less = refl
full (suc (suc (suc (suc (suc (suc (suc (suc index_within)))))))) less = absurd (omega (arith, less))

pub byte_more : (bytes : List ℕ) (at : ℕ) → get_or bytes at 0 ≡ 255
    → ((other : ℕ) → other < 8 * at → bit_in bytes other ≡ true)
    → (other : ℕ) → other < 8 * (at + 1) → bit_in bytes other ≡ true
byte_more bytes at is before other less = elim (cases_lt other (8 * at)) [
  | inl low ↦ before other low
  | inr past ↦
      let block : other / 8 ≡ at = omega (arith, less, past) in
      (λ i. nat_eq (get_or bytes (block i) 0 / 2 ^ (other % 8) % 2) 1)
      ∙ ap (λ v. nat_eq (v / 2 ^ (other % 8) % 2) 1) is ∙ full (other % 8) (omega arith)
]
