-- The bits of bytes of which one was set or cleared.
use Rattle.std.proofs.Common.{◌≡◌, ℕ, zero, suc, ◌*◌, ◌/◌, ◌%◌, ◌^◌, ◌<◌, inl, inr, sym, ap, ◌∙◌}
use Rattle.std.proofs.Common.{refl}
use Rattle.std.proofs.Common.{arith, Bool, true, false, cond, nat_eq, List, [], ◌∷◌, length, get_or}
use Rattle.std.proofs.Common.{slice_set}
use Rattle.std.specs.Int.{bit_at, bit_not, w8}
use Rattle.std.proofs.Common.{bit_and, bit_or}
use Rattle.std.proofs.lemmas.Nat.{and_le_l, or_of_8}
use Rattle.std.proofs.Common.{subst, take, ◌++◌}
use Rattle.std.proofs.Math.Seq.{take-append_seam}
use Rattle.std.proofs.lemmas.Bool.{cases_eq}
use Rattle.std.proofs.lemmas.Bool.Decides.{nat_tests}
use Rattle.std.proofs.lemmas.Nat.Bits.{bit_at_set_same, bit_at_set_other, bit_at_clear_same}
use Rattle.std.proofs.lemmas.Nat.Bits.{bit_at_clear_other}
use Rattle.layout_records.specs.Bits.{HasBit, bit_in}

pub equal : (a b : ℕ) → a ≡ b → nat_eq a b ≡ true
equal a b same = grind (arith, nat_tests)

pub differs : (a b : ℕ) → (a ≡ b → ⊥) → nat_eq a b ≡ false
differs a b e = grind (arith, nat_tests)

there : (xs : List ℕ) (i v : ℕ) → i < length xs → get_or (slice_set xs i v) i 0 ≡ v
there [] i v less = absurd (omega (arith, less))
there (x ∷ xs) zero v less = refl
there (x ∷ xs) (suc i) v less = there xs i v (omega (arith, less))

elsewhere : (xs : List ℕ) (i k v : ℕ) → (k ≡ i → ⊥) → get_or (slice_set xs i v) k 0 ≡ get_or xs k 0
elsewhere [] i k v other = refl
elsewhere (x ∷ xs) zero zero v other = absurd (other refl)
elsewhere (x ∷ xs) zero (suc k) v other = refl
elsewhere (x ∷ xs) (suc i) zero v other = refl
elsewhere (x ∷ xs) (suc i) (suc k) v other = elsewhere xs i k v (λ same. other (ap suc same))

-- a byte in which one bit has another value
abbrev pub IsPut : ℕ → ℕ → ℕ → Bool → Type 0
IsPut old new index_within is = (nat_eq (bit_at new index_within) 1 ≡ is)
    × ((other : ℕ) → other < 8 → (other ≡ index_within → ⊥) → bit_at new other ≡ bit_at old other)

pub byte_set : (old index_within : ℕ) → index_within < 8 → IsPut old (bit_or old (1 * 2 ^ index_within % 256)) index_within true
byte_set old index_within less = (
  ap (λ v. nat_eq v 1) (bit_at_set_same w8 old index_within less),
  λ other low not. bit_at_set_other w8 old index_within less other not,
)

pub byte_cleared : (old index_within : ℕ) → index_within < 8
    → IsPut old (bit_and old (bit_not w8 (1 * 2 ^ index_within % 256))) index_within false
byte_cleared old index_within less = (
  ap (λ v. nat_eq v 1) (bit_at_clear_same w8 old index_within less),
  λ other low not. bit_at_clear_other w8 old index_within less other low not,
)

pub bit_put : (xs : List ℕ) (bit new : ℕ) (is : Bool) (other : ℕ) → bit < 8 * length xs
    → IsPut (get_or xs (bit / 8) 0) new (bit % 8) is
    → bit_in (slice_set xs (bit / 8) new) other ≡ cond (nat_eq other bit) is (bit_in xs other)
bit_put xs bit new is other inside put = elim (cases_eq (other / 8) (bit / 8)) [
  | inr away ↦
      ap (λ v. nat_eq (v / 2 ^ (other % 8) % 2) 1) (elsewhere xs (bit / 8) (other / 8) new away)
      ∙ sym (ap (λ b. cond b is (bit_in xs other)) (differs other bit (λ same. away (ap (λ n. n / 8) same))))
  | inl here ↦
      let byte : get_or (slice_set xs (bit / 8) new) (other / 8) 0 ≡ new =
      ap (λ k. get_or (slice_set xs (bit / 8) new) k 0) here
      ∙ there xs (bit / 8) new (omega (arith, inside)) in
      ap (λ v. nat_eq (v / 2 ^ (other % 8) % 2) 1) byte
      ∙ (elim (cases_eq (other % 8) (bit % 8)) [
        | inl same ↦
            ap (λ t. nat_eq (bit_at new t) 1) same ∙ put.0
            ∙ sym (ap (λ b. cond b is (bit_in xs other)) (equal other bit (omega (arith, here, same))))
        | inr apart ↦
            ap (λ v. nat_eq v 1) (put.1 (other % 8) (omega arith) apart)
            ∙ ap (λ k. nat_eq (get_or xs k 0 / 2 ^ (other % 8) % 2) 1) (sym here)
            ∙ sym (ap (λ b. cond b is (bit_in xs other))
            (differs other bit (λ one. apart (ap (λ n. n % 8) one))))
      ])
]

pub bytes_put : (xs : List ℕ) (i v : ℕ) → v < 256 → ((k : ℕ) → get_or xs k 0 < 256)
    → (k : ℕ) → get_or (slice_set xs i v) k 0 < 256
bytes_put [] i v small all k = all k
bytes_put (x ∷ xs) zero v small all zero = small
bytes_put (x ∷ xs) zero v small all (suc k) = all (suc k)
bytes_put (x ∷ xs) (suc i) v small all zero = all zero
bytes_put (x ∷ xs) (suc i) v small all (suc k) = bytes_put xs i v small (λ j. all (suc j)) k

same_length : (xs : List ℕ) (i v : ℕ) → length (slice_set xs i v) ≡ length xs
same_length [] i v = refl
same_length (x ∷ xs) zero v = refl
same_length (x ∷ xs) (suc i) v = ap suc (same_length xs i v)

has_set : (xs : List ℕ) (bit : ℕ) → bit < 8 * length xs
    → HasBit bit true xs (slice_set xs (bit / 8) (bit_or (get_or xs (bit / 8) 0) (1 * 2 ^ (bit % 8) % 256)))
has_set xs bit inside =
    let old = get_or xs (bit / 8) 0 in
    let new = bit_or old (1 * 2 ^ (bit % 8) % 256) in
    record {
      len = same_length xs (bit / 8) new;
      bytes = λ are. bytes_put xs (bit / 8) new
          (or_of_8 old (1 * 2 ^ (bit % 8) % 256) (are (bit / 8)) (omega arith)) are;
      bits = λ other. bit_put xs bit new true other inside (byte_set old (bit % 8) (omega arith));
    }

has_cleared : (xs : List ℕ) (bit : ℕ) → bit < 8 * length xs
    → HasBit bit false xs
    (slice_set xs (bit / 8) (bit_and (get_or xs (bit / 8) 0) (bit_not w8 (1 * 2 ^ (bit % 8) % 256))))
has_cleared xs bit inside =
    let old = get_or xs (bit / 8) 0 in
    let new = bit_and old (bit_not w8 (1 * 2 ^ (bit % 8) % 256)) in
    record {
      len = same_length xs (bit / 8) new;
      bytes = λ are. bytes_put xs (bit / 8) new
          (let small = are (bit / 8) in let less = and_le_l old (bit_not w8 (1 * 2 ^ (bit % 8) % 256)) in
          omega (arith, small, less)) are;
      bits = λ other. bit_put xs bit new false other inside (byte_cleared old (bit % 8) (omega arith));
    }

pub set_as : (xs : List ℕ) (bit : ℕ) (is : Bool) → bit < 8 * length xs → is ≡ true
    → HasBit bit is xs (slice_set xs (bit / 8) (bit_or (get_or xs (bit / 8) 0) (1 * 2 ^ (bit % 8) % 256)))
set_as xs bit is inside e =
    subst (λ b. HasBit bit b xs
    (slice_set xs (bit / 8) (bit_or (get_or xs (bit / 8) 0) (1 * 2 ^ (bit % 8) % 256)))) (sym e)
    (has_set xs bit inside)

pub cleared_as : (xs : List ℕ) (bit : ℕ) (is : Bool) → bit < 8 * length xs → is ≡ false
    → HasBit bit is xs
    (slice_set xs (bit / 8) (bit_and (get_or xs (bit / 8) 0) (bit_not w8 (1 * 2 ^ (bit % 8) % 256))))
cleared_as xs bit is inside e =
    subst (λ b. HasBit bit b xs
    (slice_set xs (bit / 8) (bit_and (get_or xs (bit / 8) 0) (bit_not w8 (1 * 2 ^ (bit % 8) % 256))))) (sym e)
    (has_cleared xs bit inside)

-- what is written back to bytes of the same count
pub written_back : (xs rest : List ℕ) (n : ℕ) → length xs ≡ n → take n (xs ++ rest) ≡ xs
written_back xs rest n long = ap (λ k. take k (xs ++ rest)) (sym long) ∙ take-append_seam xs rest
