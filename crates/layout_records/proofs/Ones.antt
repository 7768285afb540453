-- The bits of a byte, counted one by one.
use Rattle.std.proofs.Common.{◌≡◌, ℕ, zero, suc, ◌+◌, ◌*◌, ◌/◌, ◌%◌, ◌<◌, ◌^◌, ap, refl, cond, not, nat_eq}
use Rattle.std.proofs.Common.{arith}
use Rattle.std.specs.Int.RustNames.{count_ones}
use Rattle.std.proofs.lemmas.Nat.{ones_cat}
use Rattle.layout_records.specs.Bits.{clear_in_byte}

abbrev ones : ℕ → ℕ
ones n = count_ones n

small_ones : (r : ℕ) → r < 2 → ones r ≡ r
unfolding count_ones
small_ones zero less = refl
small_ones (suc zero) less = refl
small_ones (suc (suc r)) less = absurd (omega (arith, less))

-- a number has the ones of its half and its last bit
halved : (n : ℕ) → ones n ≡ ones (n / 2) + n % 2
halved n =
    let parts : n / 2 * 2 ^ 1 + n % 2 ≡ n = omega arith in
    let last = small_ones (n % 2) (omega arith) in
    let both = ones_cat 1 (n / 2) (n % 2) (omega arith) in
    let all = ap ones parts in
    omega (arith, last, both, all)

step_none : (n : ℕ) → n ≡ 0 → ones n ≡ 0
unfolding count_ones
step_none n is = ap ones is

step : (n m k : ℕ) → n / 2 ≡ m → n % 2 ≡ k → ones n ≡ ones m + k
step n m k half last =
    let all = halved n in
    let is = ap ones half in
    omega (arith, all, is, last)

abbrev clear : ℕ → ℕ
clear bit = cond (not (nat_eq bit 1)) 1 0

turned : (bit : ℕ) → bit < 2 → clear bit + bit ≡ 1
turned zero less = refl
turned (suc zero) less = refl
turned (suc (suc bit)) less = absurd (omega (arith, less))

pub clear_bits : (n : ℕ) → n < 256 → clear_in_byte n + ones n ≡ 8
clear_bits n less =
    let at : ℕ → ℕ = λ d. n / d % 2 in
    let a = step n (n / 2) (at 1) refl (omega arith) in
    let b = step (n / 2) (n / 4) (at 2) (omega arith) refl in
    let c = step (n / 4) (n / 8) (at 4) (omega arith) refl in
    let d = step (n / 8) (n / 16) (at 8) (omega arith) refl in
    let e = step (n / 16) (n / 32) (at 16) (omega arith) refl in
    let f = step (n / 32) (n / 64) (at 32) (omega arith) refl in
    let g = step (n / 64) (n / 128) (at 64) (omega arith) refl in
    let h = step (n / 128) (n / 256) (at 128) (omega arith) refl in
    let none = step_none (n / 256) (omega (arith, less)) in
    let bits : clear_in_byte n ≡ 0 + clear (at 1) + clear (at 2) + clear (at 4) + clear (at 8) + clear (at 16)
    + clear (at 32) + clear (at 64) + clear (at 128) = refl in
    omega (
      arith,
      a,
      b,
      c,
      d,
      e,
      f,
      g,
      h,
      none,
      bits,
      turned (at 1) (omega arith),
      turned (at 2) (omega arith),
      turned (at 4) (omega arith),
      turned (at 8) (omega arith),
      turned (at 16) (omega arith),
      turned (at 32) (omega arith),
      turned (at 64) (omega arith),
      turned (at 128) (omega arith),
    )
