-- The bits of eight bytes, counted together.
use Rattle.std.proofs.Common.{◌≡◌, ℕ, zero, suc, ◌+◌, ◌*◌, ◌<◌, ◌≤◌, ◌^◌, ap, refl, List, [], ◌∷◌}
use Rattle.std.proofs.Common.{take, drop, length, get_or, arith}
use Rattle.std.specs.Int.{from_le_bytes, w64}
use Rattle.std.specs.Int.RustNames.{count_ones}
use Rattle.std.proofs.lemmas.Nat.{ones_cat}
use Rattle.std.proofs.lemmas.List.Sums.{sum_by-cons}
use Rattle.layout_records.specs.Bits.{clear_in, clear_in_byte}
use Rattle.layout_records.proofs.Ones.{clear_bits}

-- a byte below others
lower : (n byte rest : ℕ) → byte < 256 → n ≡ byte + 256 * rest → count_ones n ≡ count_ones byte + count_ones rest
lower n byte rest less is =
    let both = ones_cat 8 rest byte less in
    let sum : n ≡ rest * 2 ^ 8 + byte = omega (arith, is) in
    let all : count_ones n ≡ count_ones (rest * 2 ^ 8 + byte) = ap (λ m. count_ones m) sum in
    omega (arith, both, all)

in_eight : (a b c d e f g h n : ℕ) → a < 256 → b < 256 → c < 256 → d < 256 → e < 256 → f < 256 → g < 256
    → h < 256
    → n ≡ a + 256 * (b + 256 * (c + 256 * (d + 256 * (e + 256 * (f + 256 * (g + 256 * h))))))
    → count_ones n + (0 + clear_in_byte a + clear_in_byte b + clear_in_byte c + clear_in_byte d + clear_in_byte e
    + clear_in_byte f + clear_in_byte g + clear_in_byte h) ≡ 64
in_eight a b c d e f g h n al bl cl dl el fl gl hl is =
    let g7 = g + 256 * h in
    let f7 = f + 256 * g7 in
    let e7 = e + 256 * f7 in
    let d7 = d + 256 * e7 in
    let c7 = c + 256 * d7 in
    let b7 = b + 256 * c7 in
    let one = lower n a b7 al is in
    let two = lower b7 b c7 bl refl in
    let three = lower c7 c d7 cl refl in
    let four = lower d7 d e7 dl refl in
    let five = lower e7 e f7 el refl in
    let six = lower f7 f g7 fl refl in
    let seven = lower g7 g h gl refl in
    omega (
      arith,
      one,
      two,
      three,
      four,
      five,
      six,
      seven,
      clear_bits a al,
      clear_bits b bl,
      clear_bits c cl,
      clear_bits d dl,
      clear_bits e el,
      clear_bits f fl,
      clear_bits g gl,
      clear_bits h hl,
    )

-- the number that eight bytes spell has as many ones as they
pub in_word : (xs : List ℕ) (n : ℕ) → 8 ≤ length xs → ((i : ℕ) → get_or xs i 0 < 256)
    → n ≡ from_le_bytes w64 xs → count_ones n + clear_in (take 8 xs) ≡ 64
in_word (a ∷ b ∷ c ∷ d ∷ e ∷ f ∷ g ∷ h ∷ xs) n less bytes is =
    in_eight a b c d e f g h n (bytes 0) (bytes 1) (bytes 2) (bytes 3) (bytes 4) (bytes 5) (bytes 6) (bytes 7)
    (omega (arith, is))
in_word (a ∷ b ∷ c ∷ d ∷ e ∷ f ∷ g ∷ []) n less bytes is = absurd (omega (arith, less))
in_word (a ∷ b ∷ c ∷ d ∷ e ∷ f ∷ []) n less bytes is = absurd (omega (arith, less))
in_word (a ∷ b ∷ c ∷ d ∷ e ∷ []) n less bytes is = absurd (omega (arith, less))
in_word (a ∷ b ∷ c ∷ d ∷ []) n less bytes is = absurd (omega (arith, less))
in_word (a ∷ b ∷ c ∷ []) n less bytes is = absurd (omega (arith, less))
in_word (a ∷ b ∷ []) n less bytes is = absurd (omega (arith, less))
in_word (a ∷ []) n less bytes is = absurd (omega (arith, less))
in_word [] n less bytes is = absurd (omega (arith, less))

pub next_eight : (xs : List ℕ) (at : ℕ)
    → clear_in (take (at + 8) xs) ≡ clear_in (take at xs) + clear_in (take 8 (drop at xs))
next_eight xs zero =
    let none : clear_in (take 0 xs) ≡ 0 = refl in
    let count : 0 + 8 ≡ 8 = omega arith in
    let all : clear_in (take (0 + 8) xs) ≡ clear_in (take 8 (drop 0 xs)) = ap (λ n. clear_in (take n xs)) count in
    omega (arith, none, all)
next_eight [] (suc at) =
    let count : suc at + 8 ≡ suc (at + 8) = omega arith in
    let all : clear_in (take {A = ℕ} (suc at + 8) []) ≡ 0 = ap (λ n. clear_in (take {A = ℕ} n [])) count in
    let short : clear_in (take {A = ℕ} (suc at) []) ≡ 0 = refl in
    let last : clear_in (take 8 (drop {A = ℕ} (suc at) [])) ≡ 0 = refl in
    omega (arith, all, short, last)
next_eight (x ∷ xs) (suc at) =
    let rest = next_eight xs at in
    let count : suc at + 8 ≡ suc (at + 8) = omega arith in
    let is : clear_in (take (suc at + 8) (x ∷ xs)) ≡ clear_in (x ∷ take (at + 8) xs) =
    ap (λ n. clear_in (take n (x ∷ xs))) count in
    let long = sum_by-cons clear_in_byte x (take (at + 8) xs) in
    let short = sum_by-cons clear_in_byte x (take at xs) in
    omega (arith, rest, is, long, short)
