-- The bits of a bitmap that was just made.
use Rattle.std.proofs.Common.{◌≡◌, ℕ, zero, suc, ◌+◌, ◌*◌, ◌/◌, ◌%◌, ◌^◌, ◌<◌, ◌≤◌, Bool, true, false, List}
use Rattle.std.proofs.Common.{get_or, nat_eq, refl, ap, ◌∙◌, arith}
use Rattle.std.proofs.lemmas.List.FromFn.{get_or-map-range_with_len}
use Rattle.base.specs.declared.TheConstants.{BITS_PER_BLOCK, BLOCK_BYTES}
use Rattle.disk.specs.Crash.{Image}
use Rattle.layout.specs.Fresh.{bit, byte_of, bitmap_block}
use Rattle.layout.specs.Parts.{bit_at}

small : (b : Bool) → bit b ≤ 1
small true = omega arith
small false = omega arith

is_bit : (b : Bool) → nat_eq (bit b) 1 ≡ b
is_bit true = refl
is_bit false = refl

-- a byte of eight bits
module _ (a b c d e f g h : ℕ) (a1 : a ≤ 1) (b1 : b ≤ 1) (c1 : c ≤ 1) (d1 : d ≤ 1) (e1 : e ≤ 1) (f1 : f ≤ 1)
    (g1 : g ≤ 1) (h1 : h ≤ 1) where
  abbrev byte : ℕ
  byte = a + 2 * b + 4 * c + 8 * d + 16 * e + 32 * f + 64 * g + 128 * h

  bit_a : byte / 1 % 2 ≡ a
  bit_a = omega (arith, a1, b1, c1, d1, e1, f1, g1, h1)

  bit_b : byte / 2 % 2 ≡ b
  bit_b = omega (arith, a1, b1, c1, d1, e1, f1, g1, h1)

  bit_c : byte / 4 % 2 ≡ c
  bit_c = omega (arith, a1, b1, c1, d1, e1, f1, g1, h1)

  bit_d : byte / 8 % 2 ≡ d
  bit_d = omega (arith, a1, b1, c1, d1, e1, f1, g1, h1)

  bit_e : byte / 16 % 2 ≡ e
  bit_e = omega (arith, a1, b1, c1, d1, e1, f1, g1, h1)

  bit_f : byte / 32 % 2 ≡ f
  bit_f = omega (arith, a1, b1, c1, d1, e1, f1, g1, h1)

  bit_g : byte / 64 % 2 ≡ g
  bit_g = omega (arith, a1, b1, c1, d1, e1, f1, g1, h1)

  bit_h : byte / 128 % 2 ≡ h
  bit_h = omega (arith, a1, b1, c1, d1, e1, f1, g1, h1)

module _ (marked : ℕ → Bool) (n : ℕ) where
  -- the bit of an index in a byte
  pub picked : (j : ℕ) → j < 8 → byte_of marked n / 2 ^ j % 2 ≡ bit (marked (n + j))
  picked zero _ =
      bit_a (bit (marked n)) (bit (marked (n + 1))) (bit (marked (n + 2))) (bit (marked (n + 3)))
      (bit (marked (n + 4))) (bit (marked (n + 5))) (bit (marked (n + 6))) (bit (marked (n + 7)))
      (small (marked n)) (small (marked (n + 1))) (small (marked (n + 2))) (small (marked (n + 3)))
      (small (marked (n + 4))) (small (marked (n + 5))) (small (marked (n + 6))) (small (marked (n + 7)))
      ∙ ap (λ m. bit (marked m)) (omega arith)
  picked (suc zero) _ =
      bit_b (bit (marked n)) (bit (marked (n + 1))) (bit (marked (n + 2))) (bit (marked (n + 3)))
      (bit (marked (n + 4))) (bit (marked (n + 5))) (bit (marked (n + 6))) (bit (marked (n + 7)))
      (small (marked n)) (small (marked (n + 1))) (small (marked (n + 2))) (small (marked (n + 3)))
      (small (marked (n + 4))) (small (marked (n + 5))) (small (marked (n + 6))) (small (marked (n + 7)))
  picked (suc (suc zero)) _ =
      bit_c (bit (marked n)) (bit (marked (n + 1))) (bit (marked (n + 2))) (bit (marked (n + 3)))
      (bit (marked (n + 4))) (bit (marked (n + 5))) (bit (marked (n + 6))) (bit (marked (n + 7)))
      (small (marked n)) (small (marked (n + 1))) (small (marked (n + 2))) (small (marked (n + 3)))
      (small (marked (n + 4))) (small (marked (n + 5))) (small (marked (n + 6))) (small (marked (n + 7)))
  picked (suc (suc (suc zero))) _ =
      bit_d (bit (marked n)) (bit (marked (n + 1))) (bit (marked (n + 2))) (bit (marked (n + 3)))
      (bit (marked (n + 4))) (bit (marked (n + 5))) (bit (marked (n + 6))) (bit (marked (n + 7)))
      (small (marked n)) (small (marked (n + 1))) (small (marked (n + 2))) (small (marked (n + 3)))
      (small (marked (n + 4))) (small (marked (n + 5))) (small (marked (n + 6))) (small (marked (n + 7)))
  picked (suc (suc (suc (suc zero)))) _ =
      bit_e (bit (marked n)) (bit (marked (n + 1))) (bit (marked (n + 2))) (bit (marked (n + 3)))
      (bit (marked (n + 4))) (bit (marked (n + 5))) (bit (marked (n + 6))) (bit (marked (n + 7)))
      (small (marked n)) (small (marked (n + 1))) (small (marked (n + 2))) (small (marked (n + 3)))
      (small (marked (n + 4))) (small (marked (n + 5))) (small (marked (n + 6))) (small (marked (n + 7)))
  picked (suc (suc (suc (suc (suc zero))))) _ =
      bit_f (bit (marked n)) (bit (marked (n + 1))) (bit (marked (n + 2))) (bit (marked (n + 3)))
      (bit (marked (n + 4))) (bit (marked (n + 5))) (bit (marked (n + 6))) (bit (marked (n + 7)))
      (small (marked n)) (small (marked (n + 1))) (small (marked (n + 2))) (small (marked (n + 3)))
      (small (marked (n + 4))) (small (marked (n + 5))) (small (marked (n + 6))) (small (marked (n + 7)))
  picked (suc (suc (suc (suc (suc (suc zero)))))) _ =
      bit_g (bit (marked n)) (bit (marked (n + 1))) (bit (marked (n + 2))) (bit (marked (n + 3)))
      (bit (marked (n + 4))) (bit (marked (n + 5))) (bit (marked (n + 6))) (bit (marked (n + 7)))
      (small (marked n)) (small (marked (n + 1))) (small (marked (n + 2))) (small (marked (n + 3)))
      (small (marked (n + 4))) (small (marked (n + 5))) (small (marked (n + 6))) (small (marked (n + 7)))
  picked (suc (suc (suc (suc (suc (suc (suc zero))))))) _ =
      bit_h (bit (marked n)) (bit (marked (n + 1))) (bit (marked (n + 2))) (bit (marked (n + 3)))
      (bit (marked (n + 4))) (bit (marked (n + 5))) (bit (marked (n + 6))) (bit (marked (n + 7)))
      (small (marked n)) (small (marked (n + 1))) (small (marked (n + 2))) (small (marked (n + 3)))
      (small (marked (n + 4))) (small (marked (n + 5))) (small (marked (n + 6))) (small (marked (n + 7)))
  picked (suc (suc (suc (suc (suc (suc (suc (suc j)))))))) less = absurd (omega (arith, less))

byte_in : (marked : ℕ → Bool) (first index : ℕ) → index < BLOCK_BYTES
    → get_or (bitmap_block marked first) index 0 ≡ byte_of marked (first + 8 * index)
unfolding bitmap_block
byte_in marked first index less =
    get_or-map-range_with_len (λ k. byte_of marked (first + 8 * k)) 0 BLOCK_BYTES index index 0 less
    (omega arith)

-- a bit of a bitmap, whose block holds just what is marked
pub bit_is : (image : Image) (first number : ℕ) (marked : ℕ → Bool)
    → image (first + number / BITS_PER_BLOCK)
    ≡ bitmap_block marked (BITS_PER_BLOCK * (number / BITS_PER_BLOCK))
    → bit_at image first number ≡ marked number
unfolding bit_at
bit_is image first number marked there =
    let index : ℕ = number % BITS_PER_BLOCK / 8 in
    let from : ℕ = BITS_PER_BLOCK * (number / BITS_PER_BLOCK) + 8 * (number % BITS_PER_BLOCK / 8) in
    let byte : get_or (image (first + number / BITS_PER_BLOCK)) (number % BITS_PER_BLOCK / 8) 0
    ≡ byte_of marked from =
    ap (λ (bytes : List ℕ). get_or bytes (number % BITS_PER_BLOCK / 8) 0) there
    ∙ byte_in marked (BITS_PER_BLOCK * (number / BITS_PER_BLOCK)) (number % BITS_PER_BLOCK / 8)
    (omega arith) in
    let whole : from + number % 8 ≡ number = omega arith in
    ap (λ n. nat_eq (n / 2 ^ (number % 8) % 2) 1) byte
    ∙ ap (λ n. nat_eq n 1) (picked marked from (number % 8) (omega arith))
    ∙ is_bit (marked (from + number % 8)) ∙ ap marked whole
