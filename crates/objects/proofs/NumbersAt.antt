-- Numbers one behind another.
use Rattle.std.proofs.Common.{◌≡◌, ℕ, zero, suc, ◌+◌, ◌*◌, ◌<◌, List, [], ◌∷◌, ◌++◌, length, get_or, refl}
use Rattle.std.proofs.Common.{ap, ◌∙◌, arith}
use Rattle.objects.specs.Numbers.{four_at, numbers_at}

-- one number more
pub more : (count offset : ℕ) (bytes : List ℕ)
    → numbers_at (suc count) offset bytes ≡ numbers_at count offset bytes
    ++ four_at (offset + 4 * count) bytes ∷ []
unfolding numbers_at
more zero offset bytes = ap (λ p. four_at p bytes ∷ []) (omega arith)
more (suc count) offset bytes =
    ap (λ rest. four_at offset bytes ∷ rest) (more count (offset + 4) bytes
    ∙ ap (λ p. numbers_at count (offset + 4) bytes ++ four_at p bytes ∷ []) (omega arith))

pub numbers-length : (count offset : ℕ) (bytes : List ℕ) → length (numbers_at count offset bytes) ≡ count
unfolding numbers_at
numbers-length zero offset bytes = refl
numbers-length (suc count) offset bytes = ap suc (numbers-length count (offset + 4) bytes)

pub no_numbers : (offset : ℕ) (bytes : List ℕ) → numbers_at 0 offset bytes ≡ []
unfolding numbers_at
no_numbers offset bytes = refl

pub one_more : (count : ℕ) (bytes : List ℕ) → numbers_at (count + 1) 0 bytes ≡ numbers_at count 0 bytes
    ++ four_at (4 * count) bytes ∷ []
one_more count bytes =
    let next : count + 1 ≡ suc count = omega arith in
    let there : 0 + 4 * count ≡ 4 * count = omega arith in
    ap (λ n. numbers_at n 0 bytes) next ∙ more count 0 bytes
    ∙ ap (λ p. numbers_at count 0 bytes ++ four_at p bytes ∷ []) there

-- the number at an index
pub number_at : (count offset : ℕ) (bytes : List ℕ) (index : ℕ) → index < count
    → get_or (numbers_at count offset bytes) index 0 ≡ four_at (offset + 4 * index) bytes
unfolding numbers_at
number_at zero offset bytes index less = absurd (omega (arith, less))
number_at (suc count) offset bytes zero less = ap (λ p. four_at p bytes) (omega arith)
number_at (suc count) offset bytes (suc index) less =
    number_at count (offset + 4) bytes index (omega (arith, less)) ∙ ap (λ p. four_at p bytes) (omega arith)
