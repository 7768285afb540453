-- What tests of numbers show.
use Rattle.std.proofs.Common.{◌≡◌, ◌≢◌, ◌⊎◌, inl, inr, ℕ, ◌<◌, ◌≤◌, sym, ◌∙◌, refl, Bool, true, false, cond}
use Rattle.std.proofs.Common.{not, ◌||◌}
use Rattle.std.proofs.Common.{nat_eq, nat_le, nat_lt, arith}
use Rattle.std.proofs.lemmas.Bool.Decides.{nat_tests}

pub yes_or_no : (b : Bool) → (b ≡ true) ⊎ (b ≡ false)
yes_or_no true = inl refl
yes_or_no false = inr refl

-- a test whose opposite fails
pub passes : (b : Bool) → not b ≡ false → b ≡ true
passes true e = refl
passes false e = cc

-- neither of two tests passes
pub neither : (a b : Bool) → (a || b) ≡ false → (a ≡ false) × (b ≡ false)
neither true b e = cc
neither false b e = (refl, e)

-- a test that counts for nothing
pub one_or_none : (b : Bool) → cond b 1 0 ≤ 0 → b ≡ false
one_or_none true small = absurd (omega (arith, small))
one_or_none false small = refl

-- what counts for at most one
pub at_most_one : (b : Bool) → cond b 1 0 ≤ 1
at_most_one true = omega arith
at_most_one false = omega arith

pub equal : (a b : ℕ) → nat_eq a b ≡ true → a ≡ b
equal a b e = grind (arith, nat_tests, e)

pub is_equal : (a b : ℕ) → a ≡ b → nat_eq a b ≡ true
is_equal a b e = grind (arith, nat_tests, e)

pub differs : (a b : ℕ) → nat_eq a b ≡ false → a ≢ b
differs a b fails same = let never : true ≡ false = sym (is_equal a b same) ∙ fails in cc

pub unequal : (a b : ℕ) → a ≢ b → nat_eq a b ≡ false
unequal a b apart =
    elim (yes_or_no (nat_eq a b)) [
      | inl is ↦ absurd (apart (equal a b is))
      | inr fails ↦ fails
    ]

pub not_above : (a b : ℕ) → nat_lt a b ≡ false → b ≤ a
not_above a b e = grind (arith, nat_tests, e)

pub not_within : (a b : ℕ) → nat_le a b ≡ false → b < a
not_within a b e = grind (arith, nat_tests, e)
