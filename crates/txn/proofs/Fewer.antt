-- Once a transaction that is out has ended, fewer are out.
use Rattle.std.proofs.Common.{arith, ◌≡◌, sym, ap, subst, ℕ, ◌<◌, ◌≤◌, Bool, true, false, not}
use Rattle.std.proofs.Common.{List, [], ◌∷◌, length, nat_eq, cond, slice_index}
use Rattle.std.specs.List.{filter}
use Rattle.std.proofs.lemmas.Bool.Decides.{nat_tests}
use Rattle.txn_law.specs.Core.{without}

step : (b : Bool) (x : ℕ) (xs ys : List ℕ) → length ys ≤ length xs
    → length (cond b (x ∷ ys) ys) ≤ length (x ∷ xs)
step true x xs ys le = omega (arith, le)
step false x xs ys le = omega (arith, le)

no_more : (p : ℕ → Bool) (xs : List ℕ) → length (filter p xs) ≤ length xs
no_more p [] = omega arith
no_more p (x ∷ xs) = step (p x) x xs (filter p xs) (no_more p xs)

itself : (n : ℕ) → nat_eq n n ≡ true
itself n = grind (arith, nat_tests)

first : (b : Bool) (n : ℕ) (rest ys : List ℕ) → b ≡ false → length ys ≤ length rest
    → length (cond b (n ∷ ys) ys) < length (n ∷ rest)
first b n rest ys is le = subst (λ (b : Bool). length (cond b (n ∷ ys) ys) < length (n ∷ rest)) (sym is)
    (omega (arith, le))

pub fewer : (out : List ℕ) → 0 < length out → length (without (slice_index out 0) out) < length out
fewer [] some = absurd (omega (arith, some))
fewer (n ∷ rest) some =
    first (not (nat_eq n n)) n rest (filter (λ other. not (nat_eq other n)) rest) (ap not (itself n))
    (no_more (λ other. not (nat_eq other n)) rest)
