-- One more value keeps the numbers.
use Rattle.std.proofs.Common.{arith, ap, sym, refl, ◌≡◌, ℕ, ◌+◌, length, [], ◌∷◌, ◌++◌, Result}
use Rattle.std.specs.Prelude.{suc}
use Rattle.std.proofs.lemmas.List.{length-append}
use Rattle.disk.specs.declared.device.Failed.{Failed}
use Rattle.wal_calls.specs.Seats.Numbers.{Taken, number_of, numbers, upto}
use Rattle.wal_calls.specs.declared.seats.handed.HandedOut.{HandedOut}

upto_suc : (n : ℕ) → upto (n + 1) ≡ upto n ++ (n + 1) ∷ []
upto_suc n = let e : n + 1 ≡ suc n = omega arith in rw e refl

numbers_snoc : (xs : Taken) (x : HandedOut × Result Unit Failed)
    → numbers (xs ++ x ∷ []) ≡ numbers xs ++ number_of x.0 ∷ []
numbers_snoc [] x = refl
numbers_snoc (y ∷ ys) x = ap (λ zs. number_of y.0 ∷ zs) (numbers_snoc ys x)

pub length_snoc : (xs : Taken) (x : HandedOut × Result Unit Failed) → length (xs ++ x ∷ []) ≡ length xs + 1
length_snoc xs x = length-append xs (x ∷ [])

pub one_more : (xs : Taken) (x : HandedOut × Result Unit Failed) → numbers xs ≡ upto (length xs)
    → number_of x.0 ≡ length xs + 1 → numbers (xs ++ x ∷ []) ≡ upto (length (xs ++ x ∷ []))
one_more xs x so next = rw (numbers_snoc xs x, length_snoc xs x, so, next) (sym (upto_suc (length xs)))
