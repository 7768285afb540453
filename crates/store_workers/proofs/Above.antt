-- Lemmas: a lock request above the last of others comes behind them.
use Rattle.std.proofs.Common.{◌≡◌, ◌+◌, ◌<◌, ◌≤◌, refl, ap, ℕ, zero, suc, Bool, true, false, cond, nat_lt, List, [], ◌∷◌, ◌++◌}
use Rattle.std.proofs.Common.{length, get_or, arith}
use Rattle.std.proofs.lemmas.Bool.Decides.{nat_tests}
use Rattle.store_promise.specs.LockRequests.{Rises, inserted, upgraded_by, rank_of}
use Rattle.store_promise.specs.declared.lock_requests.LockRequest.{LockRequest}

-- no lock request is above the last one
below_last : (lock_requests : List LockRequest) (last k : ℕ) (d : LockRequest) → Rises lock_requests → length lock_requests ≡ last + 1 → k < length lock_requests
    → rank_of (get_or lock_requests k d) ≤ rank_of (get_or lock_requests last d)
below_last [] last k d rises long less = absurd (omega (arith, less))
below_last (x ∷ xs) zero zero d rises long less = omega arith
below_last (x ∷ xs) zero (suc k) d rises long less = absurd (omega (arith, long, less))
below_last (x ∷ xs) (suc last) zero d rises long less =
    let above = rises.0 last d (omega (arith, long)) in omega (arith, above)
below_last (x ∷ xs) (suc last) (suc k) d rises long less =
    below_last xs last k d rises.1 (omega (arith, long)) (omega (arith, less))

module _ (one : LockRequest) where
  -- a lock request above each of them comes last
  above_each : (lock_requests : List LockRequest) (d : LockRequest) → ((k : ℕ) → k < length lock_requests → rank_of (get_or lock_requests k d) < rank_of one)
      → inserted one lock_requests ≡ lock_requests ++ one ∷ []
  above_each [] d each = refl
  above_each (x ∷ xs) d each =
      by (nat_lt (rank_of one) (rank_of x)) refl (nat_lt (rank_of x) (rank_of one)) refl
      (above_each xs d (λ k less. each (suc k) (omega (arith, less))))
    where
      under : rank_of x < rank_of one
      under = each 0 (omega arith)

      by : (t : Bool) → nat_lt (rank_of one) (rank_of x) ≡ t → (u : Bool) → nat_lt (rank_of x) (rank_of one) ≡ u
          → inserted one xs ≡ xs ++ one ∷ []
          → cond t (one ∷ x ∷ xs) (cond u (x ∷ inserted one xs) (upgraded_by one x ∷ xs)) ≡ x ∷ xs ++ one ∷ []
      by true is u also rest = absurd (let low = under in grind (arith, nat_tests))
      by false is true also rest = ap (λ (ys : List LockRequest). x ∷ ys) rest
      by false is false also rest = absurd (let low = under in grind (arith, nat_tests))

  pub above_last : (lock_requests : List LockRequest) (last : ℕ) (d : LockRequest) → Rises lock_requests → length lock_requests ≡ last + 1
      → rank_of (get_or lock_requests last d) < rank_of one → inserted one lock_requests ≡ lock_requests ++ one ∷ []
  above_last lock_requests last d rises long less =
      above_each lock_requests d (λ k low. omega (arith, less, below_last lock_requests last k d rises long low))

  pub above_none : (lock_requests : List LockRequest) → length lock_requests ≡ 0 → inserted one lock_requests ≡ lock_requests ++ one ∷ []
  above_none [] none = refl
  above_none (x ∷ xs) none = absurd (omega (arith, none))

pub is_less : (a b : ℕ) → nat_lt a b ≡ true → a < b
is_less a b is = grind (arith, nat_tests)
