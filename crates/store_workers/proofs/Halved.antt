-- Lemmas: the first lock request whose rank isn't below another, among lock requests that rise.
use Rattle.std.proofs.Common.{◌≡◌, ◌∙◌, ◌<◌, ◌≤◌, refl, sym, ap, ℕ, zero, suc, Bool, true, false, cond, ltb, nat_le, nat_lt, List, [], ◌∷◌, Option, Some, None}
use Rattle.std.proofs.Common.{length, position, arith}
use Rattle.std.proofs.lemmas.Bool.Decides.{nat_tests}
use Rattle.std.proofs.lemmas.List.Sums.{position_or_len_is}
use Rattle.std.specs.List.{position_or_len}
use Rattle.std.specs.List.Sorted.{IsNonDecreasingBy, IsPartitionPoint}
use Rattle.store_promise.specs.LockRequests.{Rises, rank_of}
use Rattle.store_promise.specs.declared.lock_requests.LockRequest.{LockRequest}

-- their ranks don't fall
pub not_falling : (lock_requests : List LockRequest) → Rises lock_requests → IsNonDecreasingBy rank_of lock_requests
not_falling [] rises i j d low less = absurd (omega (arith, less))
not_falling (x ∷ xs) rises zero zero d low less = omega arith
not_falling (x ∷ xs) rises zero (suc j) d low less =
    let above = rises.0 j d (omega (arith, less)) in omega (arith, above)
not_falling (x ∷ xs) rises (suc i) zero d low less = absurd (omega (arith, low))
not_falling (x ∷ xs) rises (suc i) (suc j) d low less =
    not_falling xs rises.1 i j d (omega (arith, low)) (omega (arith, less))

module _ (rank : ℕ) where
  abbrev test : LockRequest → Bool
  test other = nat_le rank (rank_of other)

  isnt : (y : LockRequest) → ltb (rank_of y) rank ≡ true → test y ≡ false
  isnt y below = grind (arith, nat_tests, below)

  is : (y : LockRequest) → ltb (rank_of y) rank ≡ false → test y ≡ true
  is y above = grind (arith, nat_tests, above)

  abbrev pub IsHalf : List LockRequest → ℕ → Type 0
  IsHalf lock_requests index = IsPartitionPoint (λ y. ltb (rank_of y) rank ≡ true) (λ y. ltb (rank_of y) rank ≡ false) lock_requests index

  first : (lock_requests : List LockRequest) (index : ℕ) → index ≤ length lock_requests → IsHalf lock_requests index
      → position_or_len test lock_requests ≡ index
  first [] index within point = omega (arith, within)
  first (x ∷ xs) index within point =
      position_or_len_is test (x ∷ xs) index x within (λ k less. isnt _ (point.0 k x (omega arith) less))
      (λ less. is _ (point.1 index x (omega arith) less))

  pub there : (lock_requests : List LockRequest) (index : ℕ) → index ≤ length lock_requests → IsHalf lock_requests index → index < length lock_requests
      → Some index ≡ position test lock_requests
  there lock_requests index within point less =
      by (nat_lt index (length lock_requests)) refl
      ∙ ap (λ (n : ℕ). cond (nat_lt n (length lock_requests)) (Some n) None) (sym (first lock_requests index within point))
    where
      by : (t : Bool) → nat_lt index (length lock_requests) ≡ t → Some index ≡ cond (nat_lt index (length lock_requests)) (Some index) None
      by true is = ap (λ b. cond b (Some index) None) (sym is)
      by false is = absurd (grind (arith, nat_tests, is, less))

  pub none : (lock_requests : List LockRequest) (index : ℕ) → index ≤ length lock_requests → IsHalf lock_requests index → length lock_requests ≤ index
      → None ≡ position test lock_requests
  none lock_requests index within point past =
      by (nat_lt index (length lock_requests)) refl
      ∙ ap (λ (n : ℕ). cond (nat_lt n (length lock_requests)) (Some n) None) (sym (first lock_requests index within point))
    where
      by : (t : Bool) → nat_lt index (length lock_requests) ≡ t → None ≡ cond (nat_lt index (length lock_requests)) (Some index) None
      by true is = absurd (grind (arith, nat_tests, is, past))
      by false is = ap (λ b. cond b (Some index) None) (sym is)
