-- Lemmas: where a lock request is put among others, and the next of what is left.
use Rattle.std.proofs.Common.{◌≡◌, ◌∙◌, ◌+◌, ◌<◌, ◌≤◌, refl, sym, ap, subst, ℕ, zero, suc, Bool, true, false, cond}
use Rattle.std.proofs.Common.{nat_le, nat_lt, List, [], ◌∷◌, ◌++◌, Some, None, length, get_or, take, drop}
use Rattle.std.proofs.Common.{position, set, arith}
use Rattle.std.proofs.lemmas.Bool.Decides.{nat_tests}
use Rattle.std.proofs.lemmas.Iterator.Adapters.{position_from-zero}
use Rattle.std.proofs.lemmas.List.{take-append-drop}
use Rattle.std.specs.List.{insert, position_from}
use Rattle.store_promise.specs.LockRequests.{Rises, inserted, is_barred, upgraded_by, rank_of}
use Rattle.store_workers.specs.Knowing.{IsNextOf, first_of}
use Rattle.store_promise.specs.declared.lock_requests.LockRequest.{LockRequest}
use Rattle.store_promise.proofs.RisingLockRequests.{comes_last, not_barred}

-- an item that is there is it, whatever stands for one that isn't
pub same_at : (lock_requests : List LockRequest) (index : ℕ) (d e : LockRequest) → index < length lock_requests → get_or lock_requests index d ≡ get_or lock_requests index e
same_at [] index d e less = absurd (omega (arith, less))
same_at (x ∷ xs) zero d e less = refl
same_at (x ∷ xs) (suc index) d e less = same_at xs index d e (omega (arith, less))

module _ (one : LockRequest) where
  -- a lock request isn't below it
  abbrev pub test : LockRequest → Bool
  test other = nat_le (rank_of one) (rank_of other)

  -- before the first that is above it
  pub before : (lock_requests : List LockRequest) (index : ℕ) (d : LockRequest) → index < length lock_requests → test (get_or lock_requests index d) ≡ true
      → ((k : ℕ) → k < index → test (get_or lock_requests k d) ≡ false) → (rank_of (get_or lock_requests index d) ≡ rank_of one → ⊥)
      → inserted one lock_requests ≡ insert lock_requests index one
  before [] index d less passes first differs = absurd (omega (arith, less))
  before (x ∷ xs) zero d less passes first differs =
      by (nat_lt (rank_of one) (rank_of x)) refl
    where
      over : rank_of one ≤ rank_of x
      over = grind (arith, nat_tests)

      strictly : (a b : ℕ) → a ≤ b → (b ≡ a → ⊥) → a < b
      strictly a b low not = omega (arith, low, not)

      by : (t : Bool) → nat_lt (rank_of one) (rank_of x) ≡ t → inserted one (x ∷ xs) ≡ one ∷ x ∷ xs
      by true is = ap (λ b. cond b (one ∷ x ∷ xs) (cond (nat_lt (rank_of x) (rank_of one)) (x ∷ inserted one xs)
          (upgraded_by one x ∷ xs))) is
      by false is = absurd (let less = strictly (rank_of one) (rank_of x) over differs in grind (arith, nat_tests))
  before (x ∷ xs) (suc index) d less passes first differs =
      by (nat_lt (rank_of one) (rank_of x)) refl (nat_lt (rank_of x) (rank_of one)) refl
      (before xs index d (omega (arith, less)) passes (λ k low. first (suc k) (omega (arith, low))) differs)
    where
      under : rank_of x < rank_of one
      under = let is = first 0 (omega arith) in grind (arith, nat_tests)

      by : (t : Bool) → nat_lt (rank_of one) (rank_of x) ≡ t → (u : Bool) → nat_lt (rank_of x) (rank_of one) ≡ u
          → inserted one xs ≡ insert xs index one → cond t (one ∷ x ∷ xs) (cond u (x ∷ inserted one xs) (upgraded_by one x ∷ xs))
          ≡ x ∷ insert xs index one
      by true is u also rest = absurd (let low = under in grind (arith, nat_tests))
      by false is true also rest = ap (λ (ys : List LockRequest). x ∷ ys) rest
      by false is false also rest = absurd (let low = under in grind (arith, nat_tests))

  -- where its object is, which is raised
  pub there : (lock_requests : List LockRequest) (index : ℕ) (d : LockRequest) → index < length lock_requests
      → ((k : ℕ) → k < index → test (get_or lock_requests k d) ≡ false) → rank_of (get_or lock_requests index d) ≡ rank_of one
      → inserted one lock_requests ≡ set lock_requests index (upgraded_by one (get_or lock_requests index d))
  there [] index d less first same = absurd (omega (arith, less))
  there (x ∷ xs) zero d less first same =
      by (nat_lt (rank_of one) (rank_of x)) refl (nat_lt (rank_of x) (rank_of one)) refl
    where
      by : (t : Bool) → nat_lt (rank_of one) (rank_of x) ≡ t → (u : Bool) → nat_lt (rank_of x) (rank_of one) ≡ u
          → cond t (one ∷ x ∷ xs) (cond u (x ∷ inserted one xs) (upgraded_by one x ∷ xs)) ≡ upgraded_by one x ∷ xs
      by true is u also = absurd (grind (arith, nat_tests))
      by false is true also = absurd (grind (arith, nat_tests))
      by false is false also = refl
  there (x ∷ xs) (suc index) d less first same =
      by (nat_lt (rank_of one) (rank_of x)) refl (nat_lt (rank_of x) (rank_of one)) refl
      (there xs index d (omega (arith, less)) (λ k low. first (suc k) (omega (arith, low))) same)
    where
      under : rank_of x < rank_of one
      under = let is = first 0 (omega arith) in grind (arith, nat_tests)

      by : (t : Bool) → nat_lt (rank_of one) (rank_of x) ≡ t → (u : Bool) → nat_lt (rank_of x) (rank_of one) ≡ u
          → inserted one xs ≡ set xs index (upgraded_by one (get_or xs index d))
          → cond t (one ∷ x ∷ xs) (cond u (x ∷ inserted one xs) (upgraded_by one x ∷ xs))
          ≡ x ∷ set xs index (upgraded_by one (get_or xs index d))
      by true is u also rest = absurd (let low = under in grind (arith, nat_tests))
      by false is true also rest = ap (λ (ys : List LockRequest). x ∷ ys) rest
      by false is false also rest = absurd (let low = under in grind (arith, nat_tests))

  -- behind all, where each is below it
  behind_all : (lock_requests : List LockRequest) (from : ℕ) → position_from test from lock_requests ≡ None
      → inserted one lock_requests ≡ lock_requests ++ one ∷ []
  behind_all [] from none = refl
  behind_all (x ∷ xs) from none =
      by (test x) refl none (behind_all xs (from + 1))
    where
      by : (t : Bool) → test x ≡ t → cond t (Some from) (position_from test (from + 1) xs) ≡ None
          → (position_from test (from + 1) xs ≡ None → inserted one xs ≡ xs ++ one ∷ [])
          → inserted one (x ∷ xs) ≡ x ∷ xs ++ one ∷ []
      by true is none rest = cc
      by false is none rest =
          go (nat_lt (rank_of one) (rank_of x)) refl (nat_lt (rank_of x) (rank_of one)) refl (rest none)
        where
          go : (t : Bool) → nat_lt (rank_of one) (rank_of x) ≡ t → (u : Bool)
              → nat_lt (rank_of x) (rank_of one) ≡ u → inserted one xs ≡ xs ++ one ∷ []
              → cond t (one ∷ x ∷ xs) (cond u (x ∷ inserted one xs) (upgraded_by one x ∷ xs)) ≡ x ∷ xs ++ one ∷ []
          go true less u also last = absurd (grind (arith, nat_tests))
          go false less true also last = ap (λ (ys : List LockRequest). x ∷ ys) last
          go false less false also last = absurd (grind (arith, nat_tests))

  pub behind : (lock_requests : List LockRequest) → position test lock_requests ≡ None → inserted one lock_requests ≡ lock_requests ++ one ∷ []
  behind lock_requests none = behind_all lock_requests 0 (sym (position_from-zero test lock_requests) ∙ none)

-- ---- the next of what is left

parted : (lock_requests : List LockRequest) (count : ℕ) → count < length lock_requests
    → (next : LockRequest) × (drop count lock_requests ≡ next ∷ drop (suc count) lock_requests)
    × (take (suc count) lock_requests ≡ take count lock_requests ++ next ∷ [])
parted [] count less = absurd (omega (arith, less))
parted (x ∷ xs) zero less = (x, refl, refl)
parted (x ∷ xs) (suc count) less =
    let (next, is, more) = parted xs count (omega (arith, less)) in
    (next, is, ap (λ (ys : List LockRequest). x ∷ ys) more)

one_more : (n : ℕ) → n + 1 ≡ suc n
one_more n = omega arith

pub next_taken : (lock_requests : List LockRequest) (count : ℕ) (one : LockRequest) → Rises lock_requests → count < length lock_requests
    → IsNextOf one (drop count lock_requests)
    → (take (count + 1) lock_requests ≡ inserted one (take count lock_requests)) × (drop (count + 1) lock_requests ≡ drop 1 (drop count lock_requests))
next_taken lock_requests count one rises less is =
    let (next, left, more) = parted lock_requests count less in
    let same : next ≡ one = subst (IsNextOf one) left is in
    let whole : lock_requests ≡ take count lock_requests ++ one ∷ drop (suc count) lock_requests =
    sym (take-append-drop count lock_requests) ∙ ap (λ (xs : List LockRequest). take count lock_requests ++ xs) left
    ∙ ap (λ (a : LockRequest). take count lock_requests ++ a ∷ drop (suc count) lock_requests) same in (
      ap (λ (n : ℕ). take n lock_requests) (one_more count) ∙ more ∙ ap (λ (a : LockRequest). take count lock_requests ++ a ∷ []) same
          ∙ sym (comes_last one (take count lock_requests) (drop (suc count) lock_requests) (subst Rises whole rises)),
      ap (λ (n : ℕ). drop n lock_requests) (one_more count) ∙ sym (ap (λ (xs : List LockRequest). drop 1 xs) left),
    )

-- ---- what is left is barred by nothing that is taken

pub next_free : (lock_requests : List LockRequest) (count : ℕ) (one : LockRequest) → Rises lock_requests → first_of (drop count lock_requests) ≡ Some one
    → is_barred one (take count lock_requests) ≡ false
next_free lock_requests count one rises is = by (drop count lock_requests) refl is
  where
    by : (left : List LockRequest) → drop count lock_requests ≡ left → first_of left ≡ Some one
        → is_barred one (take count lock_requests) ≡ false
    by [] none is = cc
    by (x ∷ xs) some is =
        let same : x ≡ one = cc in
        not_barred one (take count lock_requests) xs (subst Rises (sym (take-append-drop count lock_requests)
        ∙ ap (λ (ys : List LockRequest). take count lock_requests ++ ys) some ∙ ap (λ (a : LockRequest). take count lock_requests ++ a ∷ xs) same) rises)
