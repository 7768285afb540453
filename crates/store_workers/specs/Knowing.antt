-- What a worker's call knows, without where it lies in memory.
use Rattle.std.specs.Prelude.{◌≡◌, Bool, false, Option, Some, None, List, [], ◌∷◌, ◌++◌, drop}
use Rattle.store_promise.specs.LockRequests.{inserted}
use Rattle.store_promise.specs.Progress.{with_request}
use Rattle.store_promise.specs.declared.lock_requests.LockRequest.{LockRequest}

-- what its transaction has taken, what is left to be taken again, what it was kept off from, and whether room was
-- made to note one more
pub record Knowing : Type 0 where
  pub taken : List LockRequest
  pub left : List LockRequest
  pub off : Option LockRequest
  pub has_space : Bool

abbrev pub nothing_known : Knowing
nothing_known = record { taken = []; left = []; off = None; has_space = false }

-- the first of a list
abbrev pub first_of : List LockRequest → Option LockRequest
first_of [] = None
first_of (first ∷ later) = Some first

-- one more is taken, which was the next that was left, if any was
abbrev pub with_lock_request : LockRequest → Knowing → Knowing
with_lock_request one knowing = record {
  taken = inserted one knowing.taken;
  left = drop 1 knowing.left;
  off = None;
  has_space = false;
}

-- it was kept off from this
abbrev pub with_off : LockRequest → Knowing → Knowing
with_off request knowing = record knowing { off = Some request }

-- it was kept off from nothing
abbrev pub without_off : Knowing → Knowing
without_off knowing = record knowing { off = None }

-- what the call knows then
abbrev pub known_in : Knowing → List LockRequest
known_in knowing = with_request knowing.off (knowing.taken ++ knowing.left)

-- all is given back, and what is known is to be taken again
abbrev pub given_back : Knowing → Knowing
given_back knowing = record { taken = []; left = known_in knowing; off = None; has_space = false }

-- it is the next of what is left, if anything is
abbrev pub IsNextOf : LockRequest → List LockRequest → Type 0
IsNextOf one [] = Unit {0}
IsNextOf one (next ∷ later) = next ≡ one
