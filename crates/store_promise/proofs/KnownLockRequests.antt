-- What transactions have taken, and what their calls know, are lock requests of the image that rise: each step keeps it.
use Rattle.std.proofs.Common.{◌≡◌, ◌∙◌, refl, sym, ap, subst, ℕ, ◌⊎◌, inl, inr, Bool, true, false}
use Rattle.std.proofs.lemmas.Bool.Decides.{nat_tests}
use Rattle.std.proofs.Common.{◌||◌, if◌then◌else◌, nat_eq, List, [], ◌∷◌, ◌++◌, All, Option, Some, None, Ok, arith}
use Rattle.std.specs.Prelude.{Contains, IfSome, drop, map}
use Rattle.std.proofs.lemmas.List.{append_assoc, append-nil}
use Rattle.std.proofs.lemmas.List.Elements.{All-cons, All-head, All-nil, All-push, All-tail}
use Rattle.std.proofs.lemmas.List.Elements.{All-weaker}
use Rattle.disk.specs.declared.block.BlockNo.{BlockNo}
use Rattle.inode.proofs.AllTests.{all_three, same_number}
use Rattle.inode.specs.Snap.{same_addr}
use Rattle.layout.specs.declared.geometry.Geometry.{Geometry}
use Rattle.objects.specs.Mode.{upgraded}
use Rattle.objects.specs.declared.addr.Addr.{Addr}
use Rattle.objects.specs.declared.mode.Mode.{Mode}
use Rattle.objects.specs.declared.mode.Mode.TheVariants as modes
use Rattle.txn_law.proofs.Again as again
use Rattle.nfs_spec.specs.Model.Calls.{is_answered_stable}
use Rattle.store_promise.specs.LockRequests.{AreOfOne, IsCovered, Rises, inserted, is_barred, upgraded_by}
use Rattle.store_promise.specs.declared.lock_requests.LockRequest.{LockRequest}
use Rattle.store_promise.specs.declared.lock_requests.LockRequest.TheVariants as lock_request
use Rattle.store_promise.specs.declared.events.Committing.{Committing}
use Rattle.store_promise.specs.declared.events.Committing.TheVariants as committing
use Rattle.store_promise.specs.declared.events.Event.{Event}
use Rattle.store_promise.specs.declared.events.Event.TheVariants as event
use Rattle.store_promise.specs.declared.events.Step.{Step}
use Rattle.store_promise.specs.declared.events.Step.TheVariants as step
use Rattle.store_promise.specs.declared.events.LockAnswer.{LockAnswer}
use Rattle.store_promise.specs.declared.events.LockAnswer.TheVariants as lock_answer
use Rattle.store_promise.specs.Progress.{Again, At, Begun, Called, Idle, Job, Planning, Progress, Read, Reading}
use Rattle.store_promise.specs.Progress.{Refused, Stage, Taken, Waiting, after_called, after_claimed, after_commit}
use Rattle.store_promise.specs.Progress.{after_planning, after_waiting, after_wanted, lock_request_of, is_in_read_set, upgraded_object_read}
use Rattle.store_promise.specs.Progress.{claimed_by, fresh, going_on, deferred, known_then, progressed, object_read_by}
use Rattle.store_promise.specs.Progress.{with_claimed, with_held, with_taken, read_set_with}
use Rattle.store_promise.specs.Schedule.{IsRetaking, IsStepRetakingFirst, IsStepByPlan, IsStepOfRead}
use Rattle.store_promise.specs.EventSteps.{AreTaken}
use Rattle.store_promise.specs.Schedule.{IsStepOfWork, IsStepWithin, Schedule, Setting, RunState}
use Rattle.store_promise.specs.EventSteps.{IsTaken}
use Rattle.store_promise.specs.Schedule.{progress_before, state_after}
use Rattle.store_promise.specs.Waiting.{AreLockRequests, AreTakenAt, AreTakenBy, HasTakenWell, IsLockRequest}
use Rattle.store_promise.proofs.AlongEvents.{along}
use Rattle.store_promise.proofs.RisingLockRequests.{all_more, claim_there, comes_last, is_preserved, preserved_claim, still_rises, there}
use Rattle.store_promise.proofs.RunStates.{may_be}

-- two addresses that are one
one_addr : (a b : Addr) → same_addr a b ≡ true → a ≡ b
one_addr a b is =
    let all = all_three (nat_eq a.block.0 b.block.0) (nat_eq a.offset b.offset) (nat_eq a.len b.len) is in
    again.same_addr a b (same_number a.block.0 b.block.0 all.0) (same_number a.offset b.offset all.1)
    (same_number a.len b.len all.2)

module _ (g : Geometry) where
  -- ---- one more is taken

  -- it is the next of those that are left, or nothing is left
  abbrev pub IsNext : LockRequest → List LockRequest → Type 0
  IsNext one [] = Unit {0}
  IsNext one (next ∷ later) = next ≡ one

  -- an object that is raised is of the image still
  upgrade : (one first : LockRequest) → AreOfOne first one → IsLockRequest g first → IsLockRequest g (upgraded_by one first)
  upgrade (lock_request.Object asked request) (lock_request.Object addr mode) same is = is
  upgrade (lock_request.Object asked request) (lock_request.Claim block) same is = is
  upgrade (lock_request.Claim block) first same is = is

  with_one : (taken left : List LockRequest) (one : LockRequest) → IsNext one left → IsLockRequest g one → AreLockRequests g (taken ++ left)
      → AreLockRequests g (inserted one taken ++ drop 1 left)
  with_one taken [] one next is are = record {
    of_image = subst (All (IsLockRequest g)) (sym (append-nil (inserted one taken)))
        (all_more one (IsLockRequest g) taken is (upgrade one) (subst (All (IsLockRequest g)) (append-nil taken) are.of_image));
    rise = subst Rises (sym (append-nil (inserted one taken)))
        (still_rises one taken (subst Rises (append-nil taken) are.rise));
  }
  with_one taken (next ∷ later) one same is are =
      subst (AreLockRequests g) (sym (ap (λ (xs : List LockRequest). xs ++ later) (comes_last one taken later
      (subst (λ (n : LockRequest). Rises (taken ++ n ∷ later)) same are.rise)) ∙ append_assoc taken (one ∷ []) later))
      (subst (λ (n : LockRequest). AreLockRequests g (taken ++ n ∷ later)) same are)

  -- what was taken is taken still
  module _ (begun : Begun) (one : LockRequest) (next : IsNext one begun.left) (is : IsLockRequest g one)
      (are : AreTakenBy g begun) where
    still : (other : LockRequest) → IsCovered begun.taken other → IsCovered (inserted one begun.taken) other
    still other has = is_preserved one begun.taken other has

    none_left : (left : List LockRequest) → (left ≡ []) ⊎ ((begun.held ≡ []) × (begun.claimed ≡ []))
        → (drop 1 left ≡ []) ⊎ ((begun.held ≡ []) × (begun.claimed ≡ []))
    none_left [] first = inl refl
    none_left (x ∷ xs) (inl none) = cc
    none_left (x ∷ xs) (inr both) = inr both

    pub taken_too : AreTakenBy g (with_taken begun one)
    taken_too = record {
      lock_requests = with_one begun.taken begun.left one next is are.lock_requests;
      held = All-weaker (λ (t : Taken). IsCovered begun.taken (lock_request_of t))
          (λ (t : Taken). IsCovered (inserted one begun.taken) (lock_request_of t)) (λ t has. still (lock_request_of t) has) begun.held
          are.held;
      claimed = All-weaker (λ (b : BlockNo). Contains begun.taken (lock_request.Claim b))
          (λ (b : BlockNo). Contains (inserted one begun.taken) (lock_request.Claim b))
          (λ b has. preserved_claim one begun.taken b has) begun.claimed are.claimed;
      first = none_left begun.left are.first;
    }

  -- what was told is taken, also where it is raised
  module _ (lock_requests : List LockRequest) (taken : Taken) (new : IsCovered lock_requests (lock_request_of taken)) where
    abbrev Is : Taken → Type 0
    Is one = IsCovered lock_requests (lock_request_of one)

    higher : (request had : Mode) (addr : Addr) → IsCovered lock_requests (lock_request.Object addr request)
        → IsCovered lock_requests (lock_request.Object addr had) → IsCovered lock_requests (lock_request.Object addr (upgraded had request))
    higher modes.Shared had addr new was = was
    higher modes.Exclusive had addr new was = new

    upgraded_is : (one : Taken) → Is one → Is (upgraded_object_read taken one)
    upgraded_is one is = by (same_addr taken.addr one.addr) refl
      where
        by : (same : Bool) → same_addr taken.addr one.addr ≡ same
            → Is (if same then record one { mode = upgraded one.mode taken.mode } else one)
        by true same = higher taken.mode one.mode one.addr
            (subst (λ (a : Addr). IsCovered lock_requests (lock_request.Object a taken.mode)) (one_addr taken.addr one.addr same) new) is
        by false other = is

    all_upgraded : (held : List Taken) → All Is held → All Is (map (upgraded_object_read taken) held)
    all_upgraded [] all = All-nil Is
    all_upgraded (first ∷ later) all =
        All-cons Is (upgraded_object_read taken first) (map (upgraded_object_read taken) later)
        (upgraded_is first (All-head Is first later all)) (all_upgraded later (All-tail Is first later all))

    pub all_in_read_set : (held : List Taken) → All Is held → All Is (read_set_with taken held)
    all_in_read_set held all = by (is_in_read_set taken.addr held)
      where
        by : (had_already : Bool) → All Is (if had_already then map (upgraded_object_read taken) held else held ++ taken ∷ [])
        by true = all_upgraded held all
        by false = All-push Is held taken all new

  held_too : (begun : Begun) (taken : Taken) → IsNext (lock_request_of taken) begun.left → IsLockRequest g (lock_request_of taken)
      → AreTakenBy g begun → AreTakenBy g (with_held begun taken)
  held_too begun taken next is are = by begun.left refl
    where
      then' : AreTakenBy g (with_taken begun (lock_request_of taken))
      then' = taken_too begun (lock_request_of taken) next is are

      by : (left : List LockRequest) → begun.left ≡ left
          → AreTakenBy g (object_read_by left (with_taken begun (lock_request_of taken)) taken)
      by [] none = record {
        lock_requests = then'.lock_requests;
        held = all_in_read_set (inserted (lock_request_of taken) begun.taken) taken (there (lock_request_of taken) begun.taken) begun.held
            then'.held;
        claimed = then'.claimed;
        first = inl (ap (λ (xs : List LockRequest). drop 1 xs) none);
      }
      by (x ∷ xs) some = then'

  claimed_too : (begun : Begun) (block : BlockNo) → IsNext (lock_request.Claim block) begun.left → IsLockRequest g (lock_request.Claim block)
      → AreTakenBy g begun → AreTakenBy g (with_claimed begun block)
  claimed_too begun block next is are = by begun.left refl
    where
      then' : AreTakenBy g (with_taken begun (lock_request.Claim block))
      then' = taken_too begun (lock_request.Claim block) next is are

      by : (left : List LockRequest) → begun.left ≡ left
          → AreTakenBy g (claimed_by left (with_taken begun (lock_request.Claim block)) block)
      by [] none = record {
        lock_requests = then'.lock_requests;
        held = then'.held;
        claimed = All-push (λ (b : BlockNo). Contains (inserted (lock_request.Claim block) begun.taken) (lock_request.Claim b))
            begun.claimed block then'.claimed (claim_there block begun.taken);
        first = inl (ap (λ (xs : List LockRequest). drop 1 xs) none);
      }
      by (x ∷ xs) some = then'

  -- ---- what a call knows

  known_too : (begun : Begun) (request : Option LockRequest) → IfSome request (IsLockRequest g) → AreTakenBy g begun
      → AreLockRequests g (known_then begun request)
  known_too begun None is are = are.lock_requests
  known_too begun (Some one) is are = record {
    of_image = all_more one (IsLockRequest g) (begun.taken ++ begun.left) is (upgrade one) are.lock_requests.of_image;
    rise = still_rises one (begun.taken ++ begun.left) are.lock_requests.rise;
  }

  begun_with : (number : ℕ) (known : List LockRequest) → AreLockRequests g known → AreTakenBy g (fresh number known)
  begun_with number known are = record {
    lock_requests = are;
    held = All-nil (λ (t : Taken). IsCovered [] (lock_request_of t));
    claimed = All-nil (λ (b : BlockNo). Contains [] (lock_request.Claim b));
    first = inr (refl, refl);
  }

  off : (begun : Begun) (request : LockRequest) → IsLockRequest g request → AreTakenBy g begun
      → AreTakenAt g (deferred begun request)
  off begun request is are = by (is_barred request begun.taken)
    where
      by : (above : Bool) → AreTakenAt g (if above then Again begun (Some request) else Planning begun)
      by true = (are, is)
      by false = are

  -- ---- a step of a worker

  abbrev At' : Option Stage → Type 0
  At' None = Unit {0}
  At' (Some stage) = AreTakenAt g stage

  by_wanted : (begun : Begun) (taken : Taken) (answer : LockAnswer) → IsNext (lock_request_of taken) begun.left
      → IsLockRequest g (lock_request_of taken) → AreTakenBy g begun → AreTakenAt g (after_wanted begun taken answer)
  by_wanted begun taken lock_answer.Held next is are = held_too begun taken next is are
  by_wanted begun taken lock_answer.Fetch next is are = taken_too begun (lock_request_of taken) next is are
  by_wanted begun taken lock_answer.Busy next is are = off begun (lock_request_of taken) is are
  by_wanted begun taken lock_answer.Loading next is are = off begun (lock_request_of taken) is are
  by_wanted begun taken lock_answer.Outside next is are = are
  by_wanted begun taken (lock_answer.NoMemory error) next is are = are

  by_claimed : (begun : Begun) (block : BlockNo) (answer : LockAnswer) → IsNext (lock_request.Claim block) begun.left
      → IsLockRequest g (lock_request.Claim block) → AreTakenBy g begun → AreTakenAt g (after_claimed begun block answer)
  by_claimed begun block lock_answer.Held next is are = claimed_too begun block next is are
  by_claimed begun block lock_answer.Fetch next is are = are
  by_claimed begun block lock_answer.Busy next is are = off begun (lock_request.Claim block) is are
  by_claimed begun block lock_answer.Loading next is are = off begun (lock_request.Claim block) is are
  by_claimed begun block lock_answer.Outside next is are = are
  by_claimed begun block (lock_answer.NoMemory error) next is are = are

  by_commit : (stable : Bool) (begun : Begun) (answer : Committing) → AreTakenBy g begun
      → At' (after_commit stable begun answer)
  by_commit true begun (committing.Committed place) are = tt
  by_commit false begun (committing.Committed place) are = tt
  by_commit stable begun committing.Full are = are
  by_commit stable begun committing.Foreign are = (are, tt)
  by_commit stable begun (committing.NoMemory error) are = are
  by_commit stable begun committing.Broken are = are
  by_commit stable begun committing.Spent are = are

module _ (o : Setting) (run_state : RunState) (worker : ℕ) where
  abbrev g : Geometry
  g = o.geometry

  abbrev Then : Option Stage → Type 0
  Then None = Unit {0}
  Then (Some stage) = AreTakenAt g stage

  -- what a plan asks for is a lock request
  by_plan : (stable : Bool) (begun : Begun) (made : Step) → begun.left ≡ [] → IsStepByPlan o run_state worker begun made
      → AreTakenBy g begun → Then (after_planning stable begun made)
  by_plan stable begun (step.Wanted addr mode answer) none is are =
      by_wanted g begun (record { addr = addr; mode = mode }) answer
      (subst (IsNext g (lock_request.Object addr mode)) (sym none) tt) is.0.asks are
  by_plan stable begun (step.Claimed block answer) none is are =
      by_claimed g begun block answer (subst (IsNext g (lock_request.Claim block)) (sym none) tt) is.0.claims are
  by_plan stable begun (step.Commit blocks answer) none is are = by_commit g stable begun answer are
  by_plan stable begun (step.Ended why) none is are = tt
  by_plan stable begun _ none is are = absurd is

  -- what is left is lock requests of the image
  pub left_is : (begun : Begun) (next : LockRequest) (later : List LockRequest) → begun.left ≡ next ∷ later → AreTakenBy g begun
      → IsLockRequest g next
  left_is begun next later some are =
      behind begun.taken (subst (λ (xs : List LockRequest). All (IsLockRequest g) (begun.taken ++ xs)) some are.lock_requests.of_image)
    where
      behind : (xs : List LockRequest) → All (IsLockRequest g) (xs ++ next ∷ later) → IsLockRequest g next
      behind [] all = All-head (IsLockRequest g) next later all
      behind (x ∷ xs) all = behind xs (All-tail (IsLockRequest g) x (xs ++ next ∷ later) all)

  by_next : (stable : Bool) (begun : Begun) (made : Step) (next : LockRequest) (later : List LockRequest)
      → begun.left ≡ next ∷ later → IsRetaking run_state worker begun next made → AreTakenBy g begun
      → Then (after_planning stable begun made)
  by_next stable begun (step.Wanted addr mode answer) next later some is are =
      by_wanted g begun (record { addr = addr; mode = mode }) answer
      (subst (IsNext g (lock_request.Object addr mode)) (sym some) is.0)
      (subst (IsLockRequest g) is.0 (left_is begun next later some are)) are
  by_next stable begun (step.Claimed block answer) next later some is are =
      by_claimed g begun block answer (subst (IsNext g (lock_request.Claim block)) (sym some) is.0)
      (subst (IsLockRequest g) is.0 (left_is begun next later some are)) are
  by_next stable begun _ next later some is are = absurd is

  by_planning : (stable : Bool) (begun : Begun) (made : Step) → IsStepWithin o run_state worker begun made
      → AreTakenBy g begun → Then (after_planning stable begun made)
  by_planning stable begun made is are = by begun.left refl is
    where
      by : (left : List LockRequest) → begun.left ≡ left → IsStepRetakingFirst left o run_state worker begun made
          → Then (after_planning stable begun made)
      by [] none is = by_plan stable begun made none is are
      by (next ∷ later) some is = by_next stable begun made next later some is are

  by_called : (known : List LockRequest) (made : Step) → AreLockRequests g known → Then (after_called known made)
  by_called known (step.Begun (Ok number)) are = begun_with g number known are
  by_called known _ are = tt

  by_waiting : (broken : Bool) (place : ℕ) (made : Step) → Then (after_waiting broken place made)
  by_waiting broken place (step.Stable seq settled) = by (settled || broken)
    where
      by : (ends : Bool) → Then (if ends then None else Some (Waiting place))
      by true = tt
      by false = tt
  by_waiting broken place _ = tt

  going : (job : Job) (next : Option Stage) → Then next → HasTakenWell g (going_on job next)
  going job None is = tt
  going job (Some stage) is = is

  by_work : (so_far : Progress) (made : Step) → IsStepOfWork o run_state worker so_far (Some made)
      → HasTakenWell g so_far → HasTakenWell g (progressed run_state.log.broken made so_far)
  by_work Idle made is are = tt
  by_work (At job (Called known)) made is are = going job _ (by_called known made are)
  by_work (At job (Planning begun)) made is are =
      going job _ (by_planning (is_answered_stable job.call) begun made is are)
  by_work (At job (Reading begun taken)) made is are = cc
  by_work (At job (Read begun taken true)) made is are = are
  by_work (At job (Read begun taken false)) made is are = are
  by_work (At job (Refused begun why)) made is are = tt
  by_work (At job (Again begun request)) made is are = known_too g begun request are.1 are.0
  by_work (At job (Waiting place)) made is are = going job _ (by_waiting run_state.log.broken place made)

  by_read : (so_far : Progress) (made : Step) → IsStepOfRead so_far (Some made)
      → HasTakenWell g so_far → HasTakenWell g (progressed run_state.log.broken made so_far)
  by_read (At job (Reading begun taken)) (step.Read block ok) is are = are
  by_read (At job (Reading begun taken)) _ is are = absurd is
  by_read Idle made is are = cc
  by_read (At job (Called known)) made is are = cc
  by_read (At job (Planning begun)) made is are = cc
  by_read (At job (Read begun taken ok)) made is are = cc
  by_read (At job (Refused begun why)) made is are = cc
  by_read (At job (Again begun request)) made is are = cc
  by_read (At job (Waiting place)) made is are = cc

-- ---- along a run

none_known : (g : Geometry) → AreLockRequests g []
none_known g = record { of_image = All-nil (IsLockRequest g); rise = tt }

module _ (o : Setting) (workers : ℕ) (worker : ℕ) where
  abbrev Well : RunState → Type 0
  Well run_state = HasTakenWell o.geometry (run_state.workers worker)

  by_worker : (run_state : RunState) (number : ℕ) (progress : Progress) (same : Bool) → nat_eq worker number ≡ same
      → (number ≡ worker → HasTakenWell o.geometry progress) → Well run_state
      → HasTakenWell o.geometry (if same then progress else run_state.workers worker)
  by_worker run_state number progress true is own was = own (grind (arith, nat_tests))
  by_worker run_state number progress false is own was = was

  preserves : (run_state : RunState) (e : Event) (m : Option Step) → IsTaken o workers run_state e m → Well run_state
      → Well (state_after run_state e m)
  preserves run_state e None own was = was
  preserves run_state (event.Call number credential moment call) (Some one) own was =
      by_worker run_state number _ (nat_eq worker number) refl (λ same. none_known o.geometry) was
  preserves run_state (event.Work number) (Some one) own was =
      by_worker run_state number _ (nat_eq worker number) refl
      (λ same. by_work o run_state number (run_state.workers number) one
      (may_be o workers run_state (event.Work number) one own)
      (subst (λ n. HasTakenWell o.geometry (run_state.workers n)) (sym same) was)) was
  preserves run_state (event.Read number) (Some one) own was =
      by_worker run_state number _ (nat_eq worker number) refl
      (λ same. by_read o run_state number (run_state.workers number) one
      (may_be o workers run_state (event.Read number) one own)
      (subst (λ n. HasTakenWell o.geometry (run_state.workers n)) (sym same) was)) was
  preserves run_state event.Log (Some one) own was = was
  preserves run_state event.LogIo (Some one) own was = was
  preserves run_state event.Install (Some one) own was = was
  preserves run_state event.InstIo (Some one) own was = was

-- each worker has taken well before each event
pub taken_well : (o : Setting) (workers : ℕ) (events : Schedule) (steps : List (Option Step))
    → AreTaken o workers events steps → (index worker : ℕ)
    → HasTakenWell o.geometry (progress_before events steps worker index)
taken_well o workers events steps taken index worker =
    along o workers events steps taken
    (λ (run_state : RunState). HasTakenWell o.geometry (run_state.workers worker)) tt (preserves o workers worker) index
