-- A worker whose call a failure ends was so far before, or its read fails now, or the store is broken.
use Rattle.std.proofs.Common.{◌≡◌, ◌⊎◌, inl, inr, ℕ, ap, refl, subst, arith, Bool, true, false, not, ◌||◌}
use Rattle.std.proofs.Common.{if◌then◌else◌, nat_eq, List, [], ◌∷◌, Option, Some, None, Ok, Err}
use Rattle.std.proofs.lemmas.Bool.Decides.{nat_tests}
use Rattle.disk.specs.declared.block.BlockNo.{BlockNo}
use Rattle.objects.specs.declared.addr.Addr.{Addr}
use Rattle.objects.specs.declared.mode.Mode.{Mode}
use Rattle.nfs_spec.specs.Model.Calls.{begins_transaction, is_answered_stable}
use Rattle.store_promise.specs.declared.events.Cause.TheVariants as cause
use Rattle.store_promise.specs.declared.events.Committing.{Committing}
use Rattle.store_promise.specs.declared.events.Committing.TheVariants as committing
use Rattle.store_promise.specs.declared.events.Event.{Event}
use Rattle.store_promise.specs.declared.events.Event.TheVariants as event
use Rattle.store_promise.specs.declared.events.Step.{Step}
use Rattle.store_promise.specs.declared.events.Step.TheVariants as step
use Rattle.store_promise.specs.declared.events.LockAnswer.{LockAnswer}
use Rattle.store_promise.specs.declared.events.LockAnswer.TheVariants as lock_answer
use Rattle.store_promise.specs.CauseOfIo.{IsOfLog}
use Rattle.store_promise.specs.LogState.{LogState, log_moved}
use Rattle.store_promise.specs.Progress.{Again, At, Begun, Called, Idle, Job, Planning, Progress, Read}
use Rattle.store_promise.specs.Progress.{Reading, Refused}
use Rattle.store_promise.specs.Progress.{Stage, Waiting, after_called, after_commit, after_planning}
use Rattle.store_promise.specs.Progress.{after_waiting}
use Rattle.store_promise.specs.Progress.{going_on, is_idle, deferred, progressed}
use Rattle.store_promise.specs.LockRequests.{is_barred}
use Rattle.store_promise.specs.declared.lock_requests.LockRequest.{LockRequest}
use Rattle.store_promise.specs.declared.lock_requests.LockRequest.TheVariants as lock_request
use Rattle.store_promise.specs.Schedule.{IsBeginning, IsClaimAnswer, IsCommitting, IsRetaking, IsStepRetakingFirst}
use Rattle.store_promise.specs.Schedule.{IsStepByPlan, IsStepOfCall, IsLockAnswer, range_request_at}
use Rattle.store_promise.specs.Schedule.{IsStepOfCalled, IsStepOfRead, IsStepOfWaiting, IsStepOfWork}
use Rattle.store_promise.specs.EventSteps.{IsTaken}
use Rattle.store_promise.specs.Schedule.{Setting}
use Rattle.store_promise.specs.Schedule.{RunState, state_after}
use Rattle.store_promise.specs.Transcript.{fails}
use Rattle.store_promise.proofs.LogFailures.{LogShows, cleared, inst_goes, inst_made, is_broken, is_of_log}
use Rattle.store_promise.proofs.LogFailures.{log_goes, log_made, quiet}
use Rattle.store_promise.proofs.RunStates.{may_be}

-- its read has failed, or its call is refused with IO
abbrev pub has_failed : Stage → Bool
has_failed (Read begun taken ok) = not ok
has_failed (Refused begun cause.Io) = true
has_failed _ = false

abbrev pub shows : Progress → Bool
shows Idle = false
shows (At job stage) = has_failed stage

-- ---- which steps an event of a worker makes

of_beginning : (run_state : RunState) (one : Step) → IsBeginning run_state one → is_of_log one ≡ false
of_beginning run_state (step.Begun (Ok number)) is = refl
of_beginning run_state (step.Begun (Err why)) is = refl
of_beginning run_state _ is = absurd is

of_called : (run_state : RunState) (ruled : Bool) (one : Step) → IsStepOfCalled run_state ruled one → is_of_log one ≡ false
of_called run_state true one is = of_beginning run_state one is
of_called run_state false one is = ap is_of_log is

of_plan : (o : Setting) (run_state : RunState) (worker : ℕ) (begun : Begun) (one : Step)
    → IsStepByPlan o run_state worker begun one → is_of_log one ≡ false
of_plan o run_state worker begun (step.Wanted addr mode answer) is = refl
of_plan o run_state worker begun (step.Claimed block answer) is = refl
of_plan o run_state worker begun (step.Commit blocks answer) is = refl
of_plan o run_state worker begun (step.Ended why) is = refl
of_plan o run_state worker begun _ is = absurd is

of_next : (run_state : RunState) (worker : ℕ) (begun : Begun) (next : LockRequest) (one : Step)
    → IsRetaking run_state worker begun next one → is_of_log one ≡ false
of_next run_state worker begun next (step.Wanted addr mode answer) is = refl
of_next run_state worker begun next (step.Claimed block answer) is = refl
of_next run_state worker begun next _ is = absurd is

of_within : (o : Setting) (run_state : RunState) (worker : ℕ) (begun : Begun) (left : List LockRequest) (one : Step)
    → IsStepRetakingFirst left o run_state worker begun one → is_of_log one ≡ false
of_within o run_state worker begun [] one is = of_plan o run_state worker begun one is
of_within o run_state worker begun (next ∷ later) one is = of_next run_state worker begun next one is

of_waiting : (log : LogState) (place : ℕ) (one : Step) → IsStepOfWaiting log place one → is_of_log one ≡ false
of_waiting log place (step.Stable seq settled) is = refl
of_waiting log place _ is = absurd is

of_work : (o : Setting) (run_state : RunState) (worker : ℕ) (so_far : Progress) (one : Step)
    → IsStepOfWork o run_state worker so_far (Some one) → is_of_log one ≡ false
of_work o run_state worker Idle one is = cc
of_work o run_state worker (At job (Called known)) one is = of_called run_state (begins_transaction job.call) one is
of_work o run_state worker (At job (Planning begun)) one is = of_within o run_state worker begun begun.left one is
of_work o run_state worker (At job (Reading begun taken)) one is = cc
of_work o run_state worker (At job (Read begun taken true)) one is = ap is_of_log is
of_work o run_state worker (At job (Read begun taken false)) one is = ap is_of_log is
of_work o run_state worker (At job (Refused begun why)) one is = ap is_of_log is
of_work o run_state worker (At job (Again begun request)) one is = ap is_of_log is
of_work o run_state worker (At job (Waiting place)) one is = of_waiting run_state.log place one is

-- a read that is due, which the worker has a call for
module _ (broken : Bool) where
  read_goes : (so_far : Progress) (one : Step) → IsStepOfRead so_far (Some one) → is_of_log one ≡ false
  read_goes (At job (Reading begun taken)) (step.Read block ok) is = refl
  read_goes (At job (Reading begun taken)) _ is = absurd is
  read_goes Idle one is = cc
  read_goes (At job (Called known)) one is = cc
  read_goes (At job (Planning begun)) one is = cc
  read_goes (At job (Read begun taken ok)) one is = cc
  read_goes (At job (Refused begun why)) one is = cc
  read_goes (At job (Again begun request)) one is = cc
  read_goes (At job (Waiting place)) one is = cc

  read_fails : (so_far : Progress) (one : Step) → IsStepOfRead so_far (Some one)
      → shows (progressed broken one so_far) ≡ true → (fails (Some one) ≡ true) × (is_idle so_far ≡ false)
  read_fails (At job (Reading begun taken)) (step.Read block ok) is so = (so, refl)
  read_fails (At job (Reading begun taken)) _ is so = absurd is
  read_fails Idle one is so = cc
  read_fails (At job (Called known)) one is so = cc
  read_fails (At job (Planning begun)) one is so = cc
  read_fails (At job (Read begun taken ok)) one is so = cc
  read_fails (At job (Refused begun why)) one is so = cc
  read_fails (At job (Again begun request)) one is so = cc
  read_fails (At job (Waiting place)) one is so = cc

-- ---- a step of its work leads to no failure that wasn't there

module _ (o : Setting) (run_state : RunState) (worker : ℕ) (job : Job) where
  abbrev WasShown : Stage → Type 0
  WasShown stage = (has_failed stage ≡ true) ⊎ (run_state.log.broken ≡ true)

  by_called : (known : List LockRequest) (one : Step) → shows (going_on job (after_called known one)) ≡ true → ⊥
  by_called known (step.Begun (Ok number)) so = cc
  by_called known (step.Begun (Err why)) so = cc
  by_called known _ so = cc

  module _ (begun : Begun) where
    off : (request : LockRequest) → shows (At job (deferred begun request)) ≡ true → ⊥
    off request so = by (is_barred request begun.taken) so
      where
        by : (above : Bool) → shows (At job (if above then Again begun (Some request) else Planning begun)) ≡ true
            → ⊥
        by true so = cc
        by false so = cc

    by_wanted : (addr : Addr) (mode : Mode) (answer : LockAnswer) → IsLockAnswer run_state worker begun (range_request_at addr mode) answer
        → shows (going_on job (after_planning (is_answered_stable job.call) begun
        (step.Wanted addr mode answer)))
        ≡ true → ⊥
    by_wanted addr mode lock_answer.Held is so = cc
    by_wanted addr mode lock_answer.Fetch is so = cc
    by_wanted addr mode lock_answer.Busy is so = off (lock_request.Object addr mode) so
    by_wanted addr mode lock_answer.Loading is so = off (lock_request.Object addr mode) so
    by_wanted addr mode lock_answer.Outside is so = is
    by_wanted addr mode (lock_answer.NoMemory error) is so = cc

    by_claimed : (block : BlockNo) (answer : LockAnswer) → IsClaimAnswer run_state worker begun block answer
        → shows (going_on job (after_planning (is_answered_stable job.call) begun (step.Claimed block answer)))
        ≡ true → ⊥
    by_claimed block lock_answer.Held is so = cc
    by_claimed block lock_answer.Fetch is so = cc
    by_claimed block lock_answer.Busy is so = off (lock_request.Claim block) so
    by_claimed block lock_answer.Loading is so = off (lock_request.Claim block) so
    by_claimed block lock_answer.Outside is so = is
    by_claimed block (lock_answer.NoMemory error) is so = cc

    committed : (stable : Bool) (place : ℕ)
        → shows (going_on job (if stable then Some (Waiting place) else None)) ≡ true → ⊥
    committed true place so = cc
    committed false place so = cc

    by_commit : (stable : Bool) (blocks : List BlockNo) (answer : Committing) → IsCommitting o run_state.log blocks answer
        → shows (going_on job (after_commit stable begun answer)) ≡ true → run_state.log.broken ≡ true
    by_commit stable blocks (committing.Committed place) is so = absurd (committed stable place.0 so)
    by_commit stable blocks committing.Full is so = cc
    by_commit stable blocks committing.Foreign is so = cc
    by_commit stable blocks (committing.NoMemory error) is so = cc
    by_commit stable blocks committing.Broken is so = is
    by_commit stable blocks committing.Spent is so = cc

    by_plan : (one : Step) → IsStepByPlan o run_state worker begun one
        → shows (going_on job (after_planning (is_answered_stable job.call) begun one)) ≡ true
        → run_state.log.broken ≡ true
    by_plan (step.Wanted addr mode answer) is so = absurd (by_wanted addr mode answer is.1 so)
    by_plan (step.Claimed block answer) is so = absurd (by_claimed block answer is.1 so)
    by_plan (step.Commit blocks answer) is so = by_commit (is_answered_stable job.call) blocks answer is.1 so
    by_plan (step.Ended why) is so = cc
    by_plan _ is so = absurd is

    by_next : (next : LockRequest) (one : Step) → IsRetaking run_state worker begun next one
        → shows (going_on job (after_planning (is_answered_stable job.call) begun one)) ≡ true → ⊥
    by_next next (step.Wanted addr mode answer) is so = by_wanted addr mode answer is.1 so
    by_next next (step.Claimed block answer) is so = by_claimed block answer is.1 so
    by_next next _ is so = is

    by_within : (left : List LockRequest) (one : Step) → IsStepRetakingFirst left o run_state worker begun one
        → shows (going_on job (after_planning (is_answered_stable job.call) begun one)) ≡ true
        → run_state.log.broken ≡ true
    by_within [] one is so = by_plan one is so
    by_within (next ∷ later) one is so = absurd (by_next next one is so)

  waited : (done : Bool) (place : ℕ) → shows
      (going_on job (if done then None else Some (Waiting place))) ≡ true → ⊥
  waited true place so = cc
  waited false place so = cc

  by_waiting : (broken : Bool) (place : ℕ) (one : Step)
      → shows (going_on job (after_waiting broken place one)) ≡ true
      → ⊥
  by_waiting broken place (step.Stable seq settled) so = waited (settled || broken) place so
  by_waiting broken place _ so = cc

  by_stage : (stage : Stage) (one : Step) → IsStepOfWork o run_state worker (At job stage) (Some one)
      → shows (progressed run_state.log.broken one (At job stage)) ≡ true → WasShown stage
  by_stage (Called known) one is so = absurd (by_called known one so)
  by_stage (Planning begun) one is so = inr (by_within begun begun.left one is so)
  by_stage (Reading begun taken) one is so = cc
  by_stage (Read begun taken true) one is so = cc
  by_stage (Read begun taken false) one is so = inl refl
  by_stage (Refused begun why) one is so = cc
  by_stage (Again begun request) one is so = cc
  by_stage (Waiting place) one is so = absurd (by_waiting run_state.log.broken place one so)

work_shows : (o : Setting) (run_state : RunState) (worker : ℕ) (so_far : Progress) (one : Step)
    → IsStepOfWork o run_state worker so_far (Some one) → shows (progressed run_state.log.broken one so_far) ≡ true
    → (shows so_far ≡ true) ⊎ (run_state.log.broken ≡ true)
work_shows o run_state worker Idle one is so = cc
work_shows o run_state worker (At job stage) one is so = by_stage o run_state worker job stage one is so

-- ---- an event

-- what comes of an event shows a failure of a worker: so it was, or its read has failed just now, or the log
-- had
pub data Showed (run_state : RunState) (e : Event) (m : Option Step) (worker : ℕ) : Type 0 where
  before : shows (run_state.workers worker) ≡ true → Showed run_state e m worker
  of_log : LogShows run_state.log → Showed run_state e m worker
  reads : e ≡ event.Read worker → fails m ≡ true → is_idle (run_state.workers worker) ≡ false
      → Showed run_state e m worker

call_is : (so_far : Progress) (one : Step) → IsStepOfCall so_far (Some one) → is_of_log one ≡ false
call_is Idle one is =
    let same : one ≡ step.Called = cc in ap is_of_log same
call_is (At job stage) one is = cc

module _ (o : Setting) (workers : ℕ) (run_state : RunState) where
  silent : (one : Step) → is_of_log one ≡ false → LogShows (log_moved run_state.log one) → LogShows run_state.log
  silent one never = cleared run_state.log (log_moved run_state.log one) (quiet run_state.log one never)

  pub log_came : (e : Event) (m : Option Step) → IsTaken o workers run_state e m → LogShows (state_after run_state e m).log
      → LogShows run_state.log ⊎ ((fails m ≡ true) × IsOfLog (Some e))
  log_came e None taken so = inl so
  log_came (event.Call number credential moment call) (Some one) taken so =
      inl (silent one (call_is (run_state.workers number) one
      (may_be o workers run_state (event.Call number credential moment call) one taken)) so)
  log_came (event.Work number) (Some one) taken so =
      inl (silent one (of_work o run_state number (run_state.workers number) one
      (may_be o workers run_state (event.Work number) one taken)) so)
  log_came (event.Read number) (Some one) taken so =
      inl (silent one (read_goes run_state.log.broken (run_state.workers number) one
      (may_be o workers run_state (event.Read number) one taken)) so)
  log_came event.Log (Some one) taken so =
      inl (log_goes o run_state.log run_state.log.log_call one refl (may_be o workers run_state event.Log one taken) so)
  log_came event.Install (Some one) taken so =
      inl (inst_goes o run_state.log run_state.log.inst_call one refl (may_be o workers run_state event.Install one taken) so)
  log_came event.LogIo (Some one) taken so =
      elim (log_made run_state.log run_state.log.log_call one refl (may_be o workers run_state event.LogIo one taken) so) [
        | inl earlier ↦ inl earlier
        | inr now ↦ inr (now, inl refl)
      ]
  log_came event.InstIo (Some one) taken so =
      elim (inst_made run_state.log run_state.log.inst_call one refl (may_be o workers run_state event.InstIo one taken) so) [
        | inl earlier ↦ inl earlier
        | inr now ↦ inr (now, inr refl)
      ]

  module _ (worker : ℕ) where
    same_number : (number : ℕ) → nat_eq worker number ≡ true → number ≡ worker
    same_number number is = grind (arith, nat_tests)

    by_call : (job : Job) (e : Event) (m : Option Step) (same : Bool)
        → shows (if same then At job (Called []) else run_state.workers worker) ≡ true → Showed run_state e m worker
    by_call job e m true so = cc
    by_call job e m false so = before so

    by_work : (number : ℕ) (one : Step) → IsStepOfWork o run_state number (run_state.workers number) (Some one)
        → (same : Bool)
        → nat_eq worker number ≡ same
        → shows (if same then progressed run_state.log.broken one (run_state.workers number) else run_state.workers
        worker) ≡ true
        → Showed run_state (event.Work number) (Some one) worker
    by_work number one may true same so =
        elim (work_shows o run_state number (run_state.workers number) one may so) [
          | inl earlier ↦ before (subst (λ n. shows (run_state.workers n) ≡ true) (same_number number same) earlier)
          | inr broken ↦ of_log (is_broken broken)
        ]
    by_work number one may false same so = before so

    by_read : (number : ℕ) (one : Step) → IsStepOfRead (run_state.workers number) (Some one) → (same : Bool)
        → nat_eq worker number ≡ same
        → shows (if same then progressed run_state.log.broken one (run_state.workers number) else run_state.workers
        worker) ≡ true
        → Showed run_state (event.Read number) (Some one) worker
    by_read number one may true same so =
        let numbers = same_number number same in
        let both = read_fails run_state.log.broken (run_state.workers number) one may so in
        reads (ap event.Read numbers) both.0 (subst (λ n. is_idle (run_state.workers n) ≡ false) numbers both.1)
    by_read number one may false same so = before so

    pub worker_came : (e : Event) (m : Option Step) → IsTaken o workers run_state e m
        → shows ((state_after run_state e m).workers worker) ≡ true → Showed run_state e m worker
    worker_came e None taken so = before so
    worker_came (event.Call number credential moment call) (Some one) taken so =
        by_call (record { credential = credential; moment = moment; call = call })
        (event.Call number credential moment call) (Some one) (nat_eq worker number) so
    worker_came (event.Work number) (Some one) taken so =
        by_work number one (may_be o workers run_state (event.Work number) one taken) (nat_eq worker number) refl so
    worker_came (event.Read number) (Some one) taken so =
        by_read number one (may_be o workers run_state (event.Read number) one taken) (nat_eq worker number) refl so
    worker_came event.Log (Some one) taken so = before so
    worker_came event.LogIo (Some one) taken so = before so
    worker_came event.Install (Some one) taken so = before so
    worker_came event.InstIo (Some one) taken so = before so
