-- What is left to be taken again may be asked for, too.
use Rattle.std.proofs.Common.{◌≡◌, ℕ, List, [], ◌∷◌, refl, subst}
use Rattle.objects.specs.declared.addr.Addr.{Addr}
use Rattle.objects.specs.declared.mode.Mode.{Mode}
use Rattle.procs.specs.Asks.{Asks}
use Rattle.store_promise.specs.declared.lock_requests.LockRequest.{LockRequest}
use Rattle.store_promise.specs.declared.events.Step.TheVariants as step
use Rattle.store_promise.specs.declared.events.LockAnswer.{LockAnswer}
use Rattle.store_promise.specs.Progress.{Begun}
use Rattle.store_promise.specs.Schedule.{IsStepRetakingFirst, Setting, RunState, state_before}
use Rattle.store_promise.specs.Waiting.{AreTakenBy, HasTakenWell, IsLockRequest}
use Rattle.store_promise.proofs.KnownLockRequests.{left_is, taken_well}
use Rattle.store_promise.proofs.RunStates.{planned_step}
use Rattle.store_promise.proofs.steps_made.a_worker_goes_by_its_plan.Goals as goal

asks : (o : Setting) (run_state : RunState) (worker : ℕ) (begun : Begun) (left : List LockRequest) → begun.left ≡ left
    → (addr : Addr) (mode : Mode) (answer : LockAnswer)
    → IsStepRetakingFirst left o run_state worker begun (step.Wanted addr mode answer) → AreTakenBy o.geometry begun
    → Asks o.geometry addr
asks o run_state worker begun [] none addr mode answer is are = is.0.asks
asks o run_state worker begun (next ∷ later) some addr mode answer is are =
    subst (IsLockRequest o.geometry) is.0 (left_is o run_state worker begun next later some are)

pub returns : goal.returns
returns c =
    λ before later tree first workers index worker events t job begun addr mode answer is_event less is_step
    planning none is_preserved.
    let step = planned_step is_preserved.setting workers events t.steps is_preserved.replies.taken index worker job begun
    _ is_event less
    is_step planning in
    none is_preserved.setting.geometry (asks is_preserved.setting (state_before events t.steps index) worker begun begun.left refl
    addr mode answer step (subst (HasTakenWell is_preserved.setting.geometry) planning
    (taken_well is_preserved.setting workers events t.steps is_preserved.replies.taken index worker)))
