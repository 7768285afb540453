use Rattle.std.proofs.Common.{◌≡◌, ℕ, List, ◌∷◌, subst, sym}
use Rattle.store_promise.specs.declared.lock_requests.LockRequest.{LockRequest}
use Rattle.store_promise.specs.declared.events.Step.{Step}
use Rattle.store_promise.specs.Progress.{Begun}
use Rattle.store_promise.specs.Schedule.{IsRetaking, IsStepRetakingFirst, IsStepWithin, Setting, RunState, state_before}
use Rattle.store_promise.proofs.RunStates.{planned_step}
use Rattle.store_promise.proofs.steps_made.what_was_known_is_taken_again_first.Goals as goal

again : (o : Setting) (run_state : RunState) (worker : ℕ) (begun : Begun) (next : LockRequest) (behind : List LockRequest) (made : Step)
    → begun.left ≡ next ∷ behind → IsStepWithin o run_state worker begun made → IsRetaking run_state worker begun next made
again o run_state worker begun next behind made some is =
    subst (λ (left : List LockRequest). IsStepRetakingFirst left o run_state worker begun made) some is

pub returns-clause-wanted : goal.returns-clause-wanted
returns-clause-wanted c =
    λ before later tree first workers index worker events t job begun next behind addr mode answer is_event less
    is_step planning some differs is_preserved.
    differs (sym (again is_preserved.setting (state_before events t.steps index) worker begun next behind _ some
    (planned_step is_preserved.setting workers events t.steps is_preserved.replies.taken index worker job begun _ is_event less is_step
    planning)).0)

pub returns-clause-claimed : goal.returns-clause-claimed
returns-clause-claimed c =
    λ before later tree first workers index worker events t job begun next behind block answer is_event less
    is_step planning some differs is_preserved.
    differs (sym (again is_preserved.setting (state_before events t.steps index) worker begun next behind _ some
    (planned_step is_preserved.setting workers events t.steps is_preserved.replies.taken index worker job begun _ is_event less is_step
    planning)).0)

pub returns-clause-commit : goal.returns-clause-commit
returns-clause-commit c =
    λ before later tree first workers index worker events t job begun next behind blocks answer is_event less
    is_step planning some is_preserved.
    again is_preserved.setting (state_before events t.steps index) worker begun next behind _ some
    (planned_step is_preserved.setting workers events t.steps is_preserved.replies.taken index worker job begun _ is_event less is_step
    planning)
