use Rattle.std.proofs.Common.{ℕ, List, [], ◌∷◌}
use Rattle.store_promise.specs.declared.lock_requests.LockRequest.{LockRequest}
use Rattle.store_promise.specs.declared.events.Ending.TheVariants as ending
use Rattle.store_promise.specs.declared.events.Step.TheVariants as step
use Rattle.store_promise.specs.Progress.{Begun}
use Rattle.store_promise.specs.Schedule.{IsStepRetakingFirst, Setting, RunState, state_before}
use Rattle.store_promise.proofs.RunStates.{planned_step}
use Rattle.store_promise.proofs.steps_made.no_call_begins_again_for_nothing.Goals as goal

never : (o : Setting) (run_state : RunState) (worker : ℕ) (begun : Begun) (left : List LockRequest)
    → IsStepRetakingFirst left o run_state worker begun (step.Ended ending.Again) → ⊥
never o run_state worker begun [] is = is
never o run_state worker begun (next ∷ later) is = is

pub returns : goal.returns
returns c = λ before later tree first workers index worker events t job begun is_event less is_step planning is_preserved.
    never is_preserved.setting (state_before events t.steps index) worker begun begun.left
    (planned_step is_preserved.setting workers events t.steps is_preserved.replies.taken index worker job begun _ is_event less is_step
    planning)
