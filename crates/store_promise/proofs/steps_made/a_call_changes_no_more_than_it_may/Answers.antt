use Rattle.std.proofs.Common.{arith}
use Rattle.store_promise.specs.Schedule.{state_before}
use Rattle.store_promise.proofs.RunStates.{commit_is, planned_step}
use Rattle.store_promise.proofs.steps_made.a_call_changes_no_more_than_it_may.Goals as goal

pub returns : goal.returns
returns c =
    λ before later tree first workers index worker events t job begun blocks answer is_event less is_step
    planning more is_preserved.
    let step = planned_step is_preserved.setting workers events t.steps is_preserved.replies.taken index worker job begun
    _ is_event less
    is_step planning in
    let few = (commit_is is_preserved.setting (state_before events t.steps index) worker begun begun.left blocks answer
    step).0.few in omega (arith, few, more)
