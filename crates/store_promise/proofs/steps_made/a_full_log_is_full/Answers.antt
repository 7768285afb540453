use Rattle.std.proofs.Common.{arith}
use Rattle.store_promise.specs.declared.events.Committing.TheVariants as committing
use Rattle.store_promise.specs.Schedule.{state_before}
use Rattle.store_promise.proofs.RunStates.{commit_is, planned_step}
use Rattle.store_promise.proofs.steps_made.a_full_log_is_full.Goals as goal

pub returns : goal.returns
returns c =
    λ before later tree first workers index worker events t job begun blocks is_event less is_step planning
    has_space is_preserved.
    let step = planned_step is_preserved.setting workers events t.steps is_preserved.replies.taken index worker job begun
    _ is_event less
    is_step planning in
    let full = (commit_is is_preserved.setting (state_before events t.steps index) worker begun begun.left blocks
    committing.Full step).1.2 in omega (arith, has_space, full)
