use Rattle.std.proofs.Common.{◌∙◌, sym, true≢false}
use Rattle.store_promise.specs.declared.events.LockAnswer.TheVariants as lock_answer
use Rattle.store_promise.specs.Schedule.{state_before}
use Rattle.store_promise.proofs.RunStates.{planned_step, lock_answer_is}
use Rattle.store_promise.proofs.steps_made.no_block_in_memory_is_fetched.Goals as goal

pub returns-clause-own : goal.returns-clause-own
returns-clause-own c =
    λ before later tree first workers index worker events t job begun addr mode is_event less is_step planning
    loaded is_preserved.
    let step = planned_step is_preserved.setting workers events t.steps is_preserved.replies.taken index worker job begun _ is_event less
    is_step planning in
    let absent = lock_answer_is is_preserved.setting (state_before events t.steps index) worker begun begun.left addr mode lock_answer.Fetch
    step in
    true≢false (sym loaded ∙ absent.1)

pub returns-clause-others : goal.returns-clause-others
returns-clause-others c =
    λ before later tree first workers index worker other events t job begun addr mode is_event less differs is_step
    planning loaded is_preserved.
    let step = planned_step is_preserved.setting workers events t.steps is_preserved.replies.taken index worker job begun _ is_event less
    is_step planning in
    let absent = lock_answer_is is_preserved.setting (state_before events t.steps index) worker begun begun.left addr mode lock_answer.Fetch
    step in
    true≢false (sym loaded ∙ absent.2 other differs)
