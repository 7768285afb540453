use Rattle.std.proofs.Common.{◌≡◌, ◌∙◌, false, sym, true, true≢false}
use Rattle.std.proofs.lemmas.List.Elements.{All-contains}
use Rattle.disk.specs.declared.block.BlockNo.{BlockNo}
use Rattle.store_promise.specs.Progress.{has_part_exclusive}
use Rattle.store_promise.specs.Schedule.{state_before}
use Rattle.store_promise.proofs.RunStates.{commit_is, planned_step}
use Rattle.store_promise.proofs.steps_made.a_commit_names_what_was_taken_exclusively.Goals as goal

pub returns-clause-once : goal.returns-clause-once
returns-clause-once c =
    λ before later tree first workers index worker events t job begun blocks answer is_event less is_step
    planning twice is_preserved.
    let step = planned_step is_preserved.setting workers events t.steps is_preserved.replies.taken index worker job begun
    _ is_event less
    is_step planning in
    twice (commit_is is_preserved.setting (state_before events t.steps index) worker begun begun.left blocks answer
    step).0.once

pub returns-clause-taken : goal.returns-clause-taken
returns-clause-taken c =
    λ before later tree first workers index worker events t job begun blocks answer block is_event less is_step
    planning named lacks is_preserved.
    let step = planned_step is_preserved.setting workers events t.steps is_preserved.replies.taken index worker job begun
    _ is_event less
    is_step planning in
    true≢false (sym (All-contains (λ (b : BlockNo). has_part_exclusive b begun ≡ true) blocks block
    (commit_is is_preserved.setting (state_before events t.steps index) worker begun begun.left blocks answer
    step).0.taken named) ∙ lacks)
