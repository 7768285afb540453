use Rattle.std.proofs.Common.{◌∙◌, ap}
use Rattle.store_promise.specs.LogState.{with_commit}
use Rattle.store_promise.specs.LogStateOf.{log_state_of}
use Rattle.store.proofs.runs.at_work.a_commit_moves_the_state_by_its_blocks.Goals as goal

pub returns : goal.returns
returns c = λ position old new logging installing tx place plan took lawful later from.
    c.a_commit_moves_the_log_state.ensures position old.log new.log took.group.group logging installing lawful later
    took.group.grown took.still took.group.seen.tail from
    ∙ ap (λ bs. with_commit (log_state_of position old.log logging installing) bs) took.group.blocks
