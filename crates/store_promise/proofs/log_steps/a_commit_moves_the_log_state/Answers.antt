use Rattle.store_promise.proofs.LogStateOf.{commit_moves_log_state}
use Rattle.store_promise.proofs.log_steps.a_commit_moves_the_log_state.Goals as goal

pub returns : goal.returns
returns c = λ position old new group logging installing lawful later grown still longer from.
    commit_moves_log_state position old new group lawful later grown still longer from logging installing
