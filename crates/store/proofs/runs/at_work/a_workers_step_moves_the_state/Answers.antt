use Rattle.store.proofs.RunsLemmas.AtWorkAgrees.{step_moves_state}
use Rattle.store.proofs.runs.at_work.a_workers_step_moves_the_state.Goals as goal

pub returns : goal.returns
returns c = step_moves_state
