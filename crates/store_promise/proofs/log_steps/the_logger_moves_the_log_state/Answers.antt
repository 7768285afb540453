use Rattle.std.proofs.Common.{refl}
use Rattle.store_promise.proofs.LogStateOf.{log_taken_moves_state, log_given_moves_state}
use Rattle.store_promise.proofs.log_steps.the_logger_moves_the_log_state.Goals as goal

pub returns-clause-taken : goal.returns-clause-taken
returns-clause-taken c = log_taken_moves_state

pub returns-clause-made : goal.returns-clause-made
returns-clause-made c = λ position log io answer installing. refl

pub returns-clause-given_back : goal.returns-clause-given_back
returns-clause-given_back c = log_given_moves_state
