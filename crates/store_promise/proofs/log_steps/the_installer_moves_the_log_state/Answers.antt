use Rattle.std.proofs.Common.{refl}
use Rattle.store_promise.proofs.LogStateOf.{inst_taken_moves_state, inst_given_moves_state}
use Rattle.store_promise.proofs.log_steps.the_installer_moves_the_log_state.Goals as goal

pub returns-clause-taken : goal.returns-clause-taken
returns-clause-taken c = inst_taken_moves_state

pub returns-clause-made : goal.returns-clause-made
returns-clause-made c = λ position log io answer logging. refl

pub returns-clause-given_back : goal.returns-clause-given_back
returns-clause-given_back c = λ position log io answer logging ok lawful stands is_out next.
    inst_given_moves_state position log io answer logging lawful stands is_out next ok
