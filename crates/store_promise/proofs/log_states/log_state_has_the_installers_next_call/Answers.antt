use Rattle.store_promise.proofs.LogStateIs.{inst_call_is, may_install_is}
use Rattle.store_promise.proofs.log_states.log_state_has_the_installers_next_call.Goals as goal

pub returns-clause-may : goal.returns-clause-may
returns-clause-may c = may_install_is

pub returns-clause-call : goal.returns-clause-call
returns-clause-call c = λ position log io logging lawful may next.
    inst_call_is position log io logging lawful may next
