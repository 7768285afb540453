use Rattle.store_promise.proofs.LogStateIs.{log_call_is, may_log_is}
use Rattle.store_promise.proofs.log_states.log_state_has_the_loggers_next_call.Goals as goal

pub returns-clause-may : goal.returns-clause-may
returns-clause-may c = may_log_is

pub returns-clause-call : goal.returns-clause-call
returns-clause-call c = λ position log io installing lawful from has next.
    log_call_is position log installing lawful io from next
