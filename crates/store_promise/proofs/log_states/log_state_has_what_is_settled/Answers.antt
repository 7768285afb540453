use Rattle.store_promise.proofs.LogStateIs.{settled_is}
use Rattle.store_promise.proofs.log_states.log_state_has_what_is_settled.Goals as goal

pub returns : goal.returns
returns c = settled_is
