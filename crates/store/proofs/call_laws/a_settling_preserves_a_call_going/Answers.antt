use Rattle.store.proofs.CallEvents.{settled_step}
use Rattle.store.proofs.call_laws.a_settling_preserves_a_call_going.Goals as goal

pub returns : goal.returns
returns c = λ o now device core worker waits served stepped waited with.
    settled_step o now device core worker waits served waited stepped with
