use Rattle.store.proofs.CallEvents.{settled_open}
use Rattle.store.proofs.call_laws.a_settled_store_stays_open.Goals as goal

pub returns : goal.returns
returns c = λ old device core first last entries leaves opened.
    settled_open old device core first entries last leaves opened
