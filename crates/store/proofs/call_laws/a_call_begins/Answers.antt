use Rattle.store.proofs.CallEvents.{begins}
use Rattle.store.proofs.call_laws.a_call_begins.Goals as goal

pub returns : goal.returns
returns c = begins
