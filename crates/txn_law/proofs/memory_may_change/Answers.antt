use Rattle.txn_law.proofs.Moves.{other_memory}
use Rattle.txn_law.proofs.memory_may_change.Goals as goal

pub returns : goal.returns
returns c = other_memory
