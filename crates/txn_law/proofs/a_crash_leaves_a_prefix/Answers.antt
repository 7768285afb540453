use Rattle.txn_law.proofs.Moves.{crash_prefix}
use Rattle.txn_law.proofs.a_crash_leaves_a_prefix.Goals as goal

pub returns : goal.returns
returns c = crash_prefix
