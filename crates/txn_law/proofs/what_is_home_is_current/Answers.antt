use Rattle.txn_law.proofs.Moves.{home_is_current}
use Rattle.txn_law.proofs.what_is_home_is_current.Goals as goal

pub returns : goal.returns
returns c = home_is_current
