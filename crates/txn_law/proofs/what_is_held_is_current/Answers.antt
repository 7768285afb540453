use Rattle.txn_law.proofs.HeldNow.{held_is_current, read_now}
use Rattle.txn_law.proofs.what_is_held_is_current.Goals as goal

pub returns-clause-held_current : goal.returns-clause-held_current
returns-clause-held_current c = held_is_current

pub returns-clause-held : goal.returns-clause-held
returns-clause-held c = read_now
