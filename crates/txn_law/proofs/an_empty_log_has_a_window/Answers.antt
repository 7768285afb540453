use Rattle.txn_law.proofs.Commit.{none_window}
use Rattle.txn_law.proofs.an_empty_log_has_a_window.Goals as goal

pub returns : goal.returns
returns c = none_window
