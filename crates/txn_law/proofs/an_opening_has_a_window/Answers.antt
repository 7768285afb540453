use Rattle.txn_law.proofs.Moves.{opened_window}
use Rattle.txn_law.proofs.an_opening_has_a_window.Goals as goal

pub returns : goal.returns
returns c = opened_window
