use Rattle.txn_law.proofs.Moves.{window_inst_out}
use Rattle.txn_law.proofs.Installed.{window_inst_back}
use Rattle.txn_law.proofs.the_installer_preserves_the_window.Goals as goal

pub returns-clause-goes_out : goal.returns-clause-goes_out
returns-clause-goes_out c = window_inst_out

pub returns-clause-comes_back : goal.returns-clause-comes_back
returns-clause-comes_back c = window_inst_back
