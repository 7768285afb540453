use Rattle.txn_law.proofs.Swept.{core_installed}
use Rattle.txn_law.proofs.an_installation_preserves_the_window_of_the_core.Goals as goal

pub returns : goal.returns
returns c = core_installed
