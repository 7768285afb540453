use Rattle.txn_law.proofs.Swept.{window_swept}
use Rattle.txn_law.proofs.a_sweep_preserves_the_window.Goals as goal

pub returns : goal.returns
returns c = window_swept
