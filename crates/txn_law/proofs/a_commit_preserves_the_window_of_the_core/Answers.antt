use Rattle.txn_law.proofs.CoreCommits.{core_committed}
use Rattle.txn_law.proofs.a_commit_preserves_the_window_of_the_core.Goals as goal

pub returns : goal.returns
returns c = core_committed
