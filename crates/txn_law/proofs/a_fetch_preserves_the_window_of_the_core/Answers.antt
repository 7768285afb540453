use Rattle.txn_law.proofs.Fetches.{core_fetched, core_fetch_failed, home_stays}
use Rattle.txn_law.proofs.a_fetch_preserves_the_window_of_the_core.Goals as goal

pub returns-clause-done : goal.returns-clause-done
returns-clause-done c = core_fetched

pub returns-clause-failed : goal.returns-clause-failed
returns-clause-failed c = core_fetch_failed

pub returns-clause-stays : goal.returns-clause-stays
returns-clause-stays c = home_stays
