use Rattle.txn_law.proofs.LockAnswers.{core_held, core_fetch, core_claim, core_end}
use Rattle.txn_law.proofs.a_transaction_preserves_the_window_of_the_core.Goals as goal

pub returns-clause-held : goal.returns-clause-held
returns-clause-held c = core_held

pub returns-clause-fetch : goal.returns-clause-fetch
returns-clause-fetch c = core_fetch

pub returns-clause-claim : goal.returns-clause-claim
returns-clause-claim c = core_claim

pub returns-clause-end : goal.returns-clause-end
returns-clause-end c = core_end
