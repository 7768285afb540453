use Rattle.txn_law.proofs.Others.{preserves_by, deferred_by}
use Rattle.txn_law.proofs.transactions_are_compatible.Goals as goal

pub returns-clause-busy : goal.returns-clause-busy
returns-clause-busy c = deferred_by

pub returns-clause-preserves : goal.returns-clause-preserves
returns-clause-preserves c = preserves_by
