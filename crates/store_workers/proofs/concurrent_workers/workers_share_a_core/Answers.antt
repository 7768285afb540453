use Rattle.store_workers.proofs.ShareCore.{none_beyond, share_still}
use Rattle.store_workers.proofs.concurrent_workers.workers_share_a_core.Goals as goal

pub returns-clause-still : goal.returns-clause-still
returns-clause-still c = λ old new workers later number are left list.
    share_still old new workers later number are left list

pub returns-clause-beyond : goal.returns-clause-beyond
returns-clause-beyond c = none_beyond
