use Rattle.store_workers.proofs.StaysSingle.{stays_single}
use Rattle.store_workers.proofs.lone_worker.a_lone_worker_stays_single.Goals as goal

pub returns : goal.returns
returns c = stays_single
