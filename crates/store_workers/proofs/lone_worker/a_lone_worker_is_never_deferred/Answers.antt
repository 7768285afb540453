use Rattle.store_workers.proofs.LoneWorker.{never_deferred}
use Rattle.store_workers.proofs.lone_worker.a_lone_worker_is_never_deferred.Goals as goal

pub returns : goal.returns
returns c = never_deferred
