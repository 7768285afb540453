use Rattle.store_workers.proofs.EventTells.{call_is_traced}
use Rattle.store_workers.proofs.workers.run_reports.a_worker_tells_its_call.Goals as goal

pub returns : goal.returns
returns c = call_is_traced
