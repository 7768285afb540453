use Rattle.store_workers.proofs.EventTells.{no_read_is_traced, read_is_traced}
use Rattle.store_workers.proofs.workers.run_reports.a_worker_tells_its_read.Goals as goal

pub returns-clause-made : goal.returns-clause-made
returns-clause-made c = read_is_traced

pub returns-clause-none : goal.returns-clause-none
returns-clause-none c = no_read_is_traced
