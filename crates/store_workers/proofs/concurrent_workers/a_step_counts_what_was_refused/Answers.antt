use Rattle.store_workers.proofs.CountsRefused.{counts_refused}
use Rattle.store_workers.proofs.concurrent_workers.a_step_counts_what_was_refused.Goals as goal

pub returns : goal.returns
returns c = counts_refused
