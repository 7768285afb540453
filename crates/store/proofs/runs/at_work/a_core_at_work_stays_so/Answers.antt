use Rattle.store.proofs.RunsLemmas.AtWorkStays.{at_work_still}
use Rattle.store.proofs.runs.at_work.a_core_at_work_stays_so.Goals as goal

pub returns : goal.returns
returns c = at_work_still
