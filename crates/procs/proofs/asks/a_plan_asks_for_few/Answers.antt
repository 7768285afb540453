use Rattle.procs.proofs.FewAsked.{few, few_times}
use Rattle.procs.proofs.asks.a_plan_asks_for_few.Goals as goal

pub returns-clause-objects : goal.returns-clause-objects
returns-clause-objects c = few

pub returns-clause-times : goal.returns-clause-times
returns-clause-times c = few_times
