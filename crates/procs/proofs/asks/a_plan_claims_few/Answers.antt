use Rattle.procs.proofs.FewClaimed.{few_claimed}
use Rattle.procs.proofs.asks.a_plan_claims_few.Goals as goal

pub returns : goal.returns
returns c = few_claimed
