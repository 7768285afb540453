use Rattle.txn.proofs.OtherSteps.{by_begin, by_claimed, by_end, by_failed, by_fetched, by_place, by_want}
use Rattle.txn.proofs.OtherSteps.{preserves_refused}
use Rattle.txn.proofs.transaction_laws.others_keep_what_they_have.Goals as goal

pub returns-clause-begun : goal.returns-clause-begun
returns-clause-begun c = by_begin

pub returns-clause-refused : goal.returns-clause-refused
returns-clause-refused c = preserves_refused

pub returns-clause-wanted : goal.returns-clause-wanted
returns-clause-wanted c = by_want

pub returns-clause-claimed : goal.returns-clause-claimed
returns-clause-claimed c = by_claimed

pub returns-clause-placed : goal.returns-clause-placed
returns-clause-placed c = by_place

pub returns-clause-ended : goal.returns-clause-ended
returns-clause-ended c = by_end

pub returns-clause-fetched : goal.returns-clause-fetched
returns-clause-fetched c = by_fetched

pub returns-clause-failed : goal.returns-clause-failed
returns-clause-failed c = by_failed
