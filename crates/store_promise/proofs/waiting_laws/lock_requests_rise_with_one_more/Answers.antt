use Rattle.store_promise.proofs.RisingLockRequests.{is_preserved, no_more, one_rank, still_rises, there}
use Rattle.store_promise.proofs.waiting_laws.lock_requests_rise_with_one_more.Goals as goal

pub returns-clause-rise : goal.returns-clause-rise
returns-clause-rise c = still_rises

pub returns-clause-there : goal.returns-clause-there
returns-clause-there c = there

pub returns-clause-is_preserved : goal.returns-clause-is_preserved
returns-clause-is_preserved c = λ one other lock_requests is. is_preserved one lock_requests other is

pub returns-clause-no_more : goal.returns-clause-no_more
returns-clause-no_more c = λ one other lock_requests. no_more one lock_requests other

pub returns-clause-ranks : goal.returns-clause-ranks
returns-clause-ranks c = one_rank
