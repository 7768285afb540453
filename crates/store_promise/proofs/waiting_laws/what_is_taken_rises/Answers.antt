use Rattle.store_promise.proofs.KnownLockRequests.{taken_well}
use Rattle.store_promise.proofs.waiting_laws.what_is_taken_rises.Goals as goal

pub returns : goal.returns
returns c = λ o workers index worker events steps taken. taken_well o workers events steps taken index worker
