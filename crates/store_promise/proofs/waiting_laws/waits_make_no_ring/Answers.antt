use Rattle.store_promise.specs.Schedule.{state_before}
use Rattle.store_promise.proofs.KnownLockRequests.{taken_well}
use Rattle.store_promise.proofs.NoRing.{no_ring}
use Rattle.store_promise.proofs.waiting_laws.waits_make_no_ring.Goals as goal

pub returns : goal.returns
returns c = λ o workers index events steps one later taken wait.
    no_ring o (state_before events steps index) (taken_well o workers events steps taken index) one later wait
