use Rattle.store_promise.proofs.RisingLockRequests.{not_barred}
use Rattle.store_promise.proofs.waiting_laws.what_is_taken_again_is_not_upgraded.Goals as goal

pub returns : goal.returns
returns c = λ next taken later rises. not_barred next taken later rises
