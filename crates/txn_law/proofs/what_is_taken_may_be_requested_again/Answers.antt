use Rattle.txn_law.proofs.Again.{open_again}
use Rattle.txn_law.proofs.what_is_taken_may_be_requested_again.Goals as goal

pub returns : goal.returns
returns c = open_again
