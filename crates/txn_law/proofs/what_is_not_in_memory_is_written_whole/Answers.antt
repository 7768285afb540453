use Rattle.txn_law.proofs.Claims.{whole_writes}
use Rattle.txn_law.proofs.what_is_not_in_memory_is_written_whole.Goals as goal

pub returns : goal.returns
returns c = whole_writes
