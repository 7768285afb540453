use Rattle.txn_law.proofs.HomeReads.{read_current}
use Rattle.txn_law.proofs.reads.a_read_brings_what_is_current.Goals as goal

pub returns : goal.returns
returns c = read_current
