use Rattle.txn_law.proofs.HomeReads.{readable_log_out, readable_log_made, readable_log_back}
use Rattle.txn_law.proofs.reads.the_logger_preserves_what_may_be_read.Goals as goal

pub returns-clause-goes_out : goal.returns-clause-goes_out
returns-clause-goes_out c = readable_log_out

pub returns-clause-is_made : goal.returns-clause-is_made
returns-clause-is_made c = readable_log_made

pub returns-clause-comes_back : goal.returns-clause-comes_back
returns-clause-comes_back c = readable_log_back
