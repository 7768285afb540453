use Rattle.txn_law.proofs.HomeReads.{readable_append, readable_read, readable_unaffected, contents_made}
use Rattle.txn_law.proofs.reads.steps_keep_what_may_be_read.Goals as goal

pub returns-clause-append : goal.returns-clause-append
returns-clause-append c = readable_append

pub returns-clause-read : goal.returns-clause-read
returns-clause-read c = readable_read

pub returns-clause-unaffected_by_write : goal.returns-clause-unaffected_by_write
returns-clause-unaffected_by_write c = readable_unaffected

pub returns-clause-contents : goal.returns-clause-contents
returns-clause-contents c = contents_made
