use Rattle.txn_law.proofs.HomeReads.{readable_inst_out, readable_inst_made, readable_inst_back}
use Rattle.txn_law.proofs.reads.the_installer_preserves_what_may_be_read.Goals as goal

pub returns-clause-goes_out : goal.returns-clause-goes_out
returns-clause-goes_out c = readable_inst_out

pub returns-clause-is_made : goal.returns-clause-is_made
returns-clause-is_made c = readable_inst_made

pub returns-clause-comes_back : goal.returns-clause-comes_back
returns-clause-comes_back c = readable_inst_back
