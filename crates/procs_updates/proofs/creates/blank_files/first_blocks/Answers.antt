use Rattle.procs_updates.proofs.CreatesLemmas.Added.{regular_cost}
use Rattle.procs_updates.proofs.creates.blank_files.first_blocks.Goals as goal

pub returns-in-Regular-clause-is : goal.returns-in-Regular-clause-is
returns-in-Regular-clause-is c = λ target. regular_cost c.args.inode_attributes.now target c.in-Regular.is
