use Rattle.procs_inspection.proofs.NoTree.{no_refused}
use Rattle.procs_inspection.proofs.refusal_laws.what_is_refused_is_in_no_tree.Goals as goal

pub returns : goal.returns
returns c = no_refused
