use Rattle.nfs_spec.proofs.ProceduresLemmas.Stale.{no_later}
use Rattle.nfs_spec.proofs.procedures.steps.no_step_makes_a_later_stamp.Goals as goal

pub returns : goal.returns
returns c boot tree next ctx asked reply made now step =
    no_later boot tree next ctx asked reply made now step
