use Rattle.nfs_spec.proofs.ProceduresLemmas.Stale.{step_follows}
use Rattle.nfs_spec.proofs.procedures.steps.each_file_was_there_or_is_made_now.Goals as goal

pub returns : goal.returns
returns c tree next ctx asked reply number node step there =
    (step_follows tree next ctx asked reply step).stamps number node there
