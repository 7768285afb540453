use Rattle.nfs_spec.proofs.ProceduresLemmas.Failures.{no_failure}
use Rattle.nfs_spec.proofs.procedures.steps.no_step_tells_a_failure.Goals as goal

pub returns : goal.returns
returns c tree next ctx asked reply step = no_failure tree next ctx step.new asked reply step.leads
