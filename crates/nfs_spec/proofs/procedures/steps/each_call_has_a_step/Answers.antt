use Rattle.nfs_spec.proofs.ProceduresLemmas.Served.{some_step}
use Rattle.nfs_spec.proofs.procedures.steps.each_call_has_a_step.Goals as goal

pub returns : goal.returns
returns c = some_step
