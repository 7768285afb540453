use Rattle.nfs_spec.proofs.ProceduresLemmas.Unchanged.{refusal_leaves}
use Rattle.nfs_spec.proofs.procedures.steps.a_refusal_leaves_the_tree.Goals as goal

pub returns : goal.returns
returns c tree next ctx asked reply step refused =
    refusal_leaves tree next ctx step.new asked reply step.leads refused
