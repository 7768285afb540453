use Rattle.nfs_spec.proofs.ProceduresLemmas.Unchanged.{query_leaves}
use Rattle.nfs_spec.proofs.procedures.steps.what_only_tells_leaves_the_tree.Goals as goal

pub returns : goal.returns
returns c tree next ctx asked reply step tells =
    query_leaves tree next ctx step.new asked reply step.leads tells
