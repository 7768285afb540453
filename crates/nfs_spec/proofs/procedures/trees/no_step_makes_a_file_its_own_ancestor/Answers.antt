use Rattle.nfs_spec.proofs.ProceduresLemmas.SoundSteps.{own_ancestor, step_sound}
use Rattle.nfs_spec.proofs.procedures.trees.no_step_makes_a_file_its_own_ancestor.Goals as goal

pub returns : goal.returns
returns c tree next ctx asked reply number steps node good now fits step there other own =
    own_ancestor next (step_sound tree next ctx asked reply good now fits step) number steps node
    there other own
