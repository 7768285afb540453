use Rattle.nfs_spec.proofs.ProceduresLemmas.SoundSteps.{step_sound}
use Rattle.nfs_spec.proofs.procedures.trees.steps_keep_trees_sound.Goals as goal

pub returns : goal.returns
returns c tree next ctx asked reply good now fits step = step_sound tree next ctx asked reply good now fits step
