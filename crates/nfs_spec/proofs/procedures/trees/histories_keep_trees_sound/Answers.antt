use Rattle.nfs_spec.proofs.ProceduresLemmas.SoundSteps.{history_sound}
use Rattle.nfs_spec.proofs.procedures.trees.histories_keep_trees_sound.Goals as goal

pub returns : goal.returns
returns c tree next entries good each leads = history_sound tree next entries good each leads
