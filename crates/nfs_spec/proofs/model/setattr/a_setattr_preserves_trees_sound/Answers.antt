use Rattle.nfs_spec.proofs.ModelLemmas.Answered.{stays_sound}
use Rattle.nfs_spec.proofs.model.setattr.a_setattr_preserves_trees_sound.Goals as goal

pub returns : goal.returns
returns c = stays_sound
