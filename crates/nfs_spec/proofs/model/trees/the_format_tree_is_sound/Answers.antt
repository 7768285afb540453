use Rattle.nfs_spec.proofs.ModelLemmas.Formatted.{sound}
use Rattle.nfs_spec.proofs.model.trees.the_format_tree_is_sound.Goals as goal

pub returns : goal.returns
returns c = sound
