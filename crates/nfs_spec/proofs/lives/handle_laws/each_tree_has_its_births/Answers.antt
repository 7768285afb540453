use Rattle.nfs_spec.proofs.LivesLemmas.Reached.{reached}
use Rattle.nfs_spec.proofs.lives.handle_laws.each_tree_has_its_births.Goals as goal

pub returns : goal.returns
returns c life at place run tree is there few transition = reached life at place run tree is there few transition
