use Rattle.nfs_spec.proofs.LivesLemmas.Born.{root_at_start}
use Rattle.nfs_spec.proofs.lives.handle_laws.the_root_was_there_at_the_start.Goals as goal

pub returns : goal.returns
returns c life at place tree births is has sound = root_at_start life at place tree births is has sound
