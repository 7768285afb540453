use Rattle.store_law.proofs.LivesLemmas.Recovery.{stopped_again}
use Rattle.store_law.proofs.lives.recovery_laws.a_stopped_recovery_preserves_the_tree.Goals as goal

pub returns : goal.returns
returns c openings begun o at clock first tree image are there holds is from to left =
    stopped_again openings begun o at clock first tree image are there holds is from to left
