use Rattle.store_law.proofs.LivesLemmas.Counted.{life_counts}
use Rattle.store_law.proofs.lives.handle_laws.a_life_counts_up_to_each_crash.Goals as goal

pub returns : goal.returns
returns c life is = life_counts life is
