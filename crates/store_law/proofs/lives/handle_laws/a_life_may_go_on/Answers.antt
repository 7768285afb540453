use Rattle.store_law.proofs.LivesLemmas.Counted.{goes_on}
use Rattle.store_law.proofs.lives.handle_laws.a_life_may_go_on.Goals as goal

pub returns : goal.returns
returns c run next events was rest left sound = goes_on run next events was rest left sound
