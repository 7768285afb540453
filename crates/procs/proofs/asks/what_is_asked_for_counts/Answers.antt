use Rattle.procs.proofs.FewAsked.{asked_more}
use Rattle.procs.proofs.asks.what_is_asked_for_counts.Goals as goal

pub returns : goal.returns
returns c = asked_more
