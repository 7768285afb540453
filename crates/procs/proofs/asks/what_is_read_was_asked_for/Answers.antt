use Rattle.procs.proofs.FewAsked.{none_read, read_once}
use Rattle.procs.proofs.asks.what_is_read_was_asked_for.Goals as goal

pub returns-clause-none : goal.returns-clause-none
returns-clause-none c = none_read

pub returns-clause-once : goal.returns-clause-once
returns-clause-once c = read_once
