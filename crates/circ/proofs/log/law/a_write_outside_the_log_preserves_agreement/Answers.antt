use Rattle.circ.proofs.LogLemmas.HomeWrites.{home_written, home_settled}
use Rattle.circ.proofs.log.law.a_write_outside_the_log_preserves_agreement.Goals as goal

pub returns-clause-crash : goal.returns-clause-crash
returns-clause-crash c = home_written

pub returns-clause-settled : goal.returns-clause-settled
returns-clause-settled c = home_settled
