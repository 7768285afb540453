use Rattle.circ.proofs.LogLemmas.Boundary.{crash_boundary}
use Rattle.circ.proofs.LogLemmas.Opening.{read_back, log_read_back}
use Rattle.circ.proofs.log.law.an_opening_reads_whole_groups.Goals as goal

pub returns-clause-found : goal.returns-clause-found
returns-clause-found c d base log image result lawful agrees crash =
    read_back base log image result (crash_boundary d base log image lawful agrees crash)

pub returns-clause-log : goal.returns-clause-log
returns-clause-log c d base log image result lawful agrees crash =
    log_read_back base log image result (crash_boundary d base log image lawful agrees crash)
