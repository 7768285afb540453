use Rattle.circ.proofs.LogLemmas.Absorption.{grows}
use Rattle.circ.proofs.log.law.an_append_grows_the_log.Goals as goal

pub returns : goal.returns
returns c = grows
