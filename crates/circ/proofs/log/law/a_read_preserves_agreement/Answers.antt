use Rattle.circ.proofs.LogLemmas.Unaffected.{stands_read}
use Rattle.circ.proofs.log.law.a_read_preserves_agreement.Goals as goal

pub returns : goal.returns
returns c = stands_read
