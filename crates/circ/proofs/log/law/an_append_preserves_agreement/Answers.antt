use Rattle.circ.proofs.LogLemmas.Unaffected.{stands_appended}
use Rattle.circ.proofs.log.law.an_append_preserves_agreement.Goals as goal

pub returns : goal.returns
returns c old new group lawful grown still d base logging installing =
    stands_appended d base old new group logging installing lawful grown still
