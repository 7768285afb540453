use Rattle.std.proofs.Common.{refl}
use Rattle.circ.proofs.LogLemmas.Opening.{stands_found}
use Rattle.circ.proofs.log.law.an_opening_begins_in_agreement.Goals as goal

pub returns-clause-stands : goal.returns-clause-stands
returns-clause-stands c = stands_found

pub returns-clause-overlay : goal.returns-clause-overlay
returns-clause-overlay c d block = refl
