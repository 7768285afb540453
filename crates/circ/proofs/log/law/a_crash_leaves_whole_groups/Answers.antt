use Rattle.circ.proofs.LogLemmas.Boundary.{crash_boundary}
use Rattle.circ.proofs.log.law.a_crash_leaves_whole_groups.Goals as goal

pub returns : goal.returns
returns c = crash_boundary
