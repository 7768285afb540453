use Rattle.disk.proofs.OverlapLemmas.{commute}
use Rattle.disk.proofs.device_laws.overlapping_calls_commute.Goals as goal

pub returns : goal.returns
returns c = commute
