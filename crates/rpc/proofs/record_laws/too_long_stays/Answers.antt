use Rattle.rpc.proofs.RecordLaws.{longer}
use Rattle.rpc.proofs.record_laws.too_long_stays.Goals as goal

pub returns : goal.returns
returns c = longer
