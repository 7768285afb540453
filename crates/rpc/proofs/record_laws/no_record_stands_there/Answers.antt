use Rattle.rpc.proofs.RecordLaws.{rest_is_rest}
use Rattle.rpc.proofs.record_laws.no_record_stands_there.Goals as goal

pub returns : goal.returns
returns c = rest_is_rest
