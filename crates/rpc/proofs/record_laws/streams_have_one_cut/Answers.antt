use Rattle.rpc.proofs.RecordLaws.{one_cut}
use Rattle.rpc.proofs.record_laws.streams_have_one_cut.Goals as goal

pub returns : goal.returns
returns c = one_cut
