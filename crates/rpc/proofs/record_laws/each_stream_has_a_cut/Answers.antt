use Rattle.rpc.proofs.EachCut.{each_cut}
use Rattle.rpc.proofs.record_laws.each_stream_has_a_cut.Goals as goal

pub returns : goal.returns
returns c = each_cut
