use Rattle.rpc.proofs.EachCut.{cut_on}
use Rattle.rpc.proofs.record_laws.a_cut_goes_on.Goals as goal

pub returns : goal.returns
returns c = cut_on
