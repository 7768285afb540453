use Rattle.rpc.proofs.RecordLaws.{begun_not_long, empty_not_begun, empty_not_long}
use Rattle.rpc.proofs.EachCut.{rests}
use Rattle.rpc.proofs.record_laws.a_rest_is_one_of_three.Goals as goal

pub returns : goal.returns
returns c = record {
  each = rests;
  begun_is_not_empty = empty_not_begun;
  too_long_is_not_empty = empty_not_long;
  begun_is_not_too_long = begun_not_long;
}
