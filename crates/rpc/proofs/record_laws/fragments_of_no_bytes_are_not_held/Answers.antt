use Rattle.rpc.proofs.Held.{one_count, not_held, few_held}
use Rattle.rpc.proofs.record_laws.fragments_of_no_bytes_are_not_held.Goals as goal

pub returns : goal.returns
returns c = record { one = one_count; empty = not_held; few = few_held }
