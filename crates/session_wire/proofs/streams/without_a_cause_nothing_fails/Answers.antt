use Rattle.session_wire.proofs.ServedStreams.{without_cause}
use Rattle.session_wire.proofs.streams.without_a_cause_nothing_fails.Goals as goal

pub returns : goal.returns
returns c = without_cause
