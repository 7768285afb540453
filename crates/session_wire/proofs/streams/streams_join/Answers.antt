use Rattle.session_wire.proofs.ServedStreams.{joined}
use Rattle.session_wire.proofs.streams.streams_join.Goals as goal

pub returns : goal.returns
returns c = joined
