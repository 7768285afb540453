use Rattle.session_wire.proofs.ServedStreams.{closed}
use Rattle.session_wire.proofs.streams.a_closed_connection_gets_no_reply.Goals as goal

pub returns : goal.returns
returns c = closed
