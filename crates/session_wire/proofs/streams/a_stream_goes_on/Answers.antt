use Rattle.session_wire.proofs.ServedStreams.{later}
use Rattle.session_wire.proofs.streams.a_stream_goes_on.Goals as goal

pub returns : goal.returns
returns c = later
