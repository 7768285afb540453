use Rattle.session_wire.proofs.ServedStreams.{can_be_served}
use Rattle.session_wire.proofs.streams.each_stream_can_be_served.Goals as goal

pub returns : goal.returns
returns c = can_be_served
