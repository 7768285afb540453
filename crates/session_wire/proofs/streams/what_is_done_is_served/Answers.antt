use Rattle.session_wire.proofs.ServedStreams.{done_served}
use Rattle.session_wire.proofs.streams.what_is_done_is_served.Goals as goal

pub returns : goal.returns
returns c = done_served
