use Rattle.session_wire.proofs.ServedStreams.{none}
use Rattle.session_wire.proofs.streams.no_messages_get_no_replies.Goals as goal

pub returns : goal.returns
returns c = none
