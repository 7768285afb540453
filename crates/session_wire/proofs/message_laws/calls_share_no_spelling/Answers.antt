use Rattle.session_wire.proofs.CallLaws.{same_message}
use Rattle.session_wire.proofs.message_laws.calls_share_no_spelling.Goals as goal

pub returns : goal.returns
returns c = same_message
