use Rattle.session_wire.proofs.ReplyLaws.{same_reply}
use Rattle.session_wire.proofs.message_laws.replies_share_no_spelling.Goals as goal

pub returns : goal.returns
returns c = same_reply
