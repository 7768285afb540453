use Rattle.session_wire.proofs.ReplyLaws.{reply_takes, reply_again}
use Rattle.session_wire.proofs.message_laws.spelled_replies_are_read.Goals as goal

pub returns : goal.returns
returns c = λ p bytes m fits. (reply_again p bytes m, reply_takes p bytes m fits)
