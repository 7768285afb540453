use Rattle.plain_once.proofs.Attended.{begun}
use Rattle.plain_once.proofs.answer_input.Goals as goal

pub loop-reads-init : goal.loop-reads-init
loop-reads-init g c = begun _ _ _
