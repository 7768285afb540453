use Rattle.std.proofs.Common.{take}
use Rattle.std.specs.Io.KnownBytes.{Appends}
use Rattle.sim.specs.Replies.{reply_lines}
use Rattle.sim.proofs.replies.print_replies.Given as goal

abbrev pub invariant-answers : goal.invariant-answers
invariant-answers g l = Appends (g.W.Write.contents l.fn.out) (g.W.Write.contents l.out)
    (reply_lines l.handed l.run.steps.items (take l.answer-index l.run.answers.items))
