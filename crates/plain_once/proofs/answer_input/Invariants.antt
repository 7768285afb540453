-- what was read so far is attended
use Rattle.std.proofs.Common.{◌≡◌, false}
use Rattle.plain_once.specs.Session.Serving.{session_of}
use Rattle.plain_once.specs.Attending.{IsAttended}
use Rattle.plain_once.proofs.answer_input.Given as goal

abbrev pub invariant-loop-reads : goal.invariant-loop-reads
invariant-loop-reads g l = (session_of l.fn.session).is_closed ≡ false
    → IsAttended (session_of l.fn.session) (session_of l.session) (g.R.Read.remaining l.fn.reader)
    (g.R.Read.remaining l.reader) (g.W.Write.contents l.fn.writer) (g.W.Write.contents l.writer)
