use Rattle.plain_once.specs.Session.Serving.{session_of}
use Rattle.plain_once.proofs.Attended.{fed}
use Rattle.plain_once.proofs.answer_read.Goals as goal

pub returns-then-answer_piece-clause-goes_on : goal.returns-then-answer_piece-clause-goes_on
returns-then-answer_piece-clause-goes_on g c = λ start unread first so_far.
    let proven = c.answer_piece.ensures so_far.goes_on c.if-answer_piece.true in
    fed start (session_of c.args.session.now) (session_of c.answer_piece.new.session) unread
    (g.R.Read.remaining c.args.reader.now) (g.R.Read.remaining c.read.new.self) first
    (g.W.Write.contents c.args.writer.now) (g.W.Write.contents c.answer_piece.new.writer) _ proven.0 so_far
    c.in-Ok.ensures.bytes.0 proven.1 proven.2
