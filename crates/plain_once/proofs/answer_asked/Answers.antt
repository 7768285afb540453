use Rattle.std.proofs.Common.{ap, subst}
use Rattle.plain_once.specs.Session.Serving.{IsNew, Session, session_of}
use Rattle.plain_once.specs.Attending.{IsDone}
use Rattle.plain_once.proofs.answer_asked.Goals as goal

-- the session is a new one, and what it attended is what a fresh one would have
pub returns-in-Ok-Some-clause-ended : goal.returns-in-Ok-Some-clause-ended
returns-in-Ok-Some-clause-ended g c ended =
    let asked = c.args.asked in
    let new = subst (IsNew asked.blocks asked.inodes asked.made asked.fake_clock) c.in-Ok-Some.field-0-is
    c.in-Ok-Some.ensures in
    let input = c.answer_input in
    let last = session_of input.new.session in
    record {
      data_blocks = new.0;
      has_data = new.1;
      last = last;
      done = subst (λ start. IsDone start last (g.R.Read.remaining c.args.reader.now)
          (g.R.Read.remaining input.new.reader) (g.W.Write.contents c.args.writer.now)
          (g.W.Write.contents input.new.writer)) new.2
          (input.ensures.ended (ap (λ (s : Session). s.is_closed) new.2) ended);
    }
