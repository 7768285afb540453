use Rattle.std.proofs.Common.{inl, inr, refl}
use Rattle.session_wire.specs.Replies.{body_of}
use Rattle.session.specs.Replying.{IsSpelled, IsSystemError}
use Rattle.session.proofs.Courses.{delivers_so, has_spelling}
use Rattle.session.proofs.replies.put.Goals as goal

pub returns-in-Err-Length : goal.returns-in-Err-Length
returns-in-Err-Length g c =
    delivers_so (IsSystemError c.args.xid) (IsSpelled c.args.xid (body_of c.args.reply)) _ _ _
    (λ reply is. elim c.in-Err-Length.ensures.err [
      | inl long ↦ inr (long.1, is)
      | inr memory ↦ absurd (cc memory)
    ])
    c.put_system_error.ensures

pub returns-in-Err : goal.returns-in-Err
returns-in-Err g c =
    let spelled = has_spelling c.args.xid (body_of c.args.reply) in
    (spelled.0, spelled.1, refl)
