use Rattle.std.proofs.Common.{◌≡◌, ◌∙◌, List, OnOk, ℕ, ◌-◌, ap, drop, length, sym, take, subst}
use Rattle.std.specs.Io.KnownBytes.{Appends}
use Rattle.session_wire.specs.Replies as wire
use Rattle.sim.specs.Lines.{reply_line}
use Rattle.sim.specs.Replies.{body_of}
use Rattle.sim.proofs.Marks.{message_behind}
use Rattle.sim.proofs.replies.print_answer.Goals.{in-Reply, in-NoMemory}
use Rattle.sim.proofs.replies.print_answer.Goals as goal

pub returns-in-Ok : goal.returns-in-Ok
returns-in-Ok g c =
    let body : wire.body_of c.match-answer.reply ≡ body_of c.args.answer.now.verdict = elim c.match-answer.branch [
      | in-Reply w ↦ ap wire.body_of w.reply-is ∙ sym (ap body_of w.in-Reply.is)
      | in-NoMemory w ↦ ap wire.body_of w.reply-is ∙ sym (ap body_of w.in-NoMemory.is)
    ] in
    let message : take (length c.deref.result.now - 4) (drop 4 c.deref.result.now)
    ≡ wire.reply_bytes c.args.xid (body_of c.args.answer.now.verdict) =
    ap (λ (text : List ℕ). take (length text - 4) (drop 4 text)) c.deref.ensures.value
    ∙ message_behind c.in-Ok.record.items _ c.in-Ok.ensures.ok
    ∙ ap (λ body. wire.reply_bytes c.args.xid body) body in
    subst (λ (text : List ℕ). OnOk c.print_reply.result (Appends (g.W.Write.contents c.args.out.now)
    (g.W.Write.contents c.print_reply.new.out) (reply_line c.args.answer.now.worker text)))
    message c.print_reply.ensures.printed
