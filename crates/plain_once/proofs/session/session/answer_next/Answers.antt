use Rattle.std.proofs.Common.{ℕ, List, ap, arith, drop, inr, refl, Ok}
use Rattle.std.proofs.lemmas.Grind.{common_steps}
use Rattle.plain_once.proofs.SessionLemmas.Lost.{on_err}
use Rattle.plain_once.proofs.SessionLemmas.Next.{begins_answered, begins_closing, first_of, reply_of}
use Rattle.plain_once.proofs.session.session.answer_next.Goals as goal

pub returns-in_err-reply-clause-err : goal.returns-in_err-reply-clause-err
returns-in_err-reply-clause-err c =
    let first = first_of c.args.unread.now.items _ _ c.in-Record.record c.in-Record.taken
    c.as_slice.ensures.value c.in_ok-first_record.ensures c.in-Record.is in
    let lost = c.in_err-reply.ensures.lost in
    on_err c.from_residual-in_err-reply.result (
      refl {A = List ℕ},
      inr (
        lost.0,
        drop c.in-Record.taken c.args.unread.now.items,
        begins_answered _ _ _ _ _ _ _ first c.in_ok-message.ensures.ok lost.1,
      ),
    )

pub returns-in_default-clause-stops : goal.returns-in_default-clause-stops
returns-in_default-clause-stops c =
    let first = first_of c.args.unread.now.items _ _ c.in-Record.record c.in-Record.taken
    c.as_slice.ensures.value c.in_ok-first_record.ensures c.in-Record.is in
    let closed = c.in_ok-reply.ensures.closed (ap Ok c.in_default.is) in (
      inr (begins_closing _ _ _ _ first c.in_ok-message.ensures.ok closed.0),
      refl {A = List ℕ},
      refl {A = List ℕ},
      closed.1,
    )

pub returns-in_err-extend_from_slice-clause-err : goal.returns-in_err-extend_from_slice-clause-err
returns-in_err-extend_from_slice-clause-err c =
    let first = first_of c.args.unread.now.items _ _ c.in-Record.record c.in-Record.taken
    c.as_slice.ensures.value c.in_ok-first_record.ensures c.in-Record.is in
    let answered = reply_of _ _ _ _ _ c.in-Some.is c.in_ok-reply.ensures.answered in
    on_err c.from_residual-in_err-extend_from_slice.result (
      grind (arith, common_steps),
      inr (
        c.in-Some.reply.items,
        drop c.in-Record.taken c.args.unread.now.items,
        begins_answered _ _ _ _ _ _ _ first c.in_ok-message.ensures.ok answered,
      ),
    )
