use Rattle.std.proofs.Common.{ℕ, ◌<◌, List, get_or, refl, subst}
use Rattle.session_wire.specs.Judging.{judged}
use Rattle.plain_once.specs.Session.Answering.{Files}
use Rattle.plain_once.proofs.SessionLemmas.Closing.{called, closed, lacking, refusal}
use Rattle.plain_once.proofs.SessionLemmas.Lost.{on_err}
use Rattle.plain_once.proofs.SessionLemmas.Taken.{taken}
use Rattle.plain_once.proofs.session.answers.answer_record.Goals as goal

pub answer_call-requires-clause-fits : goal.answer_call-requires-clause-fits
answer_call-requires-clause-fits c =
    taken c.args.message.now c.in-Ok-Call.xid c.in-Ok-Call.credential c.in-Ok-Call.call
    (subst (λ (bytes : List ℕ). (index : ℕ) → get_or bytes index 0 < 256) c.as_slice.ensures c.are_bytes.ensures)
    (rw c.in-Ok-Call.field-0-is at c.in-Ok-Call.ensures)

pub returns-in-Ok-Closed-clause-closed : goal.returns-in-Ok-Closed-clause-closed
returns-in-Ok-Closed-clause-closed c = λ same.
    (closed (judged c.args.message.now) (rw c.in-Ok-Closed.field-0-is at c.in-Ok-Closed.ensures), refl {A = Files})

pub returns-in_err-refused-in-Ok-Refused-clause-lost : goal.returns-in_err-refused-in-Ok-Refused-clause-lost
returns-in_err-refused-in-Ok-Refused-clause-lost c =
    on_err c.from_residual-in_err-refused-in-Ok-Refused.result (_, refusal _ _ _ _ _ (rw c.in-Ok-Refused.field-0-is at c.in-Ok-Refused.ensures) refl)

pub returns-in_err-refused-in-Err-clause-lost : goal.returns-in_err-refused-in-Err-clause-lost
returns-in_err-refused-in-Err-clause-lost c =
    on_err c.from_residual.result
    (_, lacking _ _ _ _ c.in-Err.ensures refl)

pub returns-in_err-answer_call-in-Ok-Call-clause-lost : goal.returns-in_err-answer_call-in-Ok-Call-clause-lost
returns-in_err-answer_call-in-Ok-Call-clause-lost c =
    let lost = c.in_err-answer_call-in-Ok-Call.ensures.lost in
    on_err c.from_residual-in_err-answer_call-in-Ok-Call.result
    (lost.0, called _ _ _ _ _ _ _ (rw c.in-Ok-Call.field-0-is at c.in-Ok-Call.ensures) lost.1)

pub returns-in_ok-refused-in-Ok-Refused-clause-answered : goal.returns-in_ok-refused-in-Ok-Refused-clause-answered
returns-in_ok-refused-in-Ok-Refused-clause-answered c =
    refusal _ _ _ _ _ (rw c.in-Ok-Refused.field-0-is at c.in-Ok-Refused.ensures) c.in_ok-refused-in-Ok-Refused.ensures

pub returns-in_ok-answer_call-in-Ok-Call-clause-answered : goal.returns-in_ok-answer_call-in-Ok-Call-clause-answered
returns-in_ok-answer_call-in-Ok-Call-clause-answered c =
    called _ _ _ _ _ _ _ (rw c.in-Ok-Call.field-0-is at c.in-Ok-Call.ensures) c.in_ok-answer_call-in-Ok-Call.ensures.ok
