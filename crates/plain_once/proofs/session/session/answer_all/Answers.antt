use Rattle.std.proofs.Common.{arith}
use Rattle.plain_once.specs.Session.Serving.{None}
use Rattle.plain_once.proofs.SessionLemmas.Answered.{one_more, stopped}
use Rattle.plain_once.proofs.SessionLemmas.Lost.{on_err}
use Rattle.plain_once.proofs.session.session.answer_all.Goals as goal

pub loop-answered-init : goal.loop-answered-init
loop-answered-init c = record { answered = None; counted = omega arith }

pub returns-in_err-progress-clause-err : goal.returns-in_err-progress-clause-err
returns-in_err-progress-clause-err c =
    let lost = c.in_err-progress.ensures.err in
    on_err c.from_residual.result
    (stopped _ _ _ _ _ _ _ _ c.loop-answered.invariant.answered lost.0 lost.1)

pub loop-answered-preserved : goal.loop-answered-preserved
loop-answered-preserved c =
    let more = one_more _ _ _ _ _ _ _ _ _ _ c.in_default.is c.loop-answered.invariant.answered
    c.in_ok-progress.ensures.answers in
    record { answered = more.0; counted = omega (arith, more.1) }
