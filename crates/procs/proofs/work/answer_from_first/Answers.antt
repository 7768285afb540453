use Rattle.procs.proofs.ChangesOf.{for_calls}
use Rattle.procs.proofs.work.answer_from_first.Goals as goal

pub returns-in-Err-clause-io : goal.returns-in-Err-clause-io
returns-in-Err-clause-io c =
    for_calls c.args.ctx.now c.args.call.now c.args.snap.now c.in-Err.suspend c.in-Err.ensures.io
