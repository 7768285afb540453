use Rattle.procs.proofs.ChangesOf.{for_calls}
use Rattle.procs.proofs.RefusedThere.{none_in, none_without}
use Rattle.procs.proofs.work.answer_behind.Goals as goal

pub returns-in-Err-read_file-clause-io : goal.returns-in-Err-read_file-clause-io
returns-in-Err-read_file-clause-io c =
    for_calls c.args.ctx.now c.args.call.now c.args.snap.now c.in-Err-read_file.suspend c.in-Err-read_file.ensures.io

pub returns-in-Ok-read_file-clause-sound : goal.returns-in-Ok-read_file-clause-sound
returns-in-Ok-read_file-clause-sound c = λ nothing.
    none_in c.args.call.now c.args.snap.now c.in-Some.handle.now c.in-Some.ensures.some
    (c.in-Ok-read_file.ensures.sound nothing)

pub returns-in-None-clause-sound : goal.returns-in-None-clause-sound
returns-in-None-clause-sound c = λ nothing. none_without c.args.call.now c.args.snap.now c.in-None.ensures.none
