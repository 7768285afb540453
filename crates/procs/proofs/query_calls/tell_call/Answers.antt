use Rattle.std.proofs.Common.{subst, sym}
use Rattle.inode.specs.Over.{IsOver, MaySuspend}
use Rattle.procs.proofs.ChangesOf.{for_calls}
use Rattle.procs.proofs.TellsOf.{query_is_step, is_asked, is_new, none_stand}
use Rattle.procs.proofs.query_calls.tell_call.Goals as goal

pub returns-in_ok-read_only_plan-in-Some-clause-step : goal.returns-in_ok-read_only_plan-in-Some-clause-step
returns-in_ok-read_only_plan-in-Some-clause-step c =
    query_is_step c.args.snap.now c.args.ctx.now c.args.call.now c.in_ok-read_only_plan-in-Some.field-0 c.in-Some.reply
    c.in_ok-read_only_plan-in-Some.ensures.done c.in_ok-read_only_plan-in-Some.ensures.reply c.in_ok-read_only_plan-in-Some.ensures.written
    (λ blocks tree new over. (rw c.in-Some.is at c.in-Ok.ensures.step) blocks tree new
    (subst (λ snap. IsOver snap blocks tree) (sym c.searched-files.ensures) over))

pub returns-in-Err-clause-err : goal.returns-in-Err-clause-err
returns-in-Err-clause-err c =
    is_new c.args.snap.now c.in-Err.suspend
    (subst (λ snap. MaySuspend snap c.in-Err.suspend) c.searched-files.ensures c.in-Err.ensures.err)

pub returns-in-Err-clause-asks : goal.returns-in-Err-clause-asks
returns-in-Err-clause-asks c =
    is_asked c.args.snap.now c.in-Err.suspend
    (subst (λ snap. MaySuspend snap c.in-Err.suspend) c.searched-files.ensures c.in-Err.ensures.err)

pub returns-in-Err-clause-io : goal.returns-in-Err-clause-io
returns-in-Err-clause-io c =
    for_calls c.args.ctx.now c.args.call.now c.args.snap.now c.in-Err.suspend
    (none_stand c.args.snap.now c.in-Err.suspend (λ blocks tree over.
    c.in-Err.ensures.resumable blocks tree
    (subst (λ snap. IsOver snap blocks tree) (sym c.searched-files.ensures) over)))
