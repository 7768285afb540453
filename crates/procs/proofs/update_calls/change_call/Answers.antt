use Rattle.std.proofs.Common.{◌≡◌, sym, ap, ◌∙◌, subst}
use Rattle.inode.specs.declared.snap.Snap.{Snap}
use Rattle.inode.specs.Over.{MaySuspend}
use Rattle.inode.specs.WriteSets.WriteSetContents.{WriteSetContents, IsWriteSet}
use Rattle.procs_dispatch.specs.Leads.{IsStepTo}
use Rattle.procs.proofs.ChangesOf.{changed_fails, changed_is_step}
use Rattle.procs.proofs.TellsOf.{is_asked}
use Rattle.procs.proofs.update_calls.change_call.Goals as goal

pub returns-in_ok-new-in-Ok-Some-clause-step : goal.returns-in_ok-new-in-Ok-Some-clause-step
returns-in_ok-new-in-Ok-Some-clause-step c =
    let ended = c.into_write_set.ensures in
    let seen : c.into_write_set.result.seen ≡ c.args.snap.now =
    ap (λ (d : WriteSetContents). d.seen) ended ∙ c.change.ensures.source ∙ ap (λ (d : WriteSetContents). d.seen) c.new-files.ensures
    ∙ c.in_ok-begin.ensures.seen in
    changed_is_step c.args.snap.now c.args.ctx.now c.args.call.now c.fit_64_bits.ensures.boot
    c.fit_64_bits.ensures.transaction c.in_ok-begin.field-0 c.in_ok-begin.ensures.is c.in_ok-new-in-Ok-Some.field-0
    c.in-Ok-Some.reply c.into_write_set.result
    (c.into_written-written.ensures.geometry ∙ ap (λ (s : Snap). s.geometry) seen)
    c.in_ok-new-in-Ok-Some.ensures.snap c.in_ok-new-in-Ok-Some.ensures.reply
    (c.in_ok-new-in-Ok-Some.ensures.written ∙ c.into_written-written.ensures.written)
    (λ blocks tree write_set sound ctx fits.
    subst (λ (d : WriteSetContents). IsStepTo (IsWriteSet d blocks) tree c.args.ctx.now c.args.call.now c.in-Ok-Some.reply)
    (sym ended)
    ((rw c.in-Ok-Some.field-0-is at c.in-Ok-Some.ensures.step) blocks tree
    (subst (λ (d : WriteSetContents). IsWriteSet d blocks tree) (sym c.new-files.ensures) write_set) sound ctx fits))

pub returns-in-Err-clause-asks : goal.returns-in-Err-clause-asks
returns-in-Err-clause-asks c =
    is_asked c.args.snap.now c.in-Err.suspend
    (subst (λ (s : Snap). MaySuspend s c.in-Err.suspend)
    (ap (λ (d : WriteSetContents). d.seen) c.new-files.ensures ∙ c.in_ok-begin.ensures.seen) c.in-Err.ensures.err)

pub returns-in-Err-clause-io : goal.returns-in-Err-clause-io
returns-in-Err-clause-io c =
    changed_fails c.args.snap.now c.args.ctx.now c.args.call.now c.fit_64_bits.ensures.boot
    c.fit_64_bits.ensures.transaction c.in_ok-begin.field-0 c.in_ok-begin.ensures.is c.in-Err.suspend
    (λ blocks tree write_set sound ctx fits.
    c.in-Err.ensures.resumable blocks tree
    (subst (λ (d : WriteSetContents). IsWriteSet d blocks tree) (sym c.new-files.ensures) write_set) sound ctx fits)
