use Rattle.std.proofs.Common.{subst, IfOk, IfSome}
use Rattle.nfs_types.specs.Fits.{CallFits}
use Rattle.nfs_spec.specs.Model.Sound.{Sound, SoundCtx}
use Rattle.nfs_spec.specs.Procedures.Step.{step}
use Rattle.plain_tree.specs.Tree.Plain.{tree_of}
use Rattle.plain_steps.proofs.Given.{value_is}
use Rattle.plain_steps.proofs.Leads.{unchanged}
use Rattle.plain_steps.proofs.answers.answer.Goals as goal

pub returns-in-Some-clause-step : goal.returns-in-Some-clause-step
returns-in-Some-clause-step c = λ sound at fits.
    unchanged (tree_of c.args.tree.now) (tree_of c.answer_query.new.tree) c.args.ctx.now c.args.call.now
    c.in-Some.reply c.in_ok-reply.ensures.same
    (value_is c.in_ok-reply.field-0 c.in-Some.reply _ c.in-Some.is c.in_ok-reply.ensures.step)

pub returns-clause-step : goal.returns-clause-step
returns-clause-step c =
    let next = tree_of c.answer_update.new.tree in
    subst
    (λ tree. IfOk c.answer_update.result (λ r. IfSome r (λ reply. Sound tree → SoundCtx c.args.ctx.now
    → CallFits c.args.call.now → step tree c.args.ctx.now c.args.call.now reply next)))
    c.in_ok-reply.ensures.same c.answer_update.ensures.step
