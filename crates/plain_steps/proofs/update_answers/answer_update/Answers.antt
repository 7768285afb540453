use Rattle.std.proofs.Common.{◌≡◌, rules}
use Rattle.plain_tree.specs.Tree.Plain.{tree_of}
use Rattle.plain_steps.proofs.Given.{value_is}
use Rattle.plain_steps.proofs.Leads.{changed}
use Rattle.plain_steps.proofs.update_answers.answer_update.Goals as goal

pub returns-in-Some-clause-step : goal.returns-in-Some-clause-step
returns-in-Some-clause-step c =
    let same : tree_of c.in_ok-clone.field-0 ≡ tree_of c.args.tree.now = search rules in
    changed (tree_of c.args.tree.now) (tree_of c.in_ok-clone.field-0) (tree_of c.change.new.files.tree)
    c.args.ctx.now c.args.call.now c.in-Some.reply same
    (value_is c.in_ok-reply.field-0 c.in-Some.reply _ c.in-Some.is c.in_ok-reply.ensures.step tt)
