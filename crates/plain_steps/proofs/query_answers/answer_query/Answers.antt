use Rattle.std.proofs.Common.{ap}
use Rattle.plain_tree.specs.Tree.Plain.{tree_of}
use Rattle.plain_steps.proofs.Given.{ok_some_then}
use Rattle.plain_steps.proofs.query_answers.answer_query.Goals as goal

pub returns-clause-step : goal.returns-clause-step
returns-clause-step c =
    ok_some_then c.tell-query_reply.result _ _ c.tell-query_reply.ensures.step
    (λ reply leads new. leads tt (tree_of c.args.tree.now) new (ap tree_of c.replace.ensures.value))
