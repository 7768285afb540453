use Rattle.std.proofs.lemmas.Result.{IfErr-weaker, IfOk-weaker}
use Rattle.inode.proofs.HeldThere.{resumes}
use Rattle.inode.proofs.Stops.{both_err}
use Rattle.procs_blocks.proofs.InodeNodes.{may_suspend}
use Rattle.procs_blocks.proofs.space.are_enough_free_for.Goals as goal

pub returns-clause-ok : goal.returns-clause-ok
returns-clause-ok c =
    IfOk-weaker c.are_enough_free.result _ _ (λ has_space is blocks tree over. is blocks tree over.saw over.holds)
    c.are_enough_free.ensures.ok

pub returns-clause-err : goal.returns-clause-err
returns-clause-err c =
    both_err c.are_enough_free.result _ _ _ (λ why new asked. may_suspend c.args.snap.now why new asked)
    c.are_enough_free.ensures.err c.are_enough_free.ensures.asks

pub returns-clause-resumable : goal.returns-clause-resumable
returns-clause-resumable c =
    IfErr-weaker c.are_enough_free.result _ _ (λ why none blocks tree over.
    resumes c.args.snap.now why blocks tree none over) c.are_enough_free.ensures.io
