use Rattle.std.proofs.lemmas.Result.{IfErr-weaker, IfOk-weaker}
use Rattle.inode.proofs.HeldThere.{resumes}
use Rattle.inode.proofs.Stops.{both_err}
use Rattle.procs_blocks.proofs.InodeNodes.{may_suspend}
use Rattle.procs_blocks.proofs.space.unused_number.Goals as goal

pub returns-clause-ok : goal.returns-clause-ok
returns-clause-ok c =
    IfOk-weaker c.new_number.result _ _ (λ number is blocks tree over. is blocks tree over.saw over.holds)
    c.new_number.ensures.ok

pub returns-clause-err : goal.returns-clause-err
returns-clause-err c =
    both_err c.new_number.result _ _ _ (λ why new asked. may_suspend c.args.snap.now why new asked)
    c.new_number.ensures.err c.new_number.ensures.asks

pub returns-clause-resumable : goal.returns-clause-resumable
returns-clause-resumable c =
    IfErr-weaker c.new_number.result _ _ (λ why none blocks tree over.
    resumes c.args.snap.now why blocks tree none over) c.new_number.ensures.io
