use Rattle.std.proofs.Common.{rules}
use Rattle.std.proofs.lemmas.Result.{IfErr-weaker, IfOk-weaker}
use Rattle.inode.proofs.HeldThere.{is_inode_of, may_suspend, none_past, resumes}
use Rattle.inode.proofs.Stops.{both_err}
use Rattle.inode.proofs.inodes.held.Goals as goal

pub returns-then-number-snap-clause-ok : goal.returns-then-number-snap-clause-ok
returns-then-number-snap-clause-ok c = λ blocks tree over.
    none_past c.args.snap.now blocks tree c.args.number (search rules) over

pub returns-clause-ok : goal.returns-clause-ok
returns-clause-ok c =
    IfOk-weaker c.inode_of.result _ _ (λ found is blocks tree over.
    is_inode_of c.args.snap.now blocks tree c.args.number found (search rules) (is blocks over.saw) over)
    c.inode_of.ensures.there

pub returns-clause-err : goal.returns-clause-err
returns-clause-err c =
    both_err c.inode_of.result _ _ _ (λ why new asked.
    may_suspend c.args.snap.now c.args.number why (search rules) new asked) c.inode_of.ensures.err
    c.inode_of.ensures.asks

pub returns-clause-resumable : goal.returns-clause-resumable
returns-clause-resumable c =
    IfErr-weaker c.inode_of.result _ _ (λ why none blocks tree over.
    resumes c.args.snap.now why blocks tree none over) c.inode_of.ensures.io
