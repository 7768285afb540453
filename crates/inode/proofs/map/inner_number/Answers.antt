use Rattle.std.proofs.lemmas.Result.{IfErr-weaker, IfOk-weaker}
use Rattle.inode.proofs.Placed.{double_placed}
use Rattle.inode.proofs.map.inner_number.Goals as goal

pub returns-clause-ok : goal.returns-clause-ok
returns-clause-ok c =
    IfOk-weaker c.pointer_number.result _ _ (λ number is blocks tree file has. is blocks tree has.over)
    c.pointer_number.ensures.ok

pub returns-clause-resumable : goal.returns-clause-resumable
returns-clause-resumable c =
    IfErr-weaker c.pointer_number.result _ _ (λ suspend resumable blocks tree file has.
    resumable (double_placed c.args.snap.now blocks tree file c.args.inode.now has)) c.pointer_number.ensures.resumable
