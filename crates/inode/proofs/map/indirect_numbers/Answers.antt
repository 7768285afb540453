use Rattle.std.proofs.lemmas.Result.{IfErr-weaker, IfOk-weaker}
use Rattle.inode.proofs.HeldThere.{indirect_part_placed}
use Rattle.inode.proofs.Placed.{indirect_placed}
use Rattle.inode.proofs.map.indirect_numbers.Goals as goal

pub returns-clause-ok : goal.returns-clause-ok
returns-clause-ok c =
    IfOk-weaker c.pointer_numbers.result _ _ (λ numbers is blocks tree file has. is blocks tree has.over)
    c.pointer_numbers.ensures.ok

pub returns-clause-resumable : goal.returns-clause-resumable
returns-clause-resumable c =
    IfErr-weaker c.pointer_numbers.result _ _ (λ suspend resumable blocks tree file has.
    resumable blocks tree has.over (indirect_placed c.args.snap.now blocks tree file c.args.inode.now has)
    (indirect_part_placed c.args.snap.now blocks tree file c.args.inode.now has)) c.pointer_numbers.ensures.resumable
