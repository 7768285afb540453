use Rattle.std.proofs.Common.{◌∙◌, arith}
use Rattle.std.proofs.lemmas.Result.{IfErr-weaker, IfOk-weaker}
use Rattle.inode.proofs.Needed.{may_mapped_at}
use Rattle.inode.proofs.Pieces.{first_block, link_small}
use Rattle.inode.proofs.bytes.target.Goals as goal

pub returns-then-inode-clause-resumable : goal.returns-then-inode-clause-resumable
returns-then-inode-clause-resumable c = λ blocks tree file has kind.
    let small = link_small c.args.snap.now blocks tree file c.args.inode.now has kind in
    let large = c.if-inode.true in
    absurd (omega (arith, small, large))

pub returns-in-Ok-clause-ok : goal.returns-in-Ok-clause-ok
returns-in-Ok-clause-ok c =
    let few = c.if-inode.false in
    IfOk-weaker c.first_bytes.result _ _ (λ bytes is blocks tree file has.
    is blocks tree has.over
    ∙ first_block c.args.snap.now blocks tree file c.args.inode.now has c.in-Ok.number c.args.inode.now.size
    (omega (arith, few)) (c.in-Ok.ensures.ok blocks tree file has)) c.first_bytes.ensures.ok

pub returns-in-Err-clause-resumable : goal.returns-in-Err-clause-resumable
returns-in-Err-clause-resumable c = λ blocks tree file has kind. c.in-Err.ensures.resumable blocks tree file has

pub returns-in-Ok-clause-asks : goal.returns-in-Ok-clause-asks
returns-in-Ok-clause-asks c =
    IfErr-weaker c.first_bytes.result _ _
    (may_mapped_at c.args.snap.now c.args.inode.now 0 c.in-Ok.number c.in-Ok.ensures.read) c.first_bytes.ensures.asks
