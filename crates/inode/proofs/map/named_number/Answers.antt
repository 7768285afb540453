use Rattle.std.proofs.Common.{refl, rules, ◌∙◌}
use Rattle.std.proofs.lemmas.Result.{IfErr-weaker, IfOk-weaker}
use Rattle.inode.specs.Asked.{IsBlockAddr, IsPointerFor}
use Rattle.inode.specs.Asked.IsNumberAt.{direct as direct_number, indirect_part as named_indirect}
use Rattle.inode.specs.Asked.IsPointerFor.{indirect}
use Rattle.inode.proofs.Pieces.{direct}
use Rattle.inode.proofs.Placed.{direct_at, indirect_there, indirect_placed}
use Rattle.inode.proofs.Stops.{suspend_more}
use Rattle.inode.proofs.map.named_number.Goals as goal

pub returns-then-index-lt-DIRECT_INDEXES-clause-ok : goal.returns-then-index-lt-DIRECT_INDEXES-clause-ok
returns-then-index-lt-DIRECT_INDEXES-clause-ok c = λ blocks tree file has.
    direct_at c.args.snap.now.geometry blocks c.args.inode.now c.args.index
    (direct c.args.snap.now blocks tree file c.args.inode.now has) (search rules)

pub returns-then-index-lt-FIRST_DOUBLE_INDEX-clause-ok : goal.returns-then-index-lt-FIRST_DOUBLE_INDEX-clause-ok
returns-then-index-lt-FIRST_DOUBLE_INDEX-clause-ok c =
    IfOk-weaker c.pointer_number.result _ _ (λ number is blocks tree file has.
    is blocks tree has.over
    ∙ indirect_there c.args.snap.now.geometry blocks c.args.inode.now c.args.index
    (direct c.args.snap.now blocks tree file c.args.inode.now has) (search rules) (search rules))
    c.pointer_number.ensures.ok

pub returns-then-index-lt-DIRECT_INDEXES-clause-read : goal.returns-then-index-lt-DIRECT_INDEXES-clause-read
returns-then-index-lt-DIRECT_INDEXES-clause-read c = direct_number (search rules) refl

pub returns-then-index-lt-FIRST_DOUBLE_INDEX-clause-read : goal.returns-then-index-lt-FIRST_DOUBLE_INDEX-clause-read
returns-then-index-lt-FIRST_DOUBLE_INDEX-clause-read c =
    IfOk-weaker c.pointer_number.result _ _ (λ number indirect_part. named_indirect (search rules) (search rules) indirect_part)
    c.pointer_number.ensures.read

pub returns-then-index-lt-FIRST_DOUBLE_INDEX-clause-asks : goal.returns-then-index-lt-FIRST_DOUBLE_INDEX-clause-asks
returns-then-index-lt-FIRST_DOUBLE_INDEX-clause-asks c =
    IfErr-weaker c.pointer_number.result _ _
    (suspend_more (IsBlockAddr c.args.inode.now.indirect)
    (IsPointerFor c.args.snap.now.objects.items c.args.inode.now c.args.index)
    (λ addr at. indirect (search rules) (search rules) at)) c.pointer_number.ensures.asks

pub returns-then-index-lt-FIRST_DOUBLE_INDEX-clause-resumable : goal.returns-then-index-lt-FIRST_DOUBLE_INDEX-clause-resumable
returns-then-index-lt-FIRST_DOUBLE_INDEX-clause-resumable c =
    IfErr-weaker c.pointer_number.result _ _ (λ suspend resumable blocks tree file has.
    resumable (indirect_placed c.args.snap.now blocks tree file c.args.inode.now has)) c.pointer_number.ensures.resumable
