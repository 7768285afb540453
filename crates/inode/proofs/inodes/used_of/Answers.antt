use Rattle.std.proofs.Common.{◌+◌, rules}
use Rattle.inode.specs.Asked.{IsBlockAddr, IsOfDouble, IsPointerOf}
use Rattle.inode.specs.Asked.IsPointerOf.{of_double, of_indirect}
use Rattle.inode.proofs.HeldThere.{indirect_part_placed, is_shown}
use Rattle.inode.proofs.Placed.{double_placed, indirect_placed, inner_placed}
use Rattle.inode.proofs.Stops.{at_err, suspend_more}
use Rattle.inode.proofs.inodes.used_of.Goals as goal

pub returns-clause-ok : goal.returns-clause-ok
returns-clause-ok c = λ blocks tree file has.
    is_shown c.args.snap.now blocks tree file c.args.inode.now has
    (c.directly_used.result + c.in_ok-indirect_part.indirect_part + c.in_ok-further.further)
    (λ i. c.directly_used.ensures.count i + c.in_ok-indirect_part.ensures.ok blocks tree has.over i
    + c.in_ok-further.ensures.ok blocks tree has.over i)

pub returns-in_err-indirect_part-clause-resumable : goal.returns-in_err-indirect_part-clause-resumable
returns-in_err-indirect_part-clause-resumable c =
    at_err c.from_residual.result c.in_err-indirect_part.field-0.0 _ (search rules) (λ blocks tree file has.
    c.in_err-indirect_part.ensures.resumable blocks tree has.over
    (indirect_placed c.args.snap.now blocks tree file c.args.inode.now has)
    (indirect_part_placed c.args.snap.now blocks tree file c.args.inode.now has))

pub returns-in_err-further-clause-resumable : goal.returns-in_err-further-clause-resumable
returns-in_err-further-clause-resumable c =
    at_err c.from_residual-in_err-further.result c.in_err-further.field-0.0 _ (search rules) (λ blocks tree file has.
    c.in_err-further.ensures.resumable blocks tree has.over
    (double_placed c.args.snap.now blocks tree file c.args.inode.now has)
    (inner_placed c.args.snap.now blocks tree file c.args.inode.now has))

pub returns-in_err-indirect_part-clause-asks : goal.returns-in_err-indirect_part-clause-asks
returns-in_err-indirect_part-clause-asks c =
    at_err c.from_residual.result c.in_err-indirect_part.field-0.0 _ (search rules)
    (suspend_more (IsBlockAddr c.args.inode.now.indirect)
    (IsPointerOf c.args.snap.now.objects.items c.args.inode.now) (λ addr at. of_indirect at) c.in_err-indirect_part.field-0.0
    c.in_err-indirect_part.ensures.asks)

pub returns-in_err-further-clause-asks : goal.returns-in_err-further-clause-asks
returns-in_err-further-clause-asks c =
    at_err c.from_residual-in_err-further.result c.in_err-further.field-0.0 _ (search rules)
    (suspend_more (IsOfDouble c.args.snap.now.objects.items c.args.inode.now.double)
    (IsPointerOf c.args.snap.now.objects.items c.args.inode.now) (λ addr of. of_double of) c.in_err-further.field-0.0
    c.in_err-further.ensures.asks)
