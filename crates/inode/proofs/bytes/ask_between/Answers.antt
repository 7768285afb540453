use Rattle.std.proofs.Common.{rules, arith}
use Rattle.inode.proofs.Needed.{between}
use Rattle.inode.proofs.Stops.{at_err}
use Rattle.inode.proofs.bytes.ask_between.Goals as goal

pub returns-in_err-ask_block-clause-asks : goal.returns-in_err-ask_block-clause-asks
returns-in_err-ask_block-clause-asks c =
    let from = c.indexes.invariant in
    let below = c.indexes-test.true in
    at_err c.from_residual.result c.in_err-ask_block.field-0.0 _ (search rules)
    (between c.args.snap.now c.args.inode.now c.indexes.index c.args.start c.args.end (omega (arith, from))
    (omega (arith, below)) c.in_err-ask_block.field-0.0 c.in_err-ask_block.ensures.asks)
