use Rattle.std.proofs.Common.{rules}
use Rattle.inode.proofs.Needed.{indirect_at, mapped_at}
use Rattle.inode.proofs.Stops.{at_err}
use Rattle.inode.proofs.bytes.ask_block.Goals as goal

pub returns-in_err-number-clause-asks : goal.returns-in_err-number-clause-asks
returns-in_err-number-clause-asks c =
    at_err c.from_residual.result c.in_err-number.field-0.0 _ (search rules)
    (indirect_at c.args.snap.now c.args.inode.now c.args.index c.in_err-number.field-0.0 c.in_err-number.ensures.asks)

pub returns-in_err-data_block-clause-asks : goal.returns-in_err-data_block-clause-asks
returns-in_err-data_block-clause-asks c =
    at_err c.from_residual-in_err-data_block.result c.in_err-data_block.field-0.0 _ (search rules)
    (mapped_at c.args.snap.now c.args.inode.now c.args.index c.in_ok-number.number c.in_ok-number.ensures.read
    c.in_err-data_block.field-0.0 c.in_err-data_block.ensures.asks)
