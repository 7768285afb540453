use Rattle.layout_records.proofs.OneBit.{cleared_as, set_as}
use Rattle.layout_records.proofs.bits.put_bit.Goals as goal

pub returns-then-is : goal.returns-then-is
returns-then-is c = set_as c.args.bytes.now c.args.bit c.args.is c.requires c.if-is.true

pub returns-else-is : goal.returns-else-is
returns-else-is c = cleared_as c.args.bytes.now c.args.bit c.args.is c.requires c.if-is.false
