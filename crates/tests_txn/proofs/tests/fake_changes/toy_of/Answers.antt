use Rattle.std.proofs.Common.{arith}
use Rattle.tests_txn.proofs.Few.{no_more_blocks}
use Rattle.tests_txn.proofs.tests.fake_changes.toy_of.Goals as goal

pub invariant_of-result : goal.invariant_of-result
invariant_of-result c = record {
  few = omega (
    arith,
    c.if-len-le-CHANGED_BLOCKS.true,
    c.len.ensures,
    c.args.written.ok,
    no_more_blocks c.args.written.items,
  );
}
