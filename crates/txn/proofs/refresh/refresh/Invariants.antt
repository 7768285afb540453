-- the blocks so far are those that stand in memory
use Rattle.std.proofs.Common.{◌≡◌, ◌++◌}
use Rattle.std.specs.Vec.Iter.{into_iter_items}
use Rattle.txn.specs.Refreshed.{renewed_each}
use Rattle.txn.proofs.refresh.refresh.Given as goal

abbrev pub invariant-loop-block : goal.invariant-loop-block
invariant-loop-block l = record {
  group : l.fn.blocks.items ≡ l.yielded ++ into_iter_items l.block-iterator;
  renewed : l.present ≡ record l.fn.present { blocks = renewed_each l.fn.present.blocks l.yielded };
}
