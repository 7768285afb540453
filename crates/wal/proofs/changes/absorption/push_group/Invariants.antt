use Rattle.std.proofs.Common.{◌≡◌, ◌≤◌, ◌<◌, ◌+◌, ◌^◌, ◌++◌, length, All}
use Rattle.std.specs.VecDeque.{deque_capacity}
use Rattle.std.specs.Vec.Iter.{into_iter_items}
use Rattle.circ.specs.Log.Log.{IsHomeOn, blocks_of, changes_of}
use Rattle.wal.specs.Changes.Index.{IsIndex, numbers}
use Rattle.wal.proofs.changes.absorption.push_group.Given as goal

abbrev pub invariant-loop-block : goal.invariant-loop-block
invariant-loop-block l = record {
  group : l.fn.group.items ≡ l.yielded ++ into_iter_items l.block-iterator;
  list : l.list.items ≡ l.fn.list.items ++ changes_of 0 l.yielded;
  has_space : length l.list.items + length (into_iter_items l.block-iterator) ≤ deque_capacity l.list;
  names : length l.index.behind.items + length (into_iter_items l.block-iterator) ≤ deque_capacity l.index.behind;
  positions : l.index.start + (length l.list.items + length (into_iter_items l.block-iterator)) < 2 ^ 64;
  start : l.index.start ≡ l.fn.index.start;
  table : length l.index.newest.items ≡ length l.fn.index.newest.items;
  homes : All (IsHomeOn (length l.index.newest.items)) (blocks_of (into_iter_items l.block-iterator));
  index : IsIndex l.index.start (numbers l.list.items) l.index.newest.items l.index.behind.items;
}
