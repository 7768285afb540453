use Rattle.std.proofs.Common.{◌≡◌, ◌++◌, take, drop, length, All}
use Rattle.std.specs.VecDeque.{deque_capacity}
use Rattle.std.specs.Vec.Iter.{into_iter_items}
use Rattle.circ.specs.Log.Log.{IsHomeOn, blocks_of}
use Rattle.circ.specs.Log.Room.{tail_with}
use Rattle.wal.specs.Changes.Index.{IsIndex, numbers}
use Rattle.wal.proofs.changes.absorption.absorb.Given as goal

abbrev pub invariant-loop-block : goal.invariant-loop-block
invariant-loop-block l = record {
  group : l.fn.group.items ≡ l.yielded ++ into_iter_items l.block-iterator;
  list : l.list.items ≡ take l.preceding l.fn.list.items
      ++ tail_with (drop l.preceding l.fn.list.items) l.place l.yielded;
  has_space : deque_capacity l.list ≡ deque_capacity l.fn.list;
  names : deque_capacity l.index.behind ≡ deque_capacity l.fn.index.behind;
  start : l.index.start ≡ l.fn.index.start;
  table : length l.index.newest.items ≡ length l.fn.index.newest.items;
  homes : All (IsHomeOn (length l.index.newest.items)) (blocks_of (into_iter_items l.block-iterator));
  index : IsIndex l.index.start (numbers l.list.items) l.index.newest.items l.index.behind.items;
}
