-- the holds before this one are noted, and no others
use Rattle.std.proofs.Common.{◌≡◌, ◌≤◌, length, take, vec_capacity}
use Rattle.locks.specs.Index.{IsIndex, numbers}
use Rattle.locks.proofs.index.Index.cut.Given as goal

abbrev pub invariant-loop-count : goal.invariant-loop-count
invariant-loop-count l = record {
  from : l.from ≤ l.count;
  within : l.count ≤ length l.holds;
  long : length l.self.last.items ≡ length l.fn.self.last.items;
  has_space : vec_capacity l.fn.self.before ≤ vec_capacity l.self.before;
  index : IsIndex (numbers (take l.count l.holds)) l.self.last.items l.self.before.items;
}

abbrev pub decreases-loop-count : goal.decreases-loop-count
decreases-loop-count l = l.count
