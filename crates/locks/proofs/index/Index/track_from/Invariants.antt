-- the holds before this one are noted
use Rattle.std.proofs.Common.{◌≡◌, ◌≤◌, length, take, vec_capacity}
use Rattle.locks.specs.Index.{IsIndex, numbers}
use Rattle.locks.proofs.index.Index.track_from.Given as goal

abbrev pub invariant-loop-i : goal.invariant-loop-i
invariant-loop-i l = record {
  long : length l.self.last.items ≡ length l.fn.self.last.items;
  has_space : vec_capacity l.fn.self.before ≤ vec_capacity l.self.before;
  index : IsIndex (numbers (take l.i l.holds)) l.self.last.items l.self.before.items;
}
