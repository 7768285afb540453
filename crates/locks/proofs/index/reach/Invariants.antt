use Rattle.std.proofs.Common.{◌≡◌, ◌≤◌, ℕ, ◌+◌, ◌-◌, length, slice_index, vec_len}
use Rattle.locks.proofs.index.reach.Given as goal

abbrev pub invariant-loop-names : goal.invariant-loop-names
invariant-loop-names l = record {
  same : (number : ℕ) → slice_index l.names.items number ≡ slice_index l.fn.names.items number;
  more : length l.fn.names.items ≤ length l.names.items;
}

abbrev pub decreases-loop-names : goal.decreases-loop-names
decreases-loop-names l = l.at + 1 - vec_len l.names
