use Rattle.std.proofs.Common.{◌≡◌, ◌≤◌, ℕ, ◌+◌, ◌-◌, length, slice_index, vec_len}
use Rattle.objects.proofs.blocks.reach.Given as goal

abbrev pub invariant-loop-indices : goal.invariant-loop-indices
invariant-loop-indices l = record {
  same : (number : ℕ) → slice_index l.indices.items number ≡ slice_index l.fn.indices.items number;
  more : length l.fn.indices.items ≤ length l.indices.items;
}

abbrev pub decreases-loop-indices : goal.decreases-loop-indices
decreases-loop-indices l = l.at + 1 - vec_len l.indices
