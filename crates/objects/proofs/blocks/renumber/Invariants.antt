-- as many indices as there were, and each resident before this one is noted
use Rattle.std.proofs.Common.{◌≡◌, ◌<◌, ℕ, length, slice_index}
use Rattle.objects.specs.Indexed.{numbers}
use Rattle.objects.proofs.blocks.renumber.Given as goal

abbrev pub invariant-loop-i : goal.invariant-loop-i
invariant-loop-i l = record {
  long : length l.indices ≡ length l.fn.indices;
  tracked : (k : ℕ) → k < l.i → slice_index l.indices (slice_index (numbers l.list) k) ≡ k;
}
