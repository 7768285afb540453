use Rattle.std.proofs.Common.{◌≡◌, ℕ, ◌<◌, ◌≤◌, [], get_or, if◌then◌else◌}
use Rattle.disk.specs.Device.{is_on, newest_only}
use Rattle.disk.proofs.mem_disk.settle.Given as goal

abbrev pub invariant-loop-index : goal.invariant-loop-index
invariant-loop-index l = record {
  before : (block : ℕ) → block < l.index
      → get_or l.blocks block [] ≡ (if is_on l.side block then newest_only (get_or l.initial.blocks block [])
      else get_or l.initial.blocks block []);
  after : (block : ℕ) → l.index ≤ block → get_or l.blocks block [] ≡ get_or l.initial.blocks block [];
}
