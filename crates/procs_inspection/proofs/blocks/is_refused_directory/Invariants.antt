-- no block so far has a refused slot
use Rattle.std.proofs.Common.{ℕ, ◌<◌, ◌≤◌}
use Rattle.disk.specs.Crash.{Image}
use Rattle.inode.specs.Read.{Saw}
use Rattle.procs_inspection.specs.Refused.{IsRefusedAt}
use Rattle.procs_inspection.proofs.blocks.is_refused_directory.Given as goal

abbrev pub invariant-indexes : goal.invariant-indexes
invariant-indexes l = (blocks : Image) (k : ℕ) → Saw blocks l.snap → l.from ≤ k → k < l.index
    → IsRefusedAt l.snap blocks l.inode k → ⊥
