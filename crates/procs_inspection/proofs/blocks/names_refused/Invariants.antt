-- none of the pointer blocks that are named so far is refused
use Rattle.std.proofs.Common.{ℕ, ◌<◌, get_or}
use Rattle.base.specs.declared.TheConstants.{INDIRECT_INDEXES}
use Rattle.disk.specs.Crash.{Image}
use Rattle.layout.specs.Fields.{numbers_at}
use Rattle.inode.specs.Read.{Saw}
use Rattle.procs_inspection.specs.Refused.{IsRefusedPointer}
use Rattle.procs_inspection.proofs.blocks.names_refused.Given as goal

abbrev pub invariant-inners : goal.invariant-inners
invariant-inners l = (blocks : Image) (k : ℕ) → Saw blocks l.snap → k < l.inner
    → IsRefusedPointer l.snap blocks (get_or (numbers_at INDIRECT_INDEXES 0 l.block) k 0) → ⊥
