-- no object so far is refused
use Rattle.std.proofs.Common.{ℕ, ◌<◌, slice_index_or}
use Rattle.disk.specs.Crash.{Image}
use Rattle.layout_records.specs.OnGrid.{IsInodeAt}
use Rattle.objects.specs.Object.{ObjectBytes}
use Rattle.txn_law.specs.Window.{IsAsRead}
use Rattle.inode.specs.Read.{Saw}
use Rattle.procs_inspection.specs.Refused.{IsRefusedFile}
use Rattle.procs_inspection.proofs.read_inodes.is_refused.Given as goal

abbrev pub invariant-loop-object : goal.invariant-loop-object
invariant-loop-object l = (blocks : Image) (k number : ℕ) (d : ObjectBytes) → Saw blocks l.snap → k < l.object-index
    → IsAsRead blocks (slice_index_or l.object-items k d)
    → IsInodeAt l.snap.geometry number (slice_index_or l.object-items k d).addr
    → IsRefusedFile l.snap blocks number → ⊥
