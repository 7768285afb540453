-- nothing is out, the boot number stays, the device has kept its model so far where it does, each reply took
-- bytes of the stream, and its course goes on
use Rattle.std.proofs.Common.{◌≡◌, ℕ, List, Option, length}
use Rattle.store_images.specs.Opening.{Opened, store_of}
use Rattle.store_images.specs.Settling.{IsIdle}
use Rattle.session.specs.Streaming.{IsCourse}
use Rattle.session.specs.Writing.{OutputState, output_state_of}
use Rattle.session.proofs.stream.serve_records.Given as goal

abbrev pub invariant-records : goal.invariant-records
invariant-records g l = IsIdle l.store.core
    × (l.store.boot ≡ l.fn.store.boot)
    × (g.D.CrashDisk.keeps_model l.store.disk → g.D.CrashDisk.keeps_model l.fn.store.disk)
    × ((first : Opened) (unwritten : OutputState) (read : List ℕ)
    → IsCourse (g.D.CrashDisk.keeps_model l.fn.store.disk) l.fn.moment first unwritten read
    l.fn.records l.fn.count
    (store_of (g.D.CrashDisk.device l.fn.store.disk) l.fn.store.core l.fn.store.boot)
    (output_state_of g.W.Write.contents l.fn.writer)
    → IsCourse (g.D.CrashDisk.keeps_model l.store.disk) l.fn.moment first unwritten read l.records l.replies
    (store_of (g.D.CrashDisk.device l.store.disk) l.store.core l.store.boot) (output_state_of g.W.Write.contents l.writer))

abbrev pub decreases-records : goal.decreases-records
decreases-records g l = length l.records
