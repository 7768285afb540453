-- nothing is out, the boot number stays, the device has kept its model so far where it does, the bytes that
-- were read are messages that were answered, and what is left, and each read let the session go on
use Rattle.std.proofs.Common.{◌≡◌, ℕ, List}
use Rattle.std.specs.Io.KnownBytes.{Consumes}
use Rattle.store_images.specs.Opening.{store_of}
use Rattle.store_images.specs.Settling.{IsIdle}
use Rattle.session.specs.Streaming.{IsCourse, IsUnfinished}
use Rattle.session.specs.Writing.{output_state_of}
use Rattle.session.proofs.Traced.{HasRead}
use Rattle.session.proofs.stream.serve_all.Given as goal

abbrev pub invariant-reads : goal.invariant-reads
invariant-reads g l = IsIdle l.store.core × IsUnfinished l.records
    × (l.store.boot ≡ l.fn.store.boot)
    × (g.D.CrashDisk.keeps_model l.store.disk → g.D.CrashDisk.keeps_model l.fn.store.disk)
    × ((read : List ℕ) × Consumes (g.R.Read.remaining l.fn.reader.reader) (g.R.Read.remaining l.reader.reader) read
    × IsCourse (g.D.CrashDisk.keeps_model l.store.disk) l.fn.moment
    (store_of (g.D.CrashDisk.device l.fn.store.disk) l.fn.store.core l.fn.store.boot)
    (output_state_of g.W.Write.contents l.fn.writer) read l.records l.count
    (store_of (g.D.CrashDisk.device l.store.disk) l.store.core l.store.boot) (output_state_of g.W.Write.contents l.writer))
    × HasRead l.fn.reader.answers.items l.reader.answers.items l.counter
