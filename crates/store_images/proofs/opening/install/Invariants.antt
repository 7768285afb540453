-- the log is still that of the disk, no call is out, and no call has failed yet
use Rattle.std.proofs.Common.{◌≡◌, ◌<◌, ◌+◌, true, false, if◌then◌else◌}
use Rattle.disk.specs.Device.{Content, Device}
use Rattle.txn.specs.CoreLaw.{IsFresh}
use Rattle.circ.specs.Log.Recovery.{IsCertain}
use Rattle.store_promise.specs.Openings.{IsLater}
use Rattle.store_images.specs.BringingHome.{BringsHome, unused}
use Rattle.store_images.specs.Settling.{IsQuiet, calls_left}
use Rattle.store_images.proofs.opening.install.Given as goal

abbrev pub invariant-calls : goal.invariant-calls
invariant-calls g l = record {
  later : IsLater (g.D.CrashDisk.device l.fn.disk) (g.D.CrashDisk.device l.disk);
  blocks : l.core.log.blocks ≡ l.fn.core.log.blocks;
  bare : l.core ≡ unused l.core;
  inodes : l.core.inodes ≡ l.fn.core.inodes;
  boot : l.core.boot ≡ l.fn.core.boot;
  fresh : IsFresh l.core.log;
  quiet : IsQuiet l.core.log;
  model : g.D.CrashDisk.keeps_model l.disk → g.D.CrashDisk.keeps_model l.fn.disk;
  same : (g.D.CrashDisk.device l.disk).size ≡ l.core.log.blocks;
  sound : l.core.log.broken ≡ false → (g.D.CrashDisk.device l.disk).failures
      ≡ (g.D.CrashDisk.device l.fn.disk).failures;
  failed : l.core.log.broken ≡ true → (g.D.CrashDisk.device l.fn.disk).failures <
      (g.D.CrashDisk.device l.disk).failures;
  clean : l.core.log.broken ≡ false → IsCertain (g.D.CrashDisk.device l.fn.disk)
      → IsCertain (g.D.CrashDisk.device l.disk);
  home : (before : Device) (incremented : Content)
      → BringsHome before incremented (g.D.CrashDisk.device l.fn.disk) l.fn.core.log
      → BringsHome before incremented (g.D.CrashDisk.device l.disk) l.core.log;
}

abbrev pub decreases-calls : goal.decreases-calls
decreases-calls g l = if l.core.log.broken then 0 else calls_left l.core.log + 1
