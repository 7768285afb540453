use Rattle.std.proofs.Common.{◌≡◌}
use Rattle.circ.specs.Log.Recovery.{HasOnlyRead, IsCertain}
use Rattle.image_read.specs.Files.Content.{content_on}
use Rattle.image_contents.specs.Bodies.Bodies.{AreAsRead, FitsFound, IsFound}
use Rattle.image_contents.proofs.bodies.bodies.scan_all_files.Given as goal

abbrev pub invariant-numbers : goal.invariant-numbers
invariant-numbers g l = record {
  reads : HasOnlyRead (g.D.CrashDisk.device l.fn.disk) (g.D.CrashDisk.device l.disk);
  failures : (g.D.CrashDisk.device l.disk).failures ≡ (g.D.CrashDisk.device l.fn.disk).failures;
  model : g.D.CrashDisk.keeps_model l.disk → g.D.CrashDisk.keeps_model l.fn.disk;
  fits : FitsFound l.geometry l.found;
  found : g.D.CrashDisk.keeps_model l.disk → IsCertain (g.D.CrashDisk.device l.fn.disk)
      → AreAsRead l.geometry (content_on l.geometry l.overlay (g.D.CrashDisk.device l.fn.disk)) l.table
      → IsFound l.geometry (content_on l.geometry l.overlay (g.D.CrashDisk.device l.fn.disk)) l.table
      l.number l.found;
}
