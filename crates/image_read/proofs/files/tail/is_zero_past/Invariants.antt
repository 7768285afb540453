use Rattle.std.proofs.Common.{◌≡◌, true, drop, take}
use Rattle.layout.specs.Decode.{bytes_of}
use Rattle.layout.specs.Fields.{is_zeros}
use Rattle.circ.specs.Log.Recovery.{HasOnlyRead, IsCertain}
use Rattle.image_read.specs.Files.Content.{AreLong, content_on}
use Rattle.image_read.proofs.files.tail.is_zero_past.Given as goal

abbrev pub invariant-places : goal.invariant-places
invariant-places g l = record {
  reads : HasOnlyRead (g.D.CrashDisk.device l.fn.disk) (g.D.CrashDisk.device l.disk);
  failures : (g.D.CrashDisk.device l.disk).failures ≡ (g.D.CrashDisk.device l.fn.disk).failures;
  model : g.D.CrashDisk.keeps_model l.disk → g.D.CrashDisk.keeps_model l.fn.disk;
  zeros : g.D.CrashDisk.keeps_model l.disk → IsCertain (g.D.CrashDisk.device l.fn.disk)
      → AreLong (content_on l.geometry l.overlay (g.D.CrashDisk.device l.fn.disk))
      → is_zeros (drop l.size (bytes_of (content_on l.geometry l.overlay (g.D.CrashDisk.device l.fn.disk))
      (take l.index_within l.numbers))) ≡ true;
}
