use Rattle.std.proofs.Common.{◌≡◌, ◌*◌, length}
use Rattle.base.specs.declared.TheConstants.{INODES_PER_BLOCK}
use Rattle.circ.specs.Log.Recovery.{HasOnlyRead, IsCertain, image_of}
use Rattle.image_read.specs.LoggedImage.WithOverlay.{with_overlay}
use Rattle.image_read.specs.Parts.Table.{IsTable}
use Rattle.image_read.proofs.parts.table.read_table.Given as goal

abbrev pub invariant-indexes : goal.invariant-indexes
invariant-indexes g l = record {
  reads : HasOnlyRead (g.D.CrashDisk.device l.fn.disk) (g.D.CrashDisk.device l.disk);
  failures : (g.D.CrashDisk.device l.disk).failures ≡ (g.D.CrashDisk.device l.fn.disk).failures;
  model : g.D.CrashDisk.keeps_model l.disk → g.D.CrashDisk.keeps_model l.fn.disk;
  long : length l.table.items ≡ INODES_PER_BLOCK * l.index;
  table : g.D.CrashDisk.keeps_model l.disk → IsCertain (g.D.CrashDisk.device l.fn.disk)
      → IsTable l.geometry (with_overlay l.overlay (image_of (g.D.CrashDisk.device l.fn.disk)))
      (INODES_PER_BLOCK * l.index) l.table.items;
}
