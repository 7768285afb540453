-- the blocks so far are written, and the first is left
use Rattle.std.proofs.Common.{◌≡◌}
use Rattle.store_images.specs.Formatting.{HasWrittenUpTo, LeavesSuper}
use Rattle.store_images.proofs.formatter.write_up_to.Given as goal

abbrev pub invariant-numbers : goal.invariant-numbers
invariant-numbers g l = record {
  upto : HasWrittenUpTo (g.D.CrashDisk.device l.fn.disk) l.image.geometry l.image.made l.number
      (g.D.CrashDisk.device l.disk);
  failures : (g.D.CrashDisk.device l.disk).failures ≡ (g.D.CrashDisk.device l.fn.disk).failures;
  first : LeavesSuper (g.D.CrashDisk.device l.fn.disk) (g.D.CrashDisk.device l.disk);
  model : g.D.CrashDisk.keeps_model l.disk → g.D.CrashDisk.keeps_model l.fn.disk;
}
