-- the first objects are home
use Rattle.std.proofs.Common.{◌≡◌, take}
use Rattle.txn_law.specs.Window.{with_objects}
use Rattle.circ.specs.Log.Recovery.{IsCertain, image_of}
use Rattle.store_promise.specs.Openings.{IsLater}
use Rattle.store_images.specs.Replays.Putting.{HasPut}
use Rattle.store_images.proofs.replays.home_writes.put_objects.Given as goal

abbrev pub invariant-loop-object : goal.invariant-loop-object
invariant-loop-object g l = record {
  later : IsLater (g.D.CrashDisk.device l.fn.disk) (g.D.CrashDisk.device l.disk);
  failures : (g.D.CrashDisk.device l.disk).failures ≡ (g.D.CrashDisk.device l.fn.disk).failures;
  model : g.D.CrashDisk.keeps_model l.disk → g.D.CrashDisk.keeps_model l.fn.disk;
  put : g.D.CrashDisk.keeps_model l.disk → IsCertain (g.D.CrashDisk.device l.fn.disk)
      → HasPut (g.D.CrashDisk.device l.fn.disk) (g.D.CrashDisk.device l.disk)
      (with_objects (image_of (g.D.CrashDisk.device l.fn.disk)) (take l.object-index l.objects));
}
