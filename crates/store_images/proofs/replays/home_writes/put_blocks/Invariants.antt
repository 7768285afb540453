-- the first blocks are home
use Rattle.std.proofs.Common.{◌≡◌, take}
use Rattle.circ.specs.Log.Law.{with_changes}
use Rattle.circ.specs.Log.Log.{changes_of}
use Rattle.circ.specs.Log.Recovery.{image_of}
use Rattle.store_promise.specs.Openings.{IsLater}
use Rattle.store_images.specs.Replays.Putting.{HasPut}
use Rattle.store_images.proofs.replays.home_writes.put_blocks.Given as goal

abbrev pub invariant-loop-change : goal.invariant-loop-change
invariant-loop-change g l = record {
  later : IsLater (g.D.CrashDisk.device l.fn.disk) (g.D.CrashDisk.device l.disk);
  failures : (g.D.CrashDisk.device l.disk).failures ≡ (g.D.CrashDisk.device l.fn.disk).failures;
  model : g.D.CrashDisk.keeps_model l.disk → g.D.CrashDisk.keeps_model l.fn.disk;
  put : HasPut (g.D.CrashDisk.device l.fn.disk) (g.D.CrashDisk.device l.disk)
      (with_changes (image_of (g.D.CrashDisk.device l.fn.disk)) (changes_of 0 (take l.change-index l.logged)));
}
