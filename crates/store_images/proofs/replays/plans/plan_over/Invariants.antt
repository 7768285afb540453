-- what was read and claimed so far was asked for, each once, and is as it lies at home
use Rattle.std.proofs.Common.{◌≡◌, ◌+◌, ◌-◌, ◌*◌, length}
use Rattle.layout.specs.Homes.{homes_of}
use Rattle.circ.specs.Log.Recovery.{HasOnlyRead, IsCertain, image_of}
use Rattle.inode.specs.Read.{Saw}
use Rattle.procs.specs.Asks.{WereAskedOnce, WereClaimedOnce}
use Rattle.procs.specs.MostAsked.{most_asked, most_claimed, times_asked}
use Rattle.store_images.proofs.replays.plans.plan_over.Given as goal

abbrev pub invariant-asks : goal.invariant-asks
invariant-asks g l = record {
  reads : HasOnlyRead (g.D.CrashDisk.device l.fn.disk) (g.D.CrashDisk.device l.disk);
  failures : (g.D.CrashDisk.device l.disk).failures ≡ (g.D.CrashDisk.device l.fn.disk).failures;
  model : g.D.CrashDisk.keeps_model l.disk → g.D.CrashDisk.keeps_model l.fn.disk;
  geometry : l.snap.geometry ≡ l.fn.geometry;
  read : WereAskedOnce l.fn.geometry l.snap.objects.items;
  claimed : WereClaimedOnce l.fn.geometry l.snap.claims.items;
  saw : g.D.CrashDisk.keeps_model l.disk → IsCertain (g.D.CrashDisk.device l.fn.disk)
      → Saw (homes_of l.fn.geometry.blocks (image_of (g.D.CrashDisk.device l.fn.disk))) l.snap;
}

-- each round leaves less to be asked for
abbrev pub decreases-asks : goal.decreases-asks
decreases-asks g l = 2 * most_asked l.fn.geometry.blocks + most_claimed l.fn.geometry.blocks
    - (times_asked l.snap.objects.items l.snap.exclusives.items + length l.snap.claims.items)
