-- no transaction begins or ends, the image's counts and the pending fetches stay, no device call is out, the
-- device has kept its model so far where it does, the store has stayed open, and
-- each call was one of those that were left
use Rattle.std.proofs.Common.{◌≡◌}
use Rattle.store_images.specs.Counts.{SameFrame}
use Rattle.store_images.specs.Fetches.{PreservesFetches}
use Rattle.store_images.specs.Further.{LeavesOpen}
use Rattle.store_images.specs.Settling.{SameNumbers, SpendsCalls, SpendsSettling, most_calls}
use Rattle.store_images.specs.SettlingStops.{StayOpen}
use Rattle.store_images.proofs.opened.settle.Given as goal

abbrev pub invariant-calls : goal.invariant-calls
invariant-calls g l = (l.store.core.out ≡ l.fn.store.core.out)
    × SameFrame l.fn.store.core l.store.core
    × SameNumbers l.fn.store.core l.store.core
    × PreservesFetches l.fn.store.core l.store.core
    × (g.D.CrashDisk.keeps_model l.store.disk → g.D.CrashDisk.keeps_model l.fn.store.disk)
    × (l.store.boot ≡ l.fn.store.boot)
    × LeavesOpen (g.D.CrashDisk.device l.fn.store.disk) l.fn.store.core
    (g.D.CrashDisk.device l.store.disk) l.store.core
    × StayOpen (g.D.CrashDisk.device l.fn.store.disk) l.fn.store.core
    (g.D.CrashDisk.device l.store.disk) l.store.core
    × SpendsCalls (g.D.CrashDisk.device l.fn.store.disk) l.fn.store.core.log (g.D.CrashDisk.device l.store.disk)
    l.store.core.log
    × SpendsSettling (g.D.CrashDisk.device l.fn.store.disk) l.fn.store.core.log
    (g.D.CrashDisk.device l.store.disk) l.store.core.log

abbrev pub decreases-calls : goal.decreases-calls
decreases-calls g l = most_calls l.store.core.log
