-- the worker fits the core and has the store alone, its call is under way, no device call is out, and the
-- device has kept its model so far where it does; each round leaves less of the call
use Rattle.std.proofs.Common.{◌≡◌}
use Rattle.store_workers.specs.Single.{IsSingle}
use Rattle.store.specs.Calling.{IsCalling, Outset}
use Rattle.store.specs.Driving.{IsUnderWay, steps_left}
use Rattle.store_images.specs.Opening.{store_of}
use Rattle.store_images.specs.Settling.{IsQuiet}
use Rattle.store_workers.specs.Worker.{Fits}
use Rattle.store.proofs.one_call.answer.Given as goal

abbrev pub invariant-steps : goal.invariant-steps
invariant-steps g l = Fits l.worker l.store.core × IsQuiet l.store.core.log
    × IsSingle l.worker.state l.store.core
    × IsUnderWay l.worker.state l.store.core
    × (g.D.CrashDisk.keeps_model l.store.disk → g.D.CrashDisk.keeps_model l.fn.store.disk)
    × (l.store.boot ≡ l.fn.store.boot)
    × ((o : Outset) → g.D.CrashDisk.keeps_model l.store.disk
    → IsCalling o (store_of (g.D.CrashDisk.device l.fn.store.disk) l.fn.store.core l.fn.store.boot)
    l.fn.worker.state
    → IsCalling o (store_of (g.D.CrashDisk.device l.store.disk) l.store.core l.store.boot) l.worker.state)

abbrev pub decreases-steps : goal.decreases-steps
decreases-steps g l = steps_left l.worker.state l.store.core
