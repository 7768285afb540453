-- the run goes on as it should, and has told a step for each event that was taken
use Rattle.std.proofs.Common.{◌≡◌, ◌++◌, length}
use Rattle.std.specs.Vec.Iter.{into_iter_items}
use Rattle.store.specs.Runs.Going.{GoesOnWell, store_and_workers}
use Rattle.store.specs.Runs.Running.{RunsWell}
use Rattle.store.proofs.runs.runs.run.Given as goal

abbrev pub invariant-events : goal.invariant-events
invariant-events g l = RunsWell l.running.workers.items l.running.store.core l.running.calls
    × (g.D.CrashDisk.keeps_model l.running.store.disk → g.D.CrashDisk.keeps_model l.fn.disk)
    × (l.fn.events.items ≡ l.yielded ++ into_iter_items l.event-iterator)
    × (length l.run.steps.items ≡ length l.yielded)
    × GoesOnWell (g.D.CrashDisk.keeps_model l.running.store.disk) (g.D.CrashDisk.device l.fn.disk)
    l.fn.workers l.fn.events.items
    (store_and_workers (g.D.CrashDisk.device l.running.store.disk) l.running.store.core l.running.calls
    l.running.workers.items l.running.clock) l.run
