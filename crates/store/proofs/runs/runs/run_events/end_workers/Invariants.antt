-- those that have ended and those that are left are all, and the frame of the core stays
use Rattle.std.proofs.Common.{◌≡◌, ◌+◌, length}
use Rattle.store_images.specs.Counts.{SameFrame}
use Rattle.store.proofs.runs.runs.run_events.end_workers.Given as goal

abbrev pub invariant-each : goal.invariant-each
invariant-each l = (length l.rest.items + l.counter ≡ length l.fn.workers.items) × SameFrame l.fn.core l.core
