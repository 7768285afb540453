-- as many workers are there as were made, each at rest, and there is room for the others
use Rattle.std.proofs.Common.{◌≡◌, ◌≤◌, All, length}
use Rattle.std.specs.Prelude.{vec_capacity}
use Rattle.store.specs.Runs.Running.{IsAtRest}
use Rattle.store.proofs.runs.runs.run_events.new_workers.Given as goal

abbrev pub invariant-each : goal.invariant-each
invariant-each l = (length l.all.items ≡ l.counter) × (l.workers ≤ vec_capacity l.all)
    × All IsAtRest l.all.items
