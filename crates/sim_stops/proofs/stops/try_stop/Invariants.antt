use Rattle.std.proofs.Common.{◌<◌, ℕ}
use Rattle.disk.specs.Memory.{blocks_of}
use Rattle.sim_stops.specs.CrashChoices.{choice_of, counts_in}
use Rattle.sim_stops.specs.Tried.{IsTriedImage}
use Rattle.sim_stops.specs.declared.stops.TheConstants.{MOST_AT_A_STOP}
use Rattle.sim_stops.proofs.stops.try_stop.Given as goal

abbrev pub invariant-numbers : goal.invariant-numbers
invariant-numbers g l = (n : ℕ) → n < l.number
    → IsTriedImage l.asked l.files l.run (choice_of MOST_AT_A_STOP (counts_in (blocks_of l.disk)) n)
