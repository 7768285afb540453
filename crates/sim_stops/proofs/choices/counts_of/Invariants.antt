use Rattle.std.proofs.Common.{◌≡◌, take}
use Rattle.disk.specs.Memory.{blocks_of}
use Rattle.sim_stops.specs.CrashChoices.{counts_in}
use Rattle.sim_stops.proofs.choices.counts_of.Given as goal

abbrev pub invariant-loop-block : goal.invariant-loop-block
invariant-loop-block l = l.counts.items ≡ counts_in (take l.block (blocks_of l.disk))
