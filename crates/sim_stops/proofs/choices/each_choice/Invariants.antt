use Rattle.std.proofs.Common.{◌≡◌, ◌++◌, drop}
use Rattle.sim_stops.specs.CrashChoices.{each_choice}
use Rattle.sim_stops.proofs.choices.each_choice.Given as goal

abbrev pub invariant-counts : goal.invariant-counts
invariant-counts l = each_choice l.number l.counts ≡ l.choice.items ++ each_choice l.rest (drop l.count-index l.counts)
