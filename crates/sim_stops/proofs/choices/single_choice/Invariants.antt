use Rattle.std.proofs.Common.{◌≡◌, ◌++◌, drop}
use Rattle.sim_stops.specs.CrashChoices.{single_choice}
use Rattle.sim_stops.proofs.choices.single_choice.Given as goal

abbrev pub invariant-loop-at : goal.invariant-loop-at
invariant-loop-at l = single_choice l.number 0 l.counts ≡ l.choice.items ++ single_choice l.number l.at (drop l.at l.counts)
