use Rattle.std.proofs.Common.{◌≡◌, drop}
use Rattle.sim_stops.specs.CrashChoices.{product_from}
use Rattle.sim_stops.proofs.choices.product.Given as goal

abbrev pub invariant-counts : goal.invariant-counts
invariant-counts l = product_from 1 l.counts ≡ product_from l.all (drop l.count-index l.counts)
