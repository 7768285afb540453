-- how many of the inner blocks so far name one of the indexes
use Rattle.std.proofs.Common.{◌≡◌, ◌≤◌}
use Rattle.std.specs.FinSet as set
use Rattle.nfs_spec.specs.Model.Cost.{inner_cost}
use Rattle.plain_tree.proofs.tree.mapped.inner_cost.Given as goal

abbrev pub invariant-each : goal.invariant-each
invariant-each l = (l.cost ≡ inner_cost l.inner (set.from_list l.indexes)) × (l.cost ≤ l.inner)
