-- a part and a source is left for each seat that is still to be made, and one more part
use Rattle.std.proofs.Common.{◌≡◌, ◌+◌, ◌<◌, ◌≤◌, length}
use Rattle.std.specs.Vec.{vec_capacity}
use Rattle.pool.proofs.startup.seats.Given as goal

abbrev pub invariant-loop-made : goal.invariant-loop-made
invariant-loop-made g l = record {
  parts : l.workers < l.rest.parts + l._made;
  count : length l.seats.items ≡ l._made;
  sources : length l.sources.items + l._made ≡ l.workers;
  has_space : l.workers ≤ vec_capacity l.seats;
}
