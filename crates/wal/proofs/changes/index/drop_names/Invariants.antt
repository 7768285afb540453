use Rattle.std.proofs.Common.{◌≡◌, drop}
use Rattle.wal.proofs.changes.index.drop_names.Given as goal

abbrev pub invariant-loop : goal.invariant-loop
invariant-loop l = l.behind.items ≡ drop l.counter l.fn.behind.items
