use Rattle.std.proofs.Common.{◌≡◌, drop}
use Rattle.wal.proofs.changes.changes.drop_changes.Given as goal

abbrev pub invariant-loop : goal.invariant-loop
invariant-loop l = l.list.items ≡ drop l.counter l.fn.list.items
