use Rattle.std.proofs.Common.{◌≡◌, ◌+◌, take, drop}
use Rattle.circ.specs.Log.Installer.{passed_over}
use Rattle.wal.proofs.changes.changes.Changes.next_newest.Given as goal

abbrev pub invariant-loop-i : goal.invariant-loop-i
invariant-loop-i l =
    l.from + passed_over (drop l.from (take l.end l.self-inside.list.items))
    ≡ l.i + passed_over (drop l.i (take l.end l.self-inside.list.items))
