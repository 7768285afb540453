-- what is counted and what the rest adds are as many as all add
use Rattle.std.proofs.Common.{◌≡◌, ◌≤◌, ◌+◌, drop, length}
use Rattle.circ.specs.Log.Log.{blocks_of, changed_blocks, new_blocks}
use Rattle.wal.proofs.memory.append.count_new.Given as goal

abbrev pub invariant-loop-change : goal.invariant-loop-change
invariant-loop-change l =
    (l.count ≤ l.change-index)
    × (l.count + length (new_blocks (changed_blocks (drop l.preceding l.changes.changes))
    (blocks_of (drop l.change-index l.group)))
    ≡ length (new_blocks (changed_blocks (drop l.preceding l.changes.changes)) (blocks_of l.group)))
