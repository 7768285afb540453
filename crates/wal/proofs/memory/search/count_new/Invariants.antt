-- what is counted and what the rest adds are as many as all add
use Rattle.std.proofs.Common.{◌≡◌, ◌≤◌, ◌+◌, drop, length}
use Rattle.circ.specs.Log.Log.{changed_blocks, new_blocks}
use Rattle.wal.proofs.memory.search.count_new.Given as goal

abbrev pub invariant-loop-block : goal.invariant-loop-block
invariant-loop-block l =
    (l.count ≤ l.block-index)
    × (l.count + length (new_blocks (changed_blocks (drop l.from l.changes.changes)) (drop l.block-index l.blocks))
    ≡ length (new_blocks (changed_blocks (drop l.from l.changes.changes)) l.blocks))
