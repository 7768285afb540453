-- those so far are whole
use Rattle.std.proofs.Common.{ℕ, ◌<◌, slice_index_or}
use Rattle.circ.specs.declared.log.change.LogChange.{LogChange}
use Rattle.circ.specs.Log.Grows.{IsWholeChange}
use Rattle.wal.proofs.memory.search.are_whole.Given as goal

abbrev pub invariant-loop-i : goal.invariant-loop-i
invariant-loop-i l = (k : ℕ) (d : LogChange) → k < l.i → IsWholeChange (slice_index_or l.changes.items k d)
