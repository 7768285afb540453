use Rattle.std.proofs.Common.{◌≡◌, ℕ, ◌+◌, ◌*◌, ◌%◌, ◌<◌, length, slice_get, Some}
use Rattle.base.specs.declared.TheConstants.{LOG_SLOTS, BLOCK_BYTES}
use Rattle.circ.specs.declared.log.change.LogChange.{LogChange}
use Rattle.circ.specs.Log.EightBytes.{number_at}
use Rattle.wal.proofs.memory.header.put_header.Given as goal

abbrev pub invariant-loop-i : goal.invariant-loop-i
invariant-loop-i l = record {
  bytes : length l.content ≡ BLOCK_BYTES;
  end : number_at l.content 0 ≡ l.start + l.count;
  homes : (k : ℕ) → k < l.i → (change : LogChange) → slice_get l.changes.items k ≡ Some change
      → number_at l.content (8 + 8 * ((l.start + k) % LOG_SLOTS)) ≡ change.block.0;
}
