-- the bits of the numbers so far are cleared
use Rattle.std.proofs.Common.{◌≡◌, length, take}
use Rattle.layout.specs.declared.grid.TheConstants.{PIECE_BYTES}
use Rattle.bitmap.specs.Frees.{AreCleared}
use Rattle.bitmap.proofs.unmark.unmark_bits.Given as goal

abbrev pub invariant-loop-number : goal.invariant-loop-number
invariant-loop-number l =
    (length l.bytes ≡ PIECE_BYTES) × AreCleared (take l.number-index l.numbers) l.fn.bytes l.bytes
