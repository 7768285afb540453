use Rattle.std.proofs.Common.{◌≡◌, ◌≤◌, ◌*◌, sum_by}
use Rattle.std.specs.List.{range_with_len}
use Rattle.disk.specs.Crash.{Image}
use Rattle.layout.specs.declared.grid.TheConstants.{PIECE_BITS}
use Rattle.inode.specs.Read.{Saw}
use Rattle.layout_records.specs.Bits.{clear_in}
use Rattle.layout_records.specs.Bits.{piece_in}
use Rattle.bitmap.proofs.pieces.clear_of.Given as goal

abbrev pub invariant-loop-piece : goal.invariant-loop-piece
invariant-loop-piece l = (l.clear ≤ PIECE_BITS * l.piece)
    × ((blocks : Image) → Saw blocks l.snap
    → l.clear ≡ sum_by (λ piece. clear_in (piece_in blocks l.first piece)) (range_with_len 0 l.piece))
