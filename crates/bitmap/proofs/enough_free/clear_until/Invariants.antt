-- the pieces so far are counted
use Rattle.std.proofs.Common.{◌≡◌, ◌-◌, ◌≤◌, ◌*◌, sum_by}
use Rattle.std.specs.List.{range_with_len}
use Rattle.disk.specs.Crash.{Image}
use Rattle.layout.specs.declared.grid.TheConstants.{PIECE_BITS}
use Rattle.inode.specs.Read.{Saw}
use Rattle.layout_records.specs.Bits.{clear_in, piece_in}
use Rattle.bitmap.proofs.enough_free.clear_until.Given as goal

abbrev pub invariant-pieces : goal.invariant-pieces
invariant-pieces l = (l.clear ≤ PIECE_BITS * (l.piece - l.from)) × (l.from ≤ l.piece)
    × ((blocks : Image) → Saw blocks l.snap
    → l.clear ≡ sum_by (λ piece. clear_in (piece_in blocks l.first piece)) (range_with_len l.from (l.piece - l.from)))
