-- each bit of the pieces so far is set
use Rattle.std.proofs.Common.{◌≡◌, ℕ, ◌*◌, ◌<◌, ◌≤◌, true}
use Rattle.disk.specs.Crash.{Image}
use Rattle.layout.specs.declared.grid.TheConstants.{PIECE_BITS}
use Rattle.layout.specs.Parts.{bit_at}
use Rattle.inode.specs.Read.{Saw}
use Rattle.bitmap.proofs.free_search.clear_between.Given as goal

abbrev pub invariant-pieces : goal.invariant-pieces
invariant-pieces l = (l.from ≤ l.piece)
    × ((blocks : Image) → Saw blocks l.snap → (bit : ℕ) → PIECE_BITS * l.from ≤ bit → bit < PIECE_BITS * l.piece
    → bit_at blocks l.first bit ≡ true)
