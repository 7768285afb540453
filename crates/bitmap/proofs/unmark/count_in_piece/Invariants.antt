-- the numbers so far are of the piece
use Rattle.std.proofs.Common.{All, take}
use Rattle.bitmap.specs.Frees.{IsInPiece}
use Rattle.bitmap.proofs.unmark.count_in_piece.Given as goal

abbrev pub invariant-numbers : goal.invariant-numbers
invariant-numbers l = All (IsInPiece l.blocks l.piece) (take l.at l.numbers)
