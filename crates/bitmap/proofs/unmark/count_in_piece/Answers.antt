use Rattle.std.proofs.lemmas.List.Elements.{All-more}
use Rattle.bitmap.specs.Frees.{IsInPiece}
use Rattle.bitmap.proofs.unmark.count_in_piece.Goals as goal

pub numbers-preserved : goal.numbers-preserved
numbers-preserved c =
    All-more (IsInPiece c.args.blocks c.args.piece) c.args.numbers.now c.numbers.at 0 c.numbers-test.true
    c.numbers.invariant (c.if-number-blocks.false, c.if-number-piece.false)
