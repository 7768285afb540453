use Rattle.std.proofs.Common.{sym, subst}
use Rattle.bitmap.specs.Pieces.{IsAskedObject}
use Rattle.bitmap.proofs.Asked.{is_object}
use Rattle.bitmap.proofs.free_search.clear_in_piece.Goals as goal

pub returns-in-Err-clause-asks : goal.returns-in-Err-clause-asks
returns-in-Err-clause-asks c =
    subst (IsAskedObject c.args.snap.now.geometry) (sym c.in-Err.ensures.need)
    (is_object c.args.snap.now.geometry c.args.first c.args.piece c.piece_addr.result c.requires.from
    c.requires.to c.piece_addr.ensures.block c.piece_addr.ensures.offset c.piece_addr.ensures.len)
