use Rattle.std.proofs.Common.{sym, subst, arith}
use Rattle.base.specs.declared.TheConstants.{FIRST_HOME_BLOCK}
use Rattle.bitmap.specs.Pieces.{IsAskedObject}
use Rattle.bitmap.proofs.Asked.{is_object, may_suspend}
use Rattle.procs.proofs.pieces.piece_bytes.Goals as goal

pub returns-in-Err-clause-err : goal.returns-in-Err-clause-err
returns-in-Err-clause-err c =
    may_suspend c.args.snap.now c.in-Err.suspend c.in-Err.ensures.err
    (subst (IsAskedObject c.args.snap.now.geometry) (sym c.in-Err.ensures.need)
    (is_object c.args.snap.now.geometry FIRST_HOME_BLOCK c.args.piece c.piece_addr.result (omega arith)
    c.requires c.piece_addr.ensures.block c.piece_addr.ensures.offset c.piece_addr.ensures.len))
