use Rattle.std.proofs.Common.{sym, subst, arith}
use Rattle.inode.specs.Over.{MaySuspend}
use Rattle.inode.specs.Snap.{IsNew}
use Rattle.bitmap.proofs.Asked.{has_bit_of}
use Rattle.bitmap.proofs.inodes.block_release.ask_bit.Goals as goal

pub returns-in-Err-clause-err : goal.returns-in-Err-clause-err
returns-in-Err-clause-err c =
    subst (MaySuspend c.args.snap.now) (sym c.in-Err.ensures.need) (
      subst (IsNew c.args.snap.now) c.in-Err.ensures.need c.in-Err.ensures.err,
      has_bit_of c.args.snap.now.geometry c.args.number c.piece_addr.result c.if-number-snap.false
          c.piece_addr.ensures.block c.piece_addr.ensures.offset c.piece_addr.ensures.len,
    )
