use Rattle.std.proofs.Common.{◌≡◌, subst, sym, arith, length-append, min, length, false}
use Rattle.rpc.proofs.Lengths.{accepted-length}
use Rattle.rpc.specs.Refused.{accepted}
use Rattle.nfs_results.specs.Results.{nfs_result_bytes}
use Rattle.session_wire.specs.Replies.{body_of, body_too_long, reply_bytes}
use Rattle.session_wire.proofs.reply.length_of.Goals as goal

pub returns-in-Nfs-clause-some : goal.returns-in-Nfs-clause-some
returns-in-Nfs-clause-some c =
    subst (λ reply. (c.saturating_add.result ≡ min (length (reply_bytes c.args.xid (body_of reply))) 18446744073709551615)
    × (body_too_long (body_of reply) ≡ false)) (sym c.in-Nfs.is) (
      omega (
        arith,
        c.saturating_add.ensures,
        c.in_ok-reply_len-in-Nfs.ensures.some.0,
        accepted-length c.args.xid 0,
        length-append (accepted c.args.xid 0) (nfs_result_bytes c.in-Nfs.done.now),
      ),
      c.in_ok-reply_len-in-Nfs.ensures.some.1,
    )
