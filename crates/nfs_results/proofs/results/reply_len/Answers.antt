use Rattle.std.proofs.Common.{arith, ap, length, length-append}
use Rattle.nfs_results.specs.Results.{nfs_result_header, nfs_data}
use Rattle.nfs_results.proofs.Headers.{of_nfs}
use Rattle.nfs_results.proofs.results.reply_len.Goals as goal

pub returns-in-Ok-clause-some : goal.returns-in-Ok-clause-some
returns-in-Ok-clause-some c =
    let leading = nfs_result_header c.args.reply.now in
    let behind = nfs_data c.args.reply.now in (
      omega (
        arith,
        c.saturating_add.ensures,
        c.count.ensures,
        c.data_len.ensures,
        ap length c.in-Ok.ensures.0,
        length-append c.counting-out.result.bytes leading,
        ap length c.counting-out.ensures.bytes,
        ap length (of_nfs c.args.reply.now),
        length-append leading behind,
      ),
      c.in-Ok.ensures.1,
    )
