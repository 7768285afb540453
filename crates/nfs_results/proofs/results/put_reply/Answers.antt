use Rattle.std.proofs.lemmas.Result.{err_from_is_err_and}
use Rattle.nfs_results.specs.Results.{nfs_too_long}
use Rattle.nfs_results.proofs.Headers.{data_behind, header_refused}
use Rattle.nfs_results.proofs.results.put_reply.Goals as goal

pub returns-in_err-put_result_header : goal.returns-in_err-put_result_header
returns-in_err-put_result_header c =
    let p = err_from_is_err_and c.from_residual.result c.from_residual.ensures.1 in
    rw (p.1, p.2) (header_refused c.args.reply.now c.in_err-put_result_header.field-0.0 (nfs_too_long c.args.reply.now)
    c.args.out.now c.in_err-put_result_header.ensures)

pub returns : goal.returns
returns c =
    data_behind c.args.reply.now c.put_data.result (nfs_too_long c.args.reply.now) c.args.out.now
    c.put_result_header.new.out c.put_data.new.out c.in_ok-put_result_header.ensures c.put_data.ensures
