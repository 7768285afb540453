use Rattle.std.proofs.Common.{sym, ap, ◌+◌, length, flat_map, false, arith}
use Rattle.std.proofs.lemmas.Result.{err_from_is_err_and}
use Rattle.nfs_results.proofs.Refusals.{part_fits, wider}
use Rattle.nfs_results.proofs.data.put_parts.Goals as goal

pub returns-in_err-raw : goal.returns-in_err-raw
returns-in_err-raw c =
    let p = err_from_is_err_and c.from_residual.result c.from_residual.ensures.1 in
    let fits = part_fits c.args.parts.now c.loop-part.part-index c.part-item.result c.loop-part.out.bytes
    c.args.out.now.bytes c.loop-part-test.true c.part-item.is c.loop-part.invariant.0 in
    rw (p.1, p.2) (wider c.in_err-raw.field-0.0 false c.loop-part.out c.args.out.now
    (length c.loop-part.out.bytes + length c.as_slice.result.now)
    (length c.args.out.now.bytes + length (flat_map (λ part. part) c.args.parts.now)) c.loop-part.invariant.1
    (sym c.loop-part.invariant.2) (omega (arith, fits, ap length c.as_slice.ensures)) c.in_err-raw.ensures.written)
