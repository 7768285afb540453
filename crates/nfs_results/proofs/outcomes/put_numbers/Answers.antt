use Rattle.std.proofs.Common.{sym, ℕ, ◌+◌, length, get_or, false}
use Rattle.std.proofs.lemmas.Result.{err_from_is_err_and}
use Rattle.xdr.specs.Codes.{word, items_bytes}
use Rattle.nfs_results.proofs.Refusals.{item_fits, same_at, wider}
use Rattle.nfs_results.proofs.outcomes.put_numbers.Goals as goal

pub returns-in_err-unsigned : goal.returns-in_err-unsigned
returns-in_err-unsigned c =
    let p = err_from_is_err_and c.from_residual.result c.from_residual.ensures.1 in
    let number : ℕ = get_or c.args.numbers.now c.loop-number.number-index 0 in
    let fits = item_fits word c.args.numbers.now c.loop-number.number-index number c.loop-number.out.bytes
    c.args.out.now.bytes c.loop-number-test.true
    (same_at c.args.numbers.now c.loop-number.number-index 0 number c.loop-number-test.true)
    c.loop-number.invariant.0 in
    rw (p.1, p.2) (wider c.in_err-unsigned.field-0.0 false c.loop-number.out c.args.out.now
    (length c.loop-number.out.bytes + length (word.spell number))
    (length c.args.out.now.bytes + length (items_bytes word c.args.numbers.now)) c.loop-number.invariant.1
    (sym c.loop-number.invariant.2) fits c.in_err-unsigned.ensures.written)
