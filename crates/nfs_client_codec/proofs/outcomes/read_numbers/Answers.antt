use Rattle.std.proofs.Common.{inl, arith, ◌-◌, ◌≡◌}
use Rattle.std.proofs.lemmas.Result.{err_from_is_err_and}
use Rattle.xdr.specs.Codes.{word, items_at}
use Rattle.xdr.proofs.Links.{same_read, more_items, items_refused, items_done}
use Rattle.nfs_client_codec.proofs.outcomes.read_numbers.Goals as goal

pub loop-init : goal.loop-init
loop-init c =
    let k : c.args.count - 0 ≡ c.args.count = omega arith in
    rw (c.new-numbers.ensures.items, k) (same_read (items_at word c.args.count c.args.reader.now))

pub returns-in_err-number : goal.returns-in_err-number
returns-in_err-number c =
    let p = err_from_is_err_and c.from_residual.result c.from_residual.ensures.1 in
    rw (p.1, p.2)
    (inl (items_refused word c.loop.numbers.items c.args.count c.loop.counter c.loop.reader
    (items_at word c.args.count c.args.reader.now) c.in_err-number.field-0.0 c.loop-test.true
    c.in_err-number.ensures c.loop.invariant))

pub loop-preserved : goal.loop-preserved
loop-preserved c =
    rw c.in_ok-push.ensures.items
    (more_items word c.loop.numbers.items c.args.count c.loop.counter c.loop.reader c.in_ok-number.number
    c.unsigned.new.self (items_at word c.args.count c.args.reader.now) c.loop-test.true
    c.in_ok-number.ensures c.loop.invariant)

pub returns : goal.returns
returns c =
    items_done word c.loop.numbers.items c.args.count c.loop.counter c.loop.reader
    (items_at word c.args.count c.args.reader.now) c.loop-test.false c.loop.invariant
