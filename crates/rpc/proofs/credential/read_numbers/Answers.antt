use Rattle.std.proofs.Common.{inl, arith, ◌-◌, ◌≡◌}
use Rattle.std.proofs.lemmas.Result.{err_from_is_err_and}
use Rattle.rpc.specs.Credentials.{numbers_at}
use Rattle.rpc.proofs.Loops.{begins, goes_on, ends, is_done}
use Rattle.rpc.proofs.credential.read_numbers.Goals as goal

pub loop-init : goal.loop-init
loop-init c =
    let k : c.args.count - 0 ≡ c.args.count = omega arith in
    rw (c.in_ok-numbers.ensures.items, k) (begins (numbers_at c.args.count c.args.reader.now))

pub returns-in_err-number : goal.returns-in_err-number
returns-in_err-number c =
    let p = err_from_is_err_and c.from_residual-in_err-number.result c.from_residual-in_err-number.ensures.1 in
    rw (p.1, p.2)
    (inl (ends c.in_err-number.field-0.0 c.loop.numbers.items c.args.count c.loop.counter c.loop.reader
    (numbers_at c.args.count c.args.reader.now) c.loop-test.true c.in_err-number.ensures c.loop.invariant))

pub loop-preserved : goal.loop-preserved
loop-preserved c =
    rw c.in_ok-push.ensures.items
    (goes_on c.loop.numbers.items c.args.count c.loop.counter c.loop.reader c.in_ok-number.number
    c.unsigned.new.self (numbers_at c.args.count c.args.reader.now) c.loop-test.true
    c.in_ok-number.ensures c.loop.invariant)

pub returns : goal.returns
returns c = is_done c.loop.numbers.items c.args.count c.loop.counter c.loop.reader
    (numbers_at c.args.count c.args.reader.now) c.loop-test.false c.loop.invariant
