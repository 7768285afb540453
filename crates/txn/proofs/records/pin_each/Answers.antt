use Rattle.std.proofs.Common.{◌<◌, ◌+◌, ◌^◌, List, length, take, get_or, arith}
use Rattle.std.proofs.lemmas.List.{length-take-le}
use Rattle.disk.specs.declared.block.BlockNo.{BlockNo}
use Rattle.objects.specs.Pins.{once_at, pins_of}
use Rattle.objects.proofs.Wanted.{pins_then}
use Rattle.txn.specs.Pinned.{count_in}
use Rattle.txn.proofs.Counted.{total_more, count_most}
use Rattle.txn.proofs.records.pin_each.Goals as goal

pub pin_again-requires-clause-countable : goal.pin_again-requires-clause-countable
pin_again-requires-clause-countable c =
    let blocks : List BlockNo = c.args.blocks.now in
    let i = c.loop-block.block-index in
    let item : BlockNo = get_or blocks i (record { 0 = 0 }) in
    let lt : i < length blocks = c.loop-block-test.true in
    let countable : pins_of c.args.present.now item + length blocks < 2 ^ 128 =
    c.requires.countable i (record { 0 = 0 }) lt in
    let most = count_most (take i blocks) item in
    let long = length-take-le i blocks (omega (arith, lt)) in
    let now = c.loop-block.invariant.0 item in
    omega (arith, countable, most, long, now, lt)

pub loop-block-preserved : goal.loop-block-preserved
loop-block-preserved c =
    let blocks : List BlockNo = c.args.blocks.now in
    let i = c.loop-block.block-index in
    pins_then c.args.present.now c.loop-block.present c.pin_again.new.self (count_in (take i blocks))
    (once_at (get_or blocks i (record { 0 = 0 }))) (count_in (take (i + 1) blocks))
    (λ at. total_more (λ (block : BlockNo). once_at block at) blocks i (record { 0 = 0 }) c.loop-block-test.true)
    c.loop-block.invariant c.pin_again.ensures
