use Rattle.std.proofs.Common.{◌+◌, List, take, get_or}
use Rattle.disk.specs.declared.block.BlockNo.{BlockNo}
use Rattle.objects.specs.Pins.{once_at}
use Rattle.objects.proofs.Wanted.{unpins_none, unpins_then}
use Rattle.txn.specs.Pinned.{count_in}
use Rattle.txn.proofs.Counted.{total_more}
use Rattle.txn.proofs.records.unpin_each.Goals as goal

pub loop-block-init : goal.loop-block-init
loop-block-init c = unpins_none c.args.present.now

pub loop-block-preserved : goal.loop-block-preserved
loop-block-preserved c =
    let blocks : List BlockNo = c.args.blocks.now in
    let i = c.loop-block.block-index in
    unpins_then c.args.present.now c.loop-block.present c.unpin.new.self (count_in (take i blocks))
    (once_at (get_or blocks i (record { 0 = 0 }))) (count_in (take (i + 1) blocks))
    (λ at. total_more (λ (block : BlockNo). once_at block at) blocks i (record { 0 = 0 }) c.loop-block-test.true)
    c.loop-block.invariant c.unpin.ensures
