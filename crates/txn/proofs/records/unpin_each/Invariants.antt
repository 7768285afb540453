-- the blocks so far are pinned once less
use Rattle.std.proofs.Common.{take}
use Rattle.objects.specs.Pins.{Unpins}
use Rattle.txn.specs.Pinned.{count_in}
use Rattle.txn.proofs.records.unpin_each.Given as goal

abbrev pub invariant-loop-block : goal.invariant-loop-block
invariant-loop-block l = Unpins l.initial.present (count_in (take l.block-index l.blocks)) l.present
