-- the blocks so far are pinned once more
use Rattle.std.proofs.Common.{take}
use Rattle.objects.specs.Pins.{Pins}
use Rattle.txn.specs.Pinned.{count_in}
use Rattle.txn.proofs.records.pin_each.Given as goal

abbrev pub invariant-loop-block : goal.invariant-loop-block
invariant-loop-block l = Pins l.initial.present (count_in (take l.block-index l.blocks)) l.present
