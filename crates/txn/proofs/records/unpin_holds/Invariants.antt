-- the blocks of the transaction's holds so far are pinned once less
use Rattle.std.proofs.Common.{take}
use Rattle.objects.specs.Pins.{Unpins}
use Rattle.txn.specs.Pinned.{own_in}
use Rattle.txn.proofs.records.unpin_holds.Given as goal

abbrev pub invariant-loop-hold : goal.invariant-loop-hold
invariant-loop-hold l =
    Unpins l.initial.present (own_in l.transaction (take l.hold-index l.holds)) l.present
