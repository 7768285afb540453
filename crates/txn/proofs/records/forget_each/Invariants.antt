-- what the records so far read is pinned once less, where they go
use Rattle.std.proofs.Common.{take, if◌then◌else◌, nat_lt}
use Rattle.objects.specs.Pins.{Unpins}
use Rattle.txn.specs.Pinned.{objects_in, total}
use Rattle.txn.proofs.records.forget_each.Given as goal

abbrev pub invariant-loop-i : goal.invariant-loop-i
invariant-loop-i g l =
    Unpins l.initial.present (λ at. total (λ kept. if nat_lt l.fn.installed.0 kept.place then 0
    else objects_in kept.read at) (take l.i l.records.items)) l.present
