use Rattle.std.proofs.Common.{◌≡◌, ◌<◌, ◌+◌, ◌∙◌, ℕ, if◌then◌else◌, nat_lt, List, length, take, get_or, ap, sym, arith}
use Rattle.disk.specs.declared.block.BlockNo.{BlockNo}
use Rattle.objects.specs.Pins.{Residents, Unpins}
use Rattle.objects.proofs.Wanted.{unpins_none, unpins_then}
use Rattle.txn.specs.Pinned.{objects_in, total}
use Rattle.txn.proofs.Counted.{total_more}
use Rattle.txn.proofs.records.forget_each.Goals as goal

pub loop-i-init : goal.loop-i-init
loop-i-init g c = unpins_none c.args.present.now

step : {X : Type 0} (count : BlockNo → X → ℕ) (xs : List X) (i : ℕ) (x : X) (one two three : Residents)
    → i < length xs → x ≡ get_or xs i x → Unpins one (λ at. total (count at) (take i xs)) two
    → Unpins two (λ at. count at x) three → Unpins one (λ at. total (count at) (take (i + 1) xs)) three
step count xs i x one two three lt is first second =
    unpins_then one two three (λ at. total (count at) (take i xs)) (λ at. count at x)
    (λ at. total (count at) (take (i + 1) xs))
    (λ at. total_more (count at) xs i x lt ∙ ap (λ y. total (count at) (take i xs) + count at y) (sym is))
    first second

pub loop-i-preserved : goal.loop-i-preserved
loop-i-preserved g c =
    step (λ at kept. if nat_lt c.args.installed.0 kept.place then 0
    else objects_in kept.read at) c.args.records.now.items c.loop-i.i
    c.index.result.now c.args.present.now c.loop-i.present c.forget_one.new.present
    (omega (arith, c.loop-i-test.true, c.len-i-end.ensures)) c.index.ensures c.loop-i.invariant
    c.forget_one.ensures
