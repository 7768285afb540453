use Rattle.std.proofs.Common.{◌≡◌, ◌+◌, ◌∙◌, ℕ, if◌then◌else◌, not, nat_eq, List, take, ap, subst, sym}
use Rattle.std.proofs.lemmas.List.{take_all}
use Rattle.disk.specs.declared.block.BlockNo.{BlockNo}
use Rattle.objects.specs.Pins.{Residents, Unpins, once_at}
use Rattle.objects.proofs.Wanted.{unpins_none, unpins_then}
use Rattle.txn.specs.Pinned.{own_in, total}
use Rattle.txn.proofs.Counted.{total_more}
use Rattle.txn_law.specs.declared.hold.Hold.{Hold}
use Rattle.txn.proofs.records.unpin_holds.Goals as goal

-- what a hold counts for, where the transaction has it
abbrev counts : ℕ → BlockNo → Hold → ℕ
counts tx at hold = if not (nat_eq hold.transaction tx) then 0 else once_at hold.addr.block at

pub loop-hold-init : goal.loop-hold-init
loop-hold-init c = unpins_none c.args.present.now

pub loop-hold-preserved : goal.loop-hold-preserved
loop-hold-preserved c =
    let tx = c.args.transaction in
    let holds : List Hold = c.args.holds.now in
    let items : List Hold = c.holds-hold-items.result.now in
    let i = c.loop-hold.hold-index in
    let item : Hold = c.hold-item.result in
    let two : Residents = c.loop-hold.present in
    let three : Residents = c.unpin_hold.new.present in
    unpins_then c.args.present.now two three (own_in tx (take i holds)) (λ at. counts tx at item)
    (own_in tx (take (i + 1) holds))
    (λ at. subst (λ (xs : List Hold). total (counts tx at) (take (i + 1) xs)
    ≡ total (counts tx at) (take i xs) + counts tx at item) c.holds-hold-items.ensures
    (total_more (counts tx at) items i item c.loop-hold-test.true
    ∙ ap (λ (h : Hold). total (counts tx at) (take i items) + counts tx at h) (sym c.hold-item.is)))
    c.loop-hold.invariant c.unpin_hold.ensures

pub returns : goal.returns
returns c =
    subst (λ (holds : List Hold). Unpins c.args.present.now (own_in c.args.transaction holds) c.loop-hold.present)
    (subst (λ (xs : List Hold). take c.loop-hold.hold-index xs ≡ xs) c.holds-hold-items.ensures
    (take_all c.loop-hold.hold-index c.holds-hold-items.result.now c.loop-hold-test.false))
    c.loop-hold.invariant
