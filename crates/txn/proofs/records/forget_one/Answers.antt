use Rattle.std.proofs.Common.{◌≡◌, ◌-◌, ◌∙◌, if◌then◌else◌, nat_lt, arith, ap, sym, Bool, true, false, List}
use Rattle.disk.specs.declared.block.BlockNo.{BlockNo}
use Rattle.objects.specs.Pins.{Residents, pins_of}
use Rattle.objects.proofs.Wanted.{lets_none}
use Rattle.txn.specs.Pinned.{count_in, objects_in}
use Rattle.txn.proofs.Counted.{objects_are}
use Rattle.txn.proofs.records.forget_one.Goals as goal

pub returns-then-is_past : goal.returns-then-is_past
returns-then-is_past g c =
    let present : Residents = c.args.present.now in
    let past : nat_lt c.args.installed.0 c.args.kept.now.place ≡ true =
    ap (nat_lt c.args.installed.0) (sym c.place.ensures) ∙ sym c.is_past.ensures ∙ c.if-is_past.true in (
      (λ at.
          let none = ap (λ (t : Bool). pins_of present at
          - (if t then 0 else objects_in c.args.kept.now.read at)) past in
          omega (arith, none)),
      lets_none (pins_of present) present.blocks,
    )

pub returns : goal.returns
returns g c =
    let old : Residents = c.args.present.now in
    let past : nat_lt c.args.installed.0 c.args.kept.now.place ≡ false =
    ap (nat_lt c.args.installed.0) (sym c.place.ensures) ∙ sym c.is_past.ensures ∙ c.if-is_past.false in (
      (λ at. c.unpin_each.ensures.0 at
          ∙ ap (λ (blocks : List BlockNo). pins_of old at - count_in blocks at) c.blocks-2.ensures
          ∙ ap (λ n. pins_of old at - n) (objects_are c.args.kept.now.read at)
          ∙ ap (λ (t : Bool). pins_of old at - (if t then 0 else objects_in c.args.kept.now.read at)) (sym past)),
      c.unpin_each.ensures.1,
    )
