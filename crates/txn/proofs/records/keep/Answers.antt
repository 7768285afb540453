use Rattle.std.proofs.Common.{◌≡◌, ◌+◌, ◌∙◌, if◌then◌else◌, nat_lt, ap, sym, Bool, true, List}
use Rattle.disk.specs.declared.block.BlockNo.{BlockNo}
use Rattle.objects.specs.Pins.{Residents, pins_of}
use Rattle.txn.specs.Pinned.{count_in, objects_in}
use Rattle.txn.proofs.Counted.{objects_are}
use Rattle.txn.proofs.records.keep.Goals as goal

pub returns-then-is_past-clause-pins : goal.returns-then-is_past-clause-pins
returns-then-is_past-clause-pins g c =
    let old : Residents = c.args.present.now in
    let past : nat_lt c.args.installed.0 c.args.kept.place ≡ true =
    ap (nat_lt c.args.installed.0) (sym c.place.ensures) ∙ sym c.is_past.ensures ∙ c.if-is_past.true in (
      (λ at. c.pin_each.ensures.0 at
          ∙ ap (λ (blocks : List BlockNo). pins_of old at + count_in blocks at) c.blocks-then-is_past.ensures
          ∙ ap (λ n. pins_of old at + n) (objects_are c.args.kept.read at)
          ∙ ap (λ (t : Bool). pins_of old at + (if t then objects_in c.args.kept.read at else 0)) (sym past)),
      c.pin_each.ensures.1,
    )
