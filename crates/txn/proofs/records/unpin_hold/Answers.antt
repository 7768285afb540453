use Rattle.std.proofs.Common.{◌≡◌, ◌-◌, if◌then◌else◌, nat_eq, not, arith, ap, Bool, false, ne_eqb}
use Rattle.objects.specs.Pins.{Residents, once_at, pins_of}
use Rattle.objects.proofs.Wanted.{lets_none}
use Rattle.txn.proofs.records.unpin_hold.Goals as goal

pub returns-then-hold-transaction : goal.returns-then-hold-transaction
returns-then-hold-transaction c =
    let present : Residents = c.args.present.now in
    let other : nat_eq c.args.hold.now.transaction c.args.transaction ≡ false =
    ne_eqb c.args.hold.now.transaction c.args.transaction c.if-hold-transaction.true in (
      (λ at.
          let none = ap (λ (t : Bool). pins_of present at
          - (if not t then 0 else once_at c.args.hold.now.addr.block at)) other in
          omega (arith, none)),
      lets_none (pins_of present) present.blocks,
    )
