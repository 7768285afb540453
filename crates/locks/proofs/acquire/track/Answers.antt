use Rattle.std.proofs.Common.{◌≡◌, List, None, refl, sym, subst, ◌∙◌}
use Rattle.txn_law.specs.Holds.{hold_of}
use Rattle.txn_law.specs.declared.hold.Hold.{Hold}
use Rattle.locks.proofs.NoneLeft.{none_left}
use Rattle.locks.proofs.acquire.track.Goals as goal

pub returns-in-None-clause-holds : goal.returns-in-None-clause-holds
returns-in-None-clause-holds c =
    let none : hold_of c.args.holds.now.items c.args.hold.transaction c.args.hold.addr ≡ None =
    subst
    (λ (hs : List Hold). hold_of hs c.args.hold.transaction c.args.hold.addr ≡ None) c.deref.ensures.value
    (sym c.hold_of.ensures ∙ c.in-None.is) in
    rw (c.add-in-None.ensures.holds, none, none_left c.args.holds.now.items c.args.hold.transaction c.args.hold.addr none) refl
