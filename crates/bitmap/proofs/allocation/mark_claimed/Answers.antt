use Rattle.std.proofs.Common.{◌≡◌, false, true, rules, sym, subst}
use Rattle.layout.specs.Places.{is_data}
use Rattle.inode.specs.declared.snap.Snap.{Snap}
use Rattle.inode.specs.declared.suspend.Suspend.TheVariants as suspend
use Rattle.inode.specs.Snap.{is_claimed}
use Rattle.bitmap.proofs.allocation.mark_claimed.Goals as goal

pub returns-then-not-has_claim-clause-err : goal.returns-then-not-has_claim-clause-err
returns-then-not-has_claim-clause-err c =
    let none : is_claimed (record { 0 = c.args.number }) c.there.result.now.claims.items ≡ false = search rules in
    c.there.ensures.stops (suspend.Claim (record { 0 = c.args.number })) (
      none,
      subst (λ (s : Snap). is_data s.geometry c.args.number ≡ true) (sym c.there.ensures.there) c.requires,
    )
