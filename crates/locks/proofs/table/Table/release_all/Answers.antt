use Rattle.std.proofs.Common.{not, nat_eq, subst, sym}
use Rattle.txn_law.specs.WellFormed.{AreApart}
use Rattle.txn_law.specs.declared.hold.Hold.{Hold}
use Rattle.txn_law.proofs.StaysWellFormed.{apart_filter}
use Rattle.locks.proofs.table.Table.release_all.Goals as goal

pub invariant_of-self : goal.invariant_of-self
invariant_of-self c = record {
  apart = subst AreApart (sym c.release.ensures.holds)
      (apart_filter (λ (hold : Hold). not (nat_eq hold.transaction c.args.transaction)) c.self.inside.holds.items
      c.self.invariant.apart);
  index = c.release.ensures.index;
}
