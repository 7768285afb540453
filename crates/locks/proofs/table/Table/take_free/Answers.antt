use Rattle.std.proofs.Common.{List, ap, subst, sym, ◌∙◌}
use Rattle.txn_law.specs.Holds.{with_hold}
use Rattle.txn_law.specs.WellFormed.{AreApart}
use Rattle.txn_law.specs.declared.hold.Hold.{Hold}
use Rattle.txn_law.proofs.StaysWellFormed.{apart_with}
use Rattle.locks.specs.Taking.{IsFreeFor}
use Rattle.locks.proofs.table.Table.take_free.Goals as goal

pub invariant_of-self-2 : goal.invariant_of-self-2
invariant_of-self-2 c = record {
  apart = subst AreApart
      (sym (c.track.ensures.holds ∙ ap (λ (holds : List Hold). with_hold holds c.args.hold) c.reserve.ensures.items))
      (apart_with c.self.inside.holds.items c.args.hold c.self.invariant.apart
      (subst (λ (holds : List Hold). IsFreeFor holds c.args.hold) (sym c.self.view_is) c.requires));
  index = c.track.ensures.index;
}
