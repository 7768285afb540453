use Rattle.std.proofs.Common.{◌≡◌, ◌+◌, List, ap, ap₂, subst, sym, ◌∙◌}
use Rattle.objects.specs.declared.present.Present.{Present}
use Rattle.txn_law.specs.Core.{CoreState, with_refused, without}
use Rattle.txn_law.specs.Leaves.{Leaves, but_by, in_memory, is_fetching, taken_by}
use Rattle.txn_law.specs.declared.hold.Hold.{Hold}
use Rattle.txn_law.proofs.Leaves.{leaves_refused}
use Rattle.txn.proofs.transactions.Core.abort_for.Goals as goal

pub returns-clause-only : goal.returns-clause-only
returns-clause-only g c =
    let old : CoreState = c.args.self.now in
    let counted : c.refuse.new.self ≡ with_refused c.abort.new.self = c.refuse.ensures.counted in
    counted
    ∙ ap (λ (core : CoreState). with_refused core) c.abort.ensures.only
    ∙ ap₂ (λ (holds : List Hold) (present : List Present). record old {
      out = without c.args.tx old.out;
      holds = holds;
      present = present;
      refused = old.refused + 1;
    }) (sym (ap (λ (core : CoreState). core.holds) counted)) (sym (ap (λ (core : CoreState). core.present) counted))

pub returns-clause-leaves : goal.returns-clause-leaves
returns-clause-leaves g c =
    let old : CoreState = c.args.self.now in
    subst (λ (core : CoreState). Leaves core (but_by c.args.tx (taken_by old)) (is_fetching old) (in_memory old))
    (sym c.refuse.ensures.counted)
    (leaves_refused c.abort.new.self (but_by c.args.tx (taken_by old)) (is_fetching old) (in_memory old)
    c.abort.ensures.leaves)

pub returns-clause-stays : goal.returns-clause-stays
returns-clause-stays g c = λ other differ object is.
    c.refuse.ensures.stays other object (c.abort.ensures.stays other differ object is)

pub returns-clause-preserves : goal.returns-clause-preserves
returns-clause-preserves g c = λ base home.
    c.refuse.ensures.preserves base (c.abort.ensures.preserves base home)
