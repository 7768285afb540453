use Rattle.std.proofs.Common.{ℕ, ap, length, subst, sym, ◌∙◌}
use Rattle.txn_law.specs.Core.{CoreState, with_refused}
use Rattle.txn_law.specs.CoreLaw.{IsLawfulCore}
use Rattle.txn_law.specs.CoreWindow.{PreservesHome, PreservesReads}
use Rattle.txn_law.proofs.CoreLaws.{home_refused, lawful_refused}
use Rattle.txn_law.proofs.HeldReads.{reads_refused}
use Rattle.txn.specs.Answering.{OfSome}
use Rattle.txn.specs.Consistent.{core_of}
use Rattle.txn.proofs.transactions.Core.refuse.Goals as goal

pub invariant_of-self : goal.invariant_of-self
invariant_of-self g c =
    let core = c.self.inside in
    let old : CoreState = core_of core.log core.inodes core.begun core.out.items core.holds core.present.blocks
    core.records.items core.boot (length core.log_calls.items) (length core.inst_calls.items)
    (length core.refused.items) in (
      c.self.invariant.0,
      subst (λ (n : ℕ). IsLawfulCore (OfSome g.C.Change.is_plan) (record old { refused = n })) (sym c.count_refusal.ensures)
          (lawful_refused (OfSome g.C.Change.is_plan) old c.self.invariant.1),
      c.self.invariant.2,
    )

pub returns-clause-counted : goal.returns-clause-counted
returns-clause-counted g c =
    let core = c.self.inside in
    let old : CoreState = core_of core.log core.inodes core.begun core.out.items core.holds core.present.blocks
    core.records.items core.boot (length core.log_calls.items) (length core.inst_calls.items)
    (length core.refused.items) in
    ap (λ (n : ℕ). record old { refused = n }) c.count_refusal.ensures ∙ ap (λ (now : CoreState). with_refused now) c.self.view_is

pub returns-clause-stays : goal.returns-clause-stays
returns-clause-stays g c = λ other.
    let core = c.self.inside in
    let old : CoreState = core_of core.log core.inodes core.begun core.out.items core.holds core.present.blocks
    core.records.items core.boot (length core.log_calls.items) (length core.inst_calls.items)
    (length core.refused.items) in
    let new : CoreState = record old { refused = length c.count_refusal.new.refused.items } in
    subst (λ (before : CoreState). PreservesReads before new other) c.self.view_is
    (subst (λ (n : ℕ). PreservesReads old (record old { refused = n }) other) (sym c.count_refusal.ensures)
    (reads_refused old other))

pub returns-clause-preserves : goal.returns-clause-preserves
returns-clause-preserves g c =
    let core = c.self.inside in
    let old : CoreState = core_of core.log core.inodes core.begun core.out.items core.holds core.present.blocks
    core.records.items core.boot (length core.log_calls.items) (length core.inst_calls.items)
    (length core.refused.items) in
    let new : CoreState = record old { refused = length c.count_refusal.new.refused.items } in
    subst (λ (before : CoreState). PreservesHome before new) c.self.view_is
    (subst (λ (n : ℕ). PreservesHome old (record old { refused = n })) (sym c.count_refusal.ensures) (home_refused old))
