use Rattle.std.proofs.Common.{◌∙◌, List, length, refl, sym, subst, ℕ}
use Rattle.txn_law.specs.Core.{CoreState}
use Rattle.txn_law.specs.CoreLaw.{IsLawfulCore}
use Rattle.txn_law.specs.CoreWindow.{IsHomeOf, PreservesHome, PreservesReads}
use Rattle.txn_law.specs.Leaves.{Leaves, taken_by, is_fetching, in_memory, but_by}
use Rattle.txn_law.specs.declared.hold.Hold.{Hold}
use Rattle.txn_law.proofs.CoreLaws.{home_end, lawful_end}
use Rattle.txn_law.proofs.HeldReads.{reads_end}
use Rattle.txn_law.proofs.Leaves.{leaves_end}
use Rattle.txn.specs.Answering.{OfSome}
use Rattle.txn.specs.Consistent.{IsConsistent, core_of}
use Rattle.txn.proofs.Consistent.{consistent_ended}
use Rattle.txn.proofs.Ended.{ended_there}
use Rattle.txn.proofs.transactions.Core.abort.Goals as goal

pub invariant_of-self : goal.invariant_of-self
invariant_of-self g c =
    let core = c.self.inside in
    let old : CoreState = core_of core.log core.inodes core.begun core.out.items core.holds core.present.blocks
    core.records.items core.boot (length core.log_calls.items) (length core.inst_calls.items)
    (length core.refused.items) in
    let (spare, is) = ended_there old c.tx.inside.number core.present c.end.new.present c.end.new.out.items
    c.end.new.holds refl c.self.invariant.0 c.end.ensures.out c.end.ensures.holds c.end.ensures.pins in (
      subst (λ (holds : List Hold). IsConsistent core.log holds core.records.items c.end.new.present)
          (sym c.end.ensures.holds)
          (consistent_ended core.log core.holds c.tx.inside.number core.records.items core.present c.end.new.present
          c.end.ensures.pins c.self.invariant.0),
      subst (λ (now : CoreState). IsLawfulCore (OfSome g.C.Change.is_plan) now) (sym is)
          (lawful_end (OfSome g.C.Change.is_plan) spare old c.tx.inside.number c.self.invariant.1),
      c.self.invariant.2,
    )

pub returns-clause-leaves : goal.returns-clause-leaves
returns-clause-leaves g c =
    let core = c.self.inside in
    let old : CoreState = core_of core.log core.inodes core.begun core.out.items core.holds core.present.blocks
    core.records.items core.boot (length core.log_calls.items) (length core.inst_calls.items)
    (length core.refused.items) in
    let (spare, is) = ended_there old c.tx.inside.number core.present c.end.new.present c.end.new.out.items
    c.end.new.holds refl c.self.invariant.0 c.end.ensures.out c.end.ensures.holds c.end.ensures.pins in
    let new : CoreState = record old {
      out = c.end.new.out.items;
      holds = c.end.new.holds;
      present = c.end.new.present.blocks;
    } in
    subst (λ (before : CoreState). Leaves new (but_by c.args.tx (taken_by before)) (is_fetching before)
    (in_memory before)) c.self.view_is
    (subst (λ (tx : ℕ). Leaves new (but_by tx (taken_by old)) (is_fetching old) (in_memory old)) c.tx.view_is
    (subst (λ (now : CoreState). Leaves now (but_by c.tx.inside.number (taken_by old)) (is_fetching old)
    (in_memory old)) (sym is)
    (leaves_end spare old c.tx.inside.number c.self.invariant.1.well_formed)))

pub returns-clause-stays : goal.returns-clause-stays
returns-clause-stays g c = λ other differ.
    let core = c.self.inside in
    let old : CoreState = core_of core.log core.inodes core.begun core.out.items core.holds core.present.blocks
    core.records.items core.boot (length core.log_calls.items) (length core.inst_calls.items)
    (length core.refused.items) in
    let (spare, is) = ended_there old c.tx.inside.number core.present c.end.new.present c.end.new.out.items
    c.end.new.holds refl c.self.invariant.0 c.end.ensures.out c.end.ensures.holds c.end.ensures.pins in
    let new : CoreState = record old {
      out = c.end.new.out.items;
      holds = c.end.new.holds;
      present = c.end.new.present.blocks;
    } in
    subst (λ (before : CoreState). PreservesReads before new other) c.self.view_is
    (subst (λ (now : CoreState). PreservesReads old now other) (sym is)
    (reads_end spare old c.tx.inside.number other (λ same. differ (same ∙ c.tx.view_is))))

pub returns-clause-preserves : goal.returns-clause-preserves
returns-clause-preserves g c =
    let core = c.self.inside in
    let old : CoreState = core_of core.log core.inodes core.begun core.out.items core.holds core.present.blocks
    core.records.items core.boot (length core.log_calls.items) (length core.inst_calls.items)
    (length core.refused.items) in
    let (spare, is) = ended_there old c.tx.inside.number core.present c.end.new.present c.end.new.out.items
    c.end.new.holds refl c.self.invariant.0 c.end.ensures.out c.end.ensures.holds c.end.ensures.pins in
    let new : CoreState = record old {
      out = c.end.new.out.items;
      holds = c.end.new.holds;
      present = c.end.new.present.blocks;
    } in
    subst (λ (before : CoreState). PreservesHome before new) c.self.view_is
    (λ base h. subst (λ (now : CoreState). IsHomeOf base now) (sym is)
    (home_end spare old c.tx.inside.number base h))
