use Rattle.std.proofs.Common.{◌≡◌, ◌∙◌, ap, length, sym, subst}
use Rattle.objects.specs.Pins.{Residents}
use Rattle.txn_law.specs.Core.{CoreState}
use Rattle.txn_law.specs.CoreLaw.{IsLawfulCore}
use Rattle.txn_law.specs.CoreWindow.{IsHomeOf, PreservesHome, PreservesReads}
use Rattle.txn_law.specs.Fetch.{Fetch}
use Rattle.txn_law.specs.Fetched.{fetch_failed}
use Rattle.txn_law.specs.Leaves.{Leaves, taken_by, is_fetching, in_memory, without_fetch}
use Rattle.txn_law.proofs.CoreLaws.{home_failed, lawful_failed}
use Rattle.txn_law.proofs.HeldReads.{reads_failed}
use Rattle.txn_law.proofs.Leaves.{leaves_failed}
use Rattle.txn.specs.Answering.{OfSome}
use Rattle.txn.specs.Consistent.{IsConsistent, core_of}
use Rattle.txn.proofs.Consistent.{consistent_failed}
use Rattle.txn.proofs.transactions.Core.fetch_failed.Goals as goal

pub invariant_of-self : goal.invariant_of-self
invariant_of-self g c =
    let core = c.self.inside in
    let old : CoreState = core_of core.log core.inodes core.begun core.out.items core.holds core.present.blocks
    core.records.items core.boot (length core.log_calls.items) (length core.inst_calls.items)
    (length core.refused.items) in
    let new : CoreState = record old { present = c.fetch_failed.new.self.blocks } in
    let is : new ≡ fetch_failed old c.args.io.block =
    ap (λ (r : Residents). record old { present = r.blocks }) c.fetch_failed.ensures
    ∙ ap (λ (io : Fetch). fetch_failed old io.block) c.io.view_is in (
      subst (λ (resident : Residents). IsConsistent core.log core.holds core.records.items resident)
          (sym c.fetch_failed.ensures)
          (consistent_failed core.log core.holds core.records.items core.present c.io.inside.block
          c.self.invariant.0),
      subst (λ (now : CoreState). IsLawfulCore (OfSome g.C.Change.is_plan) now) (sym is)
          (lawful_failed (OfSome g.C.Change.is_plan) old c.args.io.block c.self.invariant.1),
      c.self.invariant.2,
    )

pub returns-clause-preserves : goal.returns-clause-preserves
returns-clause-preserves g c =
    let core = c.self.inside in
    let old : CoreState = core_of core.log core.inodes core.begun core.out.items core.holds core.present.blocks
    core.records.items core.boot (length core.log_calls.items) (length core.inst_calls.items)
    (length core.refused.items) in
    let new : CoreState = record old { present = c.fetch_failed.new.self.blocks } in
    let is : new ≡ fetch_failed old c.args.io.block =
    ap (λ (r : Residents). record old { present = r.blocks }) c.fetch_failed.ensures
    ∙ ap (λ (io : Fetch). fetch_failed old io.block) c.io.view_is in
    subst (λ (before : CoreState). PreservesHome before new) c.self.view_is
    (λ base h. subst (λ (now : CoreState). IsHomeOf base now) (sym is) (home_failed old c.args.io.block base h))

pub returns-clause-stays : goal.returns-clause-stays
returns-clause-stays g c = λ other.
    let core = c.self.inside in
    let old : CoreState = core_of core.log core.inodes core.begun core.out.items core.holds core.present.blocks
    core.records.items core.boot (length core.log_calls.items) (length core.inst_calls.items)
    (length core.refused.items) in
    let new : CoreState = record old { present = c.fetch_failed.new.self.blocks } in
    let is : new ≡ fetch_failed old c.args.io.block =
    ap (λ (r : Residents). record old { present = r.blocks }) c.fetch_failed.ensures
    ∙ ap (λ (io : Fetch). fetch_failed old io.block) c.io.view_is in
    subst (λ (before : CoreState). PreservesReads before new other) c.self.view_is
    (subst (λ (now : CoreState). PreservesReads old now other) (sym is) (reads_failed old c.args.io.block other))

pub returns-clause-leaves : goal.returns-clause-leaves
returns-clause-leaves g c =
    let core = c.self.inside in
    let old : CoreState = core_of core.log core.inodes core.begun core.out.items core.holds core.present.blocks
    core.records.items core.boot (length core.log_calls.items) (length core.inst_calls.items)
    (length core.refused.items) in
    let new : CoreState = record old { present = c.fetch_failed.new.self.blocks } in
    let is : new ≡ fetch_failed old c.args.io.block =
    ap (λ (r : Residents). record old { present = r.blocks }) c.fetch_failed.ensures
    ∙ ap (λ (io : Fetch). fetch_failed old io.block) c.io.view_is in
    subst (λ (before : CoreState). Leaves new (taken_by before)
    (without_fetch c.args.io.block (is_fetching before)) (in_memory before)) c.self.view_is
    (subst (λ (now : CoreState). Leaves now (taken_by old) (without_fetch c.args.io.block (is_fetching old))
    (in_memory old)) (sym is) (leaves_failed old c.args.io.block c.self.invariant.1.well_formed))
