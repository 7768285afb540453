use Rattle.std.proofs.Common.{◌≡◌, ◌∙◌, Bool, List, ap, length, sym, subst}
use Rattle.disk.specs.Crash.{Image}
use Rattle.disk.specs.Device.{Device, current, newest as newest_content}
use Rattle.circ.specs.Log.Calls.{AgreesWithPending, Pending}
use Rattle.objects.specs.Pins.{Residents, pins_of}
use Rattle.objects.specs.Present.{filled}
use Rattle.objects.specs.declared.present.Present.{Present}
use Rattle.txn_law.specs.Core.{CoreState}
use Rattle.txn_law.specs.CoreLaw.{IsLawfulCore}
use Rattle.txn_law.specs.CoreWindow.{IsHomeOf, IsPending, PreservesReads}
use Rattle.txn_law.specs.Fetch.{Fetch}
use Rattle.txn_law.specs.Fetched.{fetched}
use Rattle.txn_law.specs.HomeRead.{IsReadable, HasContents}
use Rattle.txn_law.specs.Leaves.{HasFetched}
use Rattle.txn_law.specs.Window.{Footprint}
use Rattle.txn_law.proofs.CoreLaws.{lawful_fetched}
use Rattle.txn_law.proofs.HeldReads.{reads_fetched}
use Rattle.txn_law.proofs.Homes.{fetched_home, pending_is_home}
use Rattle.txn_law.proofs.Leaves.{leaves_fetched}
use Rattle.txn.specs.Answering.{OfSome}
use Rattle.txn.specs.Consistent.{IsConsistent, core_of}
use Rattle.txn.proofs.Consistent.{consistent_fetched}
use Rattle.txn.proofs.Counted.{swept_is}
use Rattle.txn.proofs.transactions.Core.fetched.Goals as goal

pub invariant_of-self : goal.invariant_of-self
invariant_of-self g c =
    let core = c.self.inside in
    let old : CoreState = core_of core.log core.inodes core.begun core.out.items core.holds core.present.blocks
    core.records.items core.boot (length core.log_calls.items) (length core.inst_calls.items)
    (length core.refused.items) in
    let records : List Footprint = core.records.items in
    let there : Residents = core.present in
    let spare : Present → Bool = c.fetched.ensures.0 in
    let new : CoreState = record old { present = c.fetched.new.self.blocks } in
    let is : new ≡ fetched spare old c.args.io.block c.args.io.content =
    ap (λ (present : List Present). record old { present = present })
    (ap (λ (r : Residents). r.blocks) c.fetched.ensures.1
    ∙ swept_is spare core.holds records (pins_of there) (filled there.blocks c.io.inside.block c.io.inside.buffer)
    c.self.invariant.0.counted)
    ∙ ap (λ (io : Fetch). fetched spare old io.block io.content) c.io.view_is in (
      subst (λ (resident : Residents). IsConsistent core.log core.holds records resident) (sym c.fetched.ensures.1)
          (consistent_fetched spare core.log core.holds records there c.io.inside.block c.io.inside.buffer
          c.self.invariant.0),
      subst (λ (now : CoreState). IsLawfulCore (OfSome g.C.Change.is_plan) now) (sym is)
          (lawful_fetched (OfSome g.C.Change.is_plan) spare old c.args.io.block c.args.io.content c.whole.ensures
          c.self.invariant.1),
      c.self.invariant.2,
    )

pub returns-clause-preserves : goal.returns-clause-preserves
returns-clause-preserves g c =
    let core = c.self.inside in
    let old : CoreState = core_of core.log core.inodes core.begun core.out.items core.holds core.present.blocks
    core.records.items core.boot (length core.log_calls.items) (length core.inst_calls.items)
    (length core.refused.items) in
    let records : List Footprint = core.records.items in
    let there : Residents = core.present in
    let spare : Present → Bool = c.fetched.ensures.0 in
    let new : CoreState = record old { present = c.fetched.new.self.blocks } in
    let is : new ≡ fetched spare old c.args.io.block c.args.io.content =
    ap (λ (present : List Present). record old { present = present })
    (ap (λ (r : Residents). r.blocks) c.fetched.ensures.1
    ∙ swept_is spare core.holds records (pins_of there) (filled there.blocks c.io.inside.block c.io.inside.buffer)
    c.self.invariant.0.counted)
    ∙ ap (λ (io : Fetch). fetched spare old io.block io.content) c.io.view_is in
    subst (λ (before : CoreState). (base : Image) → (IsPending before c.args.io.block
    → c.args.io.content ≡ base c.args.io.block.0) → IsHomeOf base before → IsHomeOf base new) c.self.view_is
    (λ base brought h. subst (λ (now : CoreState). IsHomeOf base now) (sym is)
    (fetched_home spare base old c.args.io.block c.args.io.content c.self.invariant.1.well_formed brought h))

pub returns-clause-stays : goal.returns-clause-stays
returns-clause-stays g c = λ other.
    let core = c.self.inside in
    let old : CoreState = core_of core.log core.inodes core.begun core.out.items core.holds core.present.blocks
    core.records.items core.boot (length core.log_calls.items) (length core.inst_calls.items)
    (length core.refused.items) in
    let records : List Footprint = core.records.items in
    let there : Residents = core.present in
    let spare : Present → Bool = c.fetched.ensures.0 in
    let new : CoreState = record old { present = c.fetched.new.self.blocks } in
    let is : new ≡ fetched spare old c.args.io.block c.args.io.content =
    ap (λ (present : List Present). record old { present = present })
    (ap (λ (r : Residents). r.blocks) c.fetched.ensures.1
    ∙ swept_is spare core.holds records (pins_of there) (filled there.blocks c.io.inside.block c.io.inside.buffer)
    c.self.invariant.0.counted)
    ∙ ap (λ (io : Fetch). fetched spare old io.block io.content) c.io.view_is in
    subst (λ (before : CoreState). PreservesReads before new other) c.self.view_is
    (subst (λ (now : CoreState). PreservesReads old now other) (sym is)
    (reads_fetched spare old c.args.io.block c.args.io.content other))

pub returns-clause-leaves : goal.returns-clause-leaves
returns-clause-leaves g c =
    let core = c.self.inside in
    let old : CoreState = core_of core.log core.inodes core.begun core.out.items core.holds core.present.blocks
    core.records.items core.boot (length core.log_calls.items) (length core.inst_calls.items)
    (length core.refused.items) in
    let records : List Footprint = core.records.items in
    let there : Residents = core.present in
    let spare : Present → Bool = c.fetched.ensures.0 in
    let new : CoreState = record old { present = c.fetched.new.self.blocks } in
    let is : new ≡ fetched spare old c.args.io.block c.args.io.content =
    ap (λ (present : List Present). record old { present = present })
    (ap (λ (r : Residents). r.blocks) c.fetched.ensures.1
    ∙ swept_is spare core.holds records (pins_of there) (filled there.blocks c.io.inside.block c.io.inside.buffer)
    c.self.invariant.0.counted)
    ∙ ap (λ (io : Fetch). fetched spare old io.block io.content) c.io.view_is in
    subst (λ (before : CoreState). HasFetched before c.args.io.block c.args.io.content new) c.self.view_is
    (subst (λ (now : CoreState). HasFetched old c.args.io.block c.args.io.content now) (sym is)
    (leaves_fetched spare old c.args.io.block c.args.io.content c.self.invariant.1.well_formed))

pub returns-clause-brings : goal.returns-clause-brings
returns-clause-brings g c =
    let core = c.self.inside in
    let old : CoreState = core_of core.log core.inodes core.begun core.out.items core.holds core.present.blocks
    core.records.items core.boot (length core.log_calls.items) (length core.inst_calls.items)
    (length core.refused.items) in
    subst (λ (before : CoreState). (d : Device) (base : Image) (logging installing : Pending)
    → AgreesWithPending d base before.log logging installing → IsReadable d before.log installing → HasContents d
    → c.args.io.content ≡ newest_content (current d c.args.io.block.0) → IsPending before c.args.io.block
    → c.args.io.content ≡ base c.args.io.block.0) c.self.view_is
    (λ d base logging installing agrees readable contents same waits. same
    ∙ pending_is_home d base old logging installing c.args.io.block c.self.invariant.1.well_formed agrees
    readable contents waits)
