-- A call that is handed over, and a read that is made, leave a run going.
use Rattle.std.proofs.Common.{◌≡◌, ◌∙◌, refl, sym, ap, subst, true≢false, ℕ, inr, arith, Bool, true, false}
use Rattle.std.proofs.Common.{Option, is_some}
use Rattle.std.specs.Prelude.{IfSome}
use Rattle.std.proofs.Common.{Some, None, List, [], All}
use Rattle.std.proofs.lemmas.Bool.{eqb-true}
use Rattle.std.proofs.lemmas.List.Elements.{All-cons, All-contains, All-nil}
use Rattle.disk.specs.Crash.{Image}
use Rattle.disk.specs.Device.{Content, Device, current, newest}
use Rattle.disk.specs.declared.block.BlockNo.{BlockNo}
use Rattle.nfs_spec.specs.Model.Entry.{Entry}
use Rattle.nfs_spec.specs.Model.Tree.{Tree}
use Rattle.nfs_types.specs.declared.call.Call.{Call}
use Rattle.nfs_types.specs.declared.ctx.Credential.{Credential}
use Rattle.nfs_types.specs.declared.ctx.Ctx.{Ctx}
use Rattle.nfs_types.specs.declared.ctx.Moment.{Moment}
use Rattle.txn_law.specs.Core.{CoreState}
use Rattle.txn_law.specs.Fetch.{Fetch}
use Rattle.txn_law.specs.CoreWindow.{IsPending}
use Rattle.txn_law.specs.HomeRead.{HasContents}
use Rattle.txn_law.specs.Present.{is_pending, present_of}
use Rattle.txn_law.specs.WellFormed.{IsWellFormed, IsPlaced}
use Rattle.objects.specs.declared.present.Present.{Present}
use Rattle.txn_law.proofs.Claims.{found_by}
use Rattle.objects.proofs.Residents.{is_of, same_block}
use Rattle.txn_law.proofs.HomeReads.{read_home}
use Rattle.txn_law.proofs.Homes.{unlogged_block}
use Rattle.circ.specs.Log.Log.{IsHomeOn}
use Rattle.store_promise.specs.OpenSince.{IsOpenSince}
use Rattle.store_promise.specs.Running.{IsFetchOver, IsRunningOver, IsRunState, StoreState}
use Rattle.store_promise.specs.Schedule.{Setting, RunState, state_after}
use Rattle.store_promise.specs.declared.events.Event.TheVariants as event
use Rattle.store_promise.specs.declared.events.Step.{Step}
use Rattle.store_workers.specs.Single.{IsSingleOut, LeavesNothing, HasTakenInPlan}
use Rattle.store.specs.Runs.AtWork.{IsAtWork, IsCoreAtWork, Loads, LoadsFor, TracesFor, fetches_in, fetches_of}
use Rattle.store_workers.specs.Unaffected.{TracesAll, TracesTaken}
use Rattle.store_workers.specs.Phases.{has_transaction}
use Rattle.store_images.specs.Fetches.{FetchesOnly}
use Rattle.store_workers.specs.RunReports.{TakesCall}
use Rattle.store_workers.specs.Worker.{GoesWith}
use Rattle.store_workers.specs.WorkerReads.{with_read}
use Rattle.store_workers.specs.declared.workers.parts.Phase.{Phase}
use Rattle.store_workers.specs.declared.workers.parts.Phase.TheVariants.{Read, Reading}
use Rattle.store_workers.specs.declared.workers.parts.State.{State}

-- ---- a call

pub call_core : (ctx : Ctx) (call : Call) (old new : State) (made : Option Step) (core : CoreState)
    → TakesCall ctx call old made new → IsCoreAtWork old core → GoesWith new core → IsCoreAtWork new core
call_core ctx call old new None core takes at with = subst (λ (s : State). IsCoreAtWork s core) (sym takes.0) at
call_core ctx call old new (Some made) core takes at with = record {
  with = with;
  single_worker = record {
    out = subst (λ (s : State). IsSingleOut s core) (sym takes.2) at.single_worker.out;
    fetches = subst (λ (s : State). FetchesOnly s.begun.io core) (sym takes.2) at.single_worker.fetches;
    left = subst (λ (s : State). LeavesNothing s.phase s.known) (sym takes.2) refl;
    plans = subst (λ (s : State). HasTakenInPlan s.phase s core) (sym takes.2) tt;
  };
  loads = subst (λ (s : State). Loads s core) (sym takes.2) tt;
  traces = subst (λ (s : State). TracesFor s.phase s core) (sym takes.2) tt;
}

-- so does a worker beside others
pub call_work : (ctx : Ctx) (call : Call) (old new : State) (made : Option Step) (core : CoreState)
    → TakesCall ctx call old made new → IsAtWork old core → (GoesWith old core → GoesWith new core)
    → IsAtWork new core
call_work ctx call old new None core takes at with = subst (λ (s : State). IsAtWork s core) (sym takes.0) at
call_work ctx call old new (Some made) core takes at with = record {
  with = with at.with;
  plans = subst (λ (s : State). HasTakenInPlan s.phase s core) (sym takes.2) tt;
  loads = subst (λ (s : State). Loads s core) (sym takes.2) tt;
  traces = subst (λ (s : State). TracesAll s core) (sym takes.2)
      (none_traced old.begun.tx (at.with.sound.transaction ∙ ap has_transaction takes.1));
}
  where
    none_traced : (tx : Option ℕ) → is_some tx ≡ false → IfSome tx (λ n. TracesTaken core n [])
    none_traced None none = tt
    none_traced (Some n) some = absurd (true≢false some)

pub call_agrees : (o : Setting) (run_state : RunState) (number : ℕ) (credential : Credential) (moment : Moment)
    (call : Call) (ctx : Ctx) (store : StoreState) (old new : State) (made : Option Step)
    → TakesCall ctx call old made new
    → IsRunState o run_state store → IsRunState o (state_after run_state (event.Call number credential moment call) made) store
call_agrees o run_state number credential moment call ctx store old new None takes is = is
call_agrees o run_state number credential moment call ctx store old new (Some made) takes is =
    subst (λ (one : Step). IsRunState o (state_after run_state (event.Call number credential moment call) (Some one)) store)
    (sym takes.0) (record { log = is.log; begun = is.begun; refused = is.refused })

pub call_fetches : (ctx : Ctx) (call : Call) (old new : State) (made : Option Step)
    → TakesCall ctx call old made new → fetches_of new ≡ fetches_of old
call_fetches ctx call old new None takes = ap fetches_of takes.0
call_fetches ctx call old new (Some made) takes =
    ap fetches_of takes.2 ∙ sym (ap (λ (p : Phase). fetches_in p old.begun.io) takes.1)

-- ---- a read

pub read_core : (ok : Bool) (io : Fetch) (content : Content) (old : State) (core : CoreState)
    → old.phase ≡ Reading
    → old.begun.io ≡ Some io → IsCoreAtWork old core → GoesWith (with_read ok io content old) core
    → IsCoreAtWork (with_read ok io content old) core
read_core ok io content old core phase_is io_is at with = record {
  with = with;
  single_worker = record {
    out = at.single_worker.out;
    fetches = subst (λ (found : Option Fetch). FetchesOnly found core) io_is at.single_worker.fetches;
    left = subst (λ (p : Phase). LeavesNothing p old.known) phase_is at.single_worker.left;
    plans = subst (λ (p : Phase). HasTakenInPlan p old core) phase_is at.single_worker.plans;
  };
  loads = subst (λ (p : Phase). LoadsFor p old.begun.tx old.asked old.known core) phase_is at.loads;
  traces = subst (λ (p : Phase). TracesFor p old core) phase_is at.traces;
}

pub read_work : (ok : Bool) (io : Fetch) (content : Content) (old : State) (core : CoreState)
    → old.phase ≡ Reading → IsAtWork old core → (GoesWith old core → GoesWith (with_read ok io content old) core)
    → IsAtWork (with_read ok io content old) core
read_work ok io content old core phase_is at with = record {
  with = with at.with;
  plans = subst (λ (p : Phase). HasTakenInPlan p old core) phase_is at.plans;
  loads = subst (λ (p : Phase). LoadsFor p old.begun.tx old.asked old.known core) phase_is at.loads;
  traces = at.traces;
}

-- a block whose fetch is pending lies behind the log and within the image
pending_home : (core : CoreState) (block : BlockNo) → IsWellFormed core → IsPending core block
    → IsHomeOn core.log.blocks block
pending_home core block well_formed pending = by (present_of core.present block) refl pending
  where
    by : (found : Option Present) → present_of core.present block ≡ found → is_pending found ≡ true
        → IsHomeOn core.log.blocks block
    by None is none = absurd (true≢false (sym none))
    by (Some entry) is some =
        let (same, there) = found_by (is_of block) core.present entry is in
        subst (IsHomeOn core.log.blocks) (same_block entry.block block (eqb-true entry.block.0 block.0 same))
        (All-contains (IsPlaced core.log.blocks) core.present entry well_formed.placed there)

module _ (o : Setting) (base : Image) (store : StoreState) (after : Device) (ok : Bool) (io : Fetch)
    (content : Content) (old : State) (boot : ℕ) (first last : Tree) (entries : List Entry)
    (brings : store.device.uncertain io.block.0 ≡ false → ok ≡ true
    → content ≡ newest (current store.device io.block.0)) (contents : HasContents store.device)
    (run : IsRunningOver o base store (fetches_of old) boot first entries last) where
  abbrev brought : Fetch
  brought = record { block = io.block; content = content }

  is_at_home : ok ≡ true → IsFetchOver base store.core brought
  is_at_home well pending =
      let over = run.since.over in
      let home = pending_home store.core io.block over.well_formed pending in
      let low = home.0 in
      let there = read_home store.device base store.core.log store.logging store.installing
      io.block.0 over.agrees
      over.readable contents (home.1, inr (omega (arith, low)))
      (unlogged_block store.core io.block over.well_formed pending) in
      brings there.0 well ∙ there.1

  fetched : (well : Bool) → ok ≡ well → All (IsFetchOver base store.core)
      (fetches_in (Read well) (Some brought))
  fetched true is = All-cons (IsFetchOver base store.core) brought [] (is_at_home is)
      (All-nil (IsFetchOver base store.core))
  fetched false is = All-nil (IsFetchOver base store.core)

  pub read_runs : IsOpenSince base after store.core store.logging store.installing boot first entries last
      → IsRunningOver o base (record store { device = after })
      (fetches_of (with_read ok io content old)) boot first entries last
  read_runs since = record {
    since = since;
    position = run.position;
    newest = run.newest;
    blocks = run.blocks;
    inodes = run.inodes;
    stands = run.stands;
    fetched = fetched ok refl;
    placed = run.placed;
  }
