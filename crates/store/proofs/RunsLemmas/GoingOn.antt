-- A run goes on with each event: what was told, and what the worker and its core have then.
use Rattle.std.proofs.Common.{◌≡◌, ◌∙◌, refl, sym, ap, subst, ℕ, ◌+◌, Bool, true, false, List, map}
use Rattle.std.proofs.Common.{Option, Some, None, [], is_some, take, All, inl, inr}
use Rattle.std.specs.Prelude.{IfSome, IsSomeAnd}
use Rattle.std.proofs.lemmas.List.{append-nil}
use Rattle.std.proofs.lemmas.List.Elements.{All-weaker}
use Rattle.disk.specs.Crash.{Image}
use Rattle.disk.specs.Device.{current}
use Rattle.nfs_spec.specs.Model.Entry.{Entry}
use Rattle.nfs_spec.specs.Procedures.After.{after as leads_to}
use Rattle.nfs_spec.specs.Model.Tree.{Tree}
use Rattle.objects.specs.declared.addr.Addr.{Addr}
use Rattle.txn.specs.Claimed.{IsClaimedBy}
use Rattle.txn_law.specs.Commit.{IsReadBy}
use Rattle.txn_law.specs.Core.{CoreState}
use Rattle.txn_law.specs.Fetch.{Fetch}
use Rattle.txn_law.specs.Object.{ObjectBytes}
use Rattle.txn_law.specs.Holds.{is_written}
use Rattle.txn_law.specs.declared.hold.Hold.{Hold}
use Rattle.store_promise.proofs.RulesAre.{to_run_rule}
use Rattle.store_promise.specs.declared.events.Event.{Event}
use Rattle.store_promise.specs.declared.events.Event.TheVariants as event
use Rattle.store_promise.specs.declared.events.Step.{Step}
use Rattle.store_promise.specs.declared.events.Step.TheVariants as step
use Rattle.store_promise.specs.declared.transcript.Run.{Run}
use Rattle.store_promise.specs.DeviceCalls.{DoesStepBy}
use Rattle.store_promise.specs.Headline.{StandsAfter}
use Rattle.store_promise.specs.LogState.{CallState, LogState, idle, state_may_install, state_may_log, out, was_made}
use Rattle.store_promise.specs.NextCall.{IsNextOfInstalling, next_log_call}
use Rattle.store_promise.specs.Running.{GoesOnBy, IsFetchOver, IsLogStep, IsRunningOver, PreservesTransactions}
use Rattle.store_promise.specs.Running.{StoreState}
use Rattle.store_promise.specs.Running.{home_next, next_log_state}
use Rattle.store_promise.specs.Schedule.{IsNextOfInstaller, IsNextOfLog, IsStepOfInstIo, IsStepOfInstaller}
use Rattle.store_promise.specs.Schedule.{IsStepOfLog, IsStepOfLogIo, Setting, RunState, state_after}
use Rattle.store_promise.specs.EventSteps.{IsTaken}
use Rattle.store_promise.specs.Schedule.{worker_of}
use Rattle.store_promise.specs.Transcript.{Transcript, entries_of, entry_of, transcript_of}
use Rattle.store_law.specs.Runs.Tracing.{Traced, commits, ends_of, state_now, with_traced}
use Rattle.store_law.specs.Runs.Run.{Beginning, GoesOn, IsRun}
use Rattle.store_workers.specs.Single.{HasExclusive, HasOfCall, HasTaken, HasTakenInPlan}
use Rattle.store_workers.specs.Asked.{Asking}
use Rattle.store_workers.specs.Knowing.{Knowing}
use Rattle.store_promise.specs.declared.lock_requests.LockRequest.{LockRequest}
use Rattle.store_promise.specs.declared.lock_requests.LockRequest.TheVariants as lock_request
use Rattle.store.specs.Runs.AtWork.{FetchesFor, IsLockRequestLoaded, IsCoreAtWork, IsLoadedBut, IsLoadedFor, LoadsFor}
use Rattle.store.specs.Runs.AtWork.{TracesFor, fetches_of, has_taken}
use Rattle.store.specs.Runs.Going.{AreAtStage, IsGoing, IsNextEvent, TracesStep, may_make}
use Rattle.store.proofs.RunsLemmas.StayUnaffected.{AllWillStand, each_preserved, so_still}
use Rattle.store_workers.proofs.ShareCore.{share_by}
use Rattle.store_workers.proofs.TracesAll.{same_trace_list}
use Rattle.store_workers.specs.Unaffected.{TracesAll, TracesTaken, ShareCore}
use Rattle.store.specs.Runs.Running.{DoesItsStep}
use Rattle.store_workers.specs.Seen.{Seen, seen_in}
use Rattle.store_workers.specs.Worker.{GoesWith}
use Rattle.store_workers.specs.declared.workers.parts.Job.{Job}
use Rattle.store_workers.specs.declared.workers.parts.Phase.{Phase}
use Rattle.store_workers.specs.declared.workers.parts.Phase.TheVariants.{Idle, Called, Planning}
use Rattle.store_workers.specs.declared.workers.parts.Phase.TheVariants.{Reading, Read}
use Rattle.store_workers.specs.declared.workers.parts.Phase.TheVariants.{Refused, Again, Waiting}
use Rattle.store_workers.specs.declared.workers.parts.State.{State}

-- ---- any event

-- with what an event has told the run goes on
pub goes_on_with : (b : Beginning) (later : Setting) (home : Image) (next : Tree) (new : StoreState)
    (workers : List State) (before after : Run) (traced : Traced) (now : Event)
    → transcript_of after ≡ with_traced (transcript_of before) traced
    → IsRun b later (with_traced (transcript_of before) traced) home new [] next
    → state_now b.events (with_traced (transcript_of before) traced)
    ≡ state_after (state_now b.events (transcript_of before)) now traced.made
    → AllWillStand b home new.core (transcript_of before) now traced workers
    → IsGoing b new workers after
goes_on_with b later home next new workers before after traced now same run is_run_state stand = record {
  setting = later;
  base = home;
  last = next;
  run = subst (λ (t : Transcript). IsRun b later t home new [] next) (sym same) run;
  so_far = subst (λ (t : Transcript). AreAtStage b home new.core t workers) (sym same) (record {
    count = stand.count;
    each = λ number worker is. let will = stand.each number worker is in record {
      stands = will.stands;
      at_work = will.at_work;
      progress = ap (λ (t : RunState). t.workers number) is_run_state ∙ will.progress;
      fetched = will.fetched;
    };
    share = stand.share;
  });
}

-- the run goes on with what others have read
pub with_fetches : (o : Setting) (base : Image) (side : StoreState) (some others : List Fetch) (boot : ℕ)
    (first last : Tree) (entries : List Entry) → IsRunningOver o base side some boot first entries last
    → All (IsFetchOver base side.core) others → IsRunningOver o base side others boot first entries last
with_fetches o base side some others boot first last entries run fetched = record {
  since = run.since;
  position = run.position;
  newest = run.newest;
  blocks = run.blocks;
  inodes = run.inodes;
  stands = run.stands;
  fetched = fetched;
  placed = run.placed;
}

-- an event that tells its step alone
abbrev pub only_step : Option Step → Traced
only_step made = record { entry = None; answer = None; made = made }

pub tells_step : (made : Option Step) (before after : Run) → TracesStep made before after
    → transcript_of after ≡ with_traced (transcript_of before) (only_step made)
tells_step made before after traces = λ i. record {
  boot = traces.boot i;
  history = (traces.history ∙ sym (append-nil before.history.items)) i;
  answers = (traces.answers ∙ sym (append-nil before.answers.items)) i;
  steps = traces.steps i;
}

pub same_entries : (t : Transcript) (made : Option Step)
    → entries_of (with_traced t (only_step made)) ≡ entries_of t
same_entries t made = ap (map entry_of) (append-nil t.history)

-- ---- the worker while the log's side goes on

map_some : {X : Type 0} (P Q : X → Type 0) (found : Option X) → ((x : X) → P x → Q x) → IsSomeAnd found P
    → IsSomeAnd found Q
map_some P Q None go has = absurd has
map_some P Q (Some x) go has = go x has

module _ (old new : CoreState) (is_preserved : PreservesTransactions old new)
    (blocks : new.log.blocks ≡ old.log.blocks) where
  same_call : (job : Job) (tx : ℕ) (seen : Seen) → HasOfCall tx old seen → HasOfCall tx new seen
  same_call job tx seen has = record {
    newest = has.newest;
    blocks = has.blocks ∙ sym blocks;
    inodes = has.inodes ∙ sym is_preserved.inodes;
    claims = has.claims;
    claimed = All-weaker (IsClaimedBy old tx) (IsClaimedBy new tx)
        (λ block is addr whole. ap (λ (o : Option Hold). is_written o) (is_preserved.taken tx addr) ∙ is addr whole)
        seen.claims has.claimed;
    were = has.were;
    read = All-weaker (IsReadBy old tx) (IsReadBy new tx) (is_preserved.reads tx) seen.objects has.read;
    exclusives = All-weaker (HasExclusive old tx) (HasExclusive new tx)
        (λ addr is. (is.0, is_preserved.taken tx addr ∙ is.1, is.2)) seen.exclusives has.exclusives;
    asked = λ addr hold is. has.asked addr hold (sym (is_preserved.taken tx addr) ∙ is);
  }

  same_taken : (worker : State) → HasTaken worker old → HasTaken worker new
  same_taken worker has =
      map_some (λ (job : Job). IsSomeAnd worker.begun.tx (λ tx.
      IsSomeAnd (seen_in worker.work.planner) (λ seen. HasOfCall tx old seen)))
      (λ (job : Job). IsSomeAnd worker.begun.tx (λ tx.
      IsSomeAnd (seen_in worker.work.planner) (λ seen. HasOfCall tx new seen)))
      worker.work.job (λ job.
      map_some (λ (tx : ℕ). IsSomeAnd (seen_in worker.work.planner) (λ seen. HasOfCall tx old seen))
      (λ (tx : ℕ). IsSomeAnd (seen_in worker.work.planner) (λ seen. HasOfCall tx new seen))
      worker.begun.tx (λ tx.
      map_some (HasOfCall tx old) (HasOfCall tx new) (seen_in worker.work.planner) (same_call job tx))) has

  same_plans : (phase : Phase) (worker : State) → HasTakenInPlan phase worker old → HasTakenInPlan phase worker new
  same_plans Idle worker has = tt
  same_plans Called worker has = tt
  same_plans Again worker has = tt
  same_plans Planning worker has = same_taken worker has
  same_plans Reading worker has = same_taken worker has
  same_plans (Read ok) worker has = same_taken worker has
  same_plans (Refused why) worker has = tt
  same_plans (Waiting place) worker has = tt

  still_taken : (tx : ℕ) (addr : Addr) → has_taken old tx addr ≡ true → has_taken new tx addr ≡ true
  still_taken tx addr has = ap is_some (is_preserved.taken tx addr) ∙ has

  still_loaded : (tx : ℕ) (addr : Addr) → IsLoadedFor old tx addr → IsLoadedFor new tx addr
  still_loaded tx addr is = record {
    taken = still_taken tx addr is.taken;
    content = is.content;
    there = is_preserved.loaded tx addr is.content is.taken is.there;
  }

  one_loaded : (tx : ℕ) (one : LockRequest) → IsLockRequestLoaded old tx one → IsLockRequestLoaded new tx one
  one_loaded tx (lock_request.Object addr mode) is = still_loaded tx addr is
  one_loaded tx (lock_request.Claim block) is = tt

  loaded_but : (fetch_addr : Option Addr) (tx : ℕ) (one : LockRequest) → IsLoadedBut fetch_addr old tx one → IsLoadedBut fetch_addr new tx one
  loaded_but fetch_addr tx (lock_request.Object addr mode) (inl is) = inl (still_loaded tx addr is)
  loaded_but fetch_addr tx (lock_request.Object addr mode) (inr is) = inr is
  loaded_but fetch_addr tx (lock_request.Claim block) is = tt

  same_fetches : (tx : Option ℕ) (asked : Asking) (knowing : Knowing) → FetchesFor tx asked knowing old
      → FetchesFor tx asked knowing new
  same_fetches tx asked knowing has =
      map_some (λ (number : ℕ). All (IsLoadedBut asked.fetch_addr old number) knowing.taken
      × IsSomeAnd asked.fetch_addr (λ addr. has_taken old number addr ≡ true))
      (λ (number : ℕ). All (IsLoadedBut asked.fetch_addr new number) knowing.taken
      × IsSomeAnd asked.fetch_addr (λ addr. has_taken new number addr ≡ true)) tx (λ number both. (
        All-weaker (IsLoadedBut asked.fetch_addr old number) (IsLoadedBut asked.fetch_addr new number)
            (loaded_but asked.fetch_addr number) knowing.taken both.0,
        map_some (λ (addr : Addr). has_taken old number addr ≡ true)
            (λ (addr : Addr). has_taken new number addr ≡ true) asked.fetch_addr (still_taken number) both.1,
      )) has

  same_loads : (phase : Phase) (tx : Option ℕ) (asked : Asking) (knowing : Knowing)
      → LoadsFor phase tx asked knowing old → LoadsFor phase tx asked knowing new
  same_loads Idle tx asked knowing has = tt
  same_loads Called tx asked knowing has = tt
  same_loads Planning tx asked knowing has =
      map_some (λ (number : ℕ). All (IsLockRequestLoaded old number) knowing.taken)
      (λ (number : ℕ). All (IsLockRequestLoaded new number) knowing.taken)
      tx (λ number. All-weaker (IsLockRequestLoaded old number) (IsLockRequestLoaded new number) (one_loaded number) knowing.taken)
      has
  same_loads Reading tx asked knowing has = same_fetches tx asked knowing has
  same_loads (Read ok) tx asked knowing has = same_fetches tx asked knowing has
  same_loads (Refused why) tx asked knowing has = tt
  same_loads Again tx asked knowing has = tt
  same_loads (Waiting place) tx asked knowing has = tt

  same_traced : (worker : State) → TracesAll worker old → TracesAll worker new
  same_traced worker traced = by worker.begun.tx traced
    where
      by : (found : Option ℕ) → IfSome found (λ tx. TracesTaken old tx worker.known.taken)
          → IfSome found (λ tx. TracesTaken new tx worker.known.taken)
      by None traced = tt
      by (Some tx) traced = same_trace_list old new tx worker.known.taken (is_preserved.taken tx) traced

  same_traces_for : (phase : Phase) (worker : State) → TracesFor phase worker old → TracesFor phase worker new
  same_traces_for Idle worker traced = tt
  same_traces_for Called worker traced = tt
  same_traces_for Planning worker traced = same_traced worker traced
  same_traces_for Reading worker traced = same_traced worker traced
  same_traces_for (Read ok) worker traced = same_traced worker traced
  same_traces_for (Refused why) worker traced = tt
  same_traces_for Again worker traced = tt
  same_traces_for (Waiting place) worker traced = tt

  pub still_at_work : (worker : State) → GoesWith worker new → IsCoreAtWork worker old → IsCoreAtWork worker new
  still_at_work worker with at_work = record {
    with = with;
    single_worker = record {
      out = is_preserved.out ∙ at_work.single_worker.out;
      fetches = λ block. is_preserved.fetches block ∙ at_work.single_worker.fetches block;
      left = at_work.single_worker.left;
      plans = same_plans worker.phase worker at_work.single_worker.plans;
    };
    loads = same_loads worker.phase worker.begun.tx worker.asked worker.known at_work.loads;
    traces = same_traces_for worker.phase worker at_work.traces;
  }

-- ---- a step of the log's side commits nothing and begins nothing

pub record LeavesWorkersUnchanged (made : Option Step) : Type 0 where
  pub no_commit : commits made ≡ false
  pub begun : (run_state : RunState) (now : Event) → (state_after run_state now made).begun ≡ run_state.begun
  pub refused : (run_state : RunState) (now : Event) → (state_after run_state now made).refused ≡ run_state.refused

no_step : LeavesWorkersUnchanged None
no_step = record { no_commit = refl; begun = λ run_state now. refl; refused = λ run_state now. refl }

is_none : (made : Option Step) → made ≡ None → LeavesWorkersUnchanged made
is_none made is = subst LeavesWorkersUnchanged (sym is) no_step

log_next : (may : Bool) (made : Option Step) (o : Setting) (log : LogState)
    → IsNextOfLog may (next_log_call o.position log) made → LeavesWorkersUnchanged made
log_next true (Some (step.LogNext call)) o log is = record { no_commit = refl; begun = λ run_state now. refl; refused = λ run_state now. refl }
log_next true None o log is = absurd is
log_next true (Some _) o log is = absurd is
log_next false made o log is = is_none made is

of_log : (call : CallState) (made : Option Step) (o : Setting) (log : LogState) → IsStepOfLog o log call made
    → LeavesWorkersUnchanged made
of_log idle made o log is = log_next (state_may_log log) made o log is
of_log (out call) made o log is = is_none made is
of_log (was_made call ok) made o log is =
    subst LeavesWorkersUnchanged (sym is) (record { no_commit = refl; begun = λ run_state now. refl; refused = λ run_state now. refl })

inst_next : (may : Bool) (made : Option Step) (o : Setting) (log : LogState)
    → IsNextOfInstaller may (IsNextOfInstalling o.geometry.blocks log) made → LeavesWorkersUnchanged made
inst_next true (Some (step.InstNext call)) o log is = record { no_commit = refl; begun = λ run_state now. refl; refused = λ run_state now. refl }
inst_next true None o log is = absurd is
inst_next true (Some _) o log is = absurd is
inst_next false made o log is = is_none made is

of_installer : (call : CallState) (made : Option Step) (o : Setting) (log : LogState)
    → IsStepOfInstaller o log call made → LeavesWorkersUnchanged made
of_installer idle made o log is = inst_next (state_may_install log) made o log is
of_installer (out call) made o log is = is_none made is
of_installer (was_made call ok) made o log is =
    subst LeavesWorkersUnchanged (sym is) (record { no_commit = refl; begun = λ run_state now. refl; refused = λ run_state now. refl })

of_log_io : (call : CallState) (made : Option Step) → IsStepOfLogIo call made → LeavesWorkersUnchanged made
of_log_io (out call) (Some (step.LogIo ok)) is = record { no_commit = refl; begun = λ run_state now. refl; refused = λ run_state now. refl }
of_log_io (out call) None is = absurd is
of_log_io (out call) (Some _) is = absurd is
of_log_io idle made is = is_none made is
of_log_io (was_made call ok) made is = is_none made is

of_inst_io : (call : CallState) (made : Option Step) → IsStepOfInstIo call made → LeavesWorkersUnchanged made
of_inst_io (out call) (Some (step.InstIo ok)) is = record { no_commit = refl; begun = λ run_state now. refl; refused = λ run_state now. refl }
of_inst_io (out call) None is = absurd is
of_inst_io (out call) (Some _) is = absurd is
of_inst_io idle made is = is_none made is
of_inst_io (was_made call ok) made is = is_none made is

workers_unchanged : (now : Event) (o : Setting) (log : LogState) (made : Option Step) → may_make now o log made
    → LeavesWorkersUnchanged made
workers_unchanged event.Log o log made may = of_log log.log_call made o log may
workers_unchanged event.LogIo o log made may = of_log_io log.log_call made may
workers_unchanged event.Install o log made may = of_installer log.inst_call made o log may
workers_unchanged event.InstIo o log made may = of_inst_io log.inst_call made may
workers_unchanged (event.Call worker credential moment call) o log made may = absurd may
workers_unchanged (event.Work worker) o log made may = absurd may
workers_unchanged (event.Read worker) o log made may = absurd may

-- such an event is of no worker, and its step is one that may be made
pub record IsOfLogRole (o : Setting) (workers : ℕ) (run_state : RunState) (now : Event)
    (made : Option Step) : Type 0 where
  pub taken : IsTaken o workers run_state now made
  pub of_none : worker_of now ≡ None
  pub workers_stay : (worker : ℕ) → (state_after run_state now made).workers worker ≡ run_state.workers worker

log_workers : (run_state : RunState) (made : Option Step) (worker : ℕ)
    → (state_after run_state event.Log made).workers worker ≡ run_state.workers worker
log_workers run_state None worker = refl
log_workers run_state (Some one) worker = refl

log_io_workers : (run_state : RunState) (made : Option Step) (worker : ℕ)
    → (state_after run_state event.LogIo made).workers worker ≡ run_state.workers worker
log_io_workers run_state None worker = refl
log_io_workers run_state (Some one) worker = refl

install_workers : (run_state : RunState) (made : Option Step) (worker : ℕ)
    → (state_after run_state event.Install made).workers worker ≡ run_state.workers worker
install_workers run_state None worker = refl
install_workers run_state (Some one) worker = refl

inst_io_workers : (run_state : RunState) (made : Option Step) (worker : ℕ)
    → (state_after run_state event.InstIo made).workers worker ≡ run_state.workers worker
inst_io_workers run_state None worker = refl
inst_io_workers run_state (Some one) worker = refl

pub of_log_role : (o : Setting) (workers : ℕ) (run_state : RunState) (now : Event) (made : Option Step)
    → may_make now o run_state.log made → IsOfLogRole o workers run_state now made
of_log_role o workers run_state event.Log made may = record {
  taken = record { own = λ one. to_run_rule o run_state _ made may; others = λ none. absurd (none tt) };
  of_none = refl;
  workers_stay = log_workers run_state made;
}
of_log_role o workers run_state event.LogIo made may = record {
  taken = record { own = λ one. to_run_rule o run_state _ made may; others = λ none. absurd (none tt) };
  of_none = refl;
  workers_stay = log_io_workers run_state made;
}
of_log_role o workers run_state event.Install made may = record {
  taken = record { own = λ one. to_run_rule o run_state _ made may; others = λ none. absurd (none tt) };
  of_none = refl;
  workers_stay = install_workers run_state made;
}
of_log_role o workers run_state event.InstIo made may = record {
  taken = record { own = λ one. to_run_rule o run_state _ made may; others = λ none. absurd (none tt) };
  of_none = refl;
  workers_stay = inst_io_workers run_state made;
}
of_log_role o workers run_state (event.Call worker credential moment call) made may = absurd may
of_log_role o workers run_state (event.Work worker) made may = absurd may
of_log_role o workers run_state (event.Read worker) made may = absurd may

log_state_follows : (run_state : RunState) (now : Event) (made : Option Step)
    → (state_after run_state now made).log ≡ next_log_state run_state.log made
log_state_follows run_state now None = refl
log_state_follows run_state now (Some one) = refl

-- ---- an event of the log's side

module _ (b : Beginning) (now : Event) (old new : StoreState) (made : Option Step) (workers : List State)
    (before after : Run)
    (is_next : IsNextEvent b now before) (is : IsLogStep (may_make now) old made new)
    (does : DoesItsStep old made new)
    (traces : TracesStep made before after) (going : IsGoing b old workers before) where
  abbrev pub t : Transcript
  t = transcript_of before

  abbrev o : Setting
  o = going.setting

  abbrev run_state : RunState
  run_state = state_now b.events t

  -- so it goes on with what anyone has read
  went_with : (fetches : List Fetch) → All (IsFetchOver going.base old.core) fetches
      → GoesOnBy (may_make now) o going.base old made new fetches (b.first + 1) b.tree (entries_of t) going.last
  went_with fetches fetched = is.runs o going.base fetches (b.first + 1) b.tree going.last (entries_of t)
      (with_fetches o going.base old [] fetches (b.first + 1) b.tree going.last (entries_of t) going.run.running
      fetched)

  went : GoesOnBy (may_make now) o going.base old made new [] (b.first + 1) b.tree (entries_of t) going.last
  went = went_with [] going.run.running.fetched

  may : may_make now o run_state.log made
  may = subst (λ (log : LogState). may_make now o log made) (sym going.run.is_run_state.log) went.may

  abbrev pub home : Image
  home = home_next going.base old.core.log made

  of_side : IsOfLogRole o b.workers run_state now made
  of_side = of_log_role o b.workers run_state now made may

  log_unchanged : LeavesWorkersUnchanged made
  log_unchanged = workers_unchanged now o run_state.log made may

  no_answer : (worker : Option ℕ) → worker ≡ None
      → ends_of run_state (state_after run_state now made) worker ≡ false
  no_answer worker none = ap (λ (w : Option ℕ). ends_of run_state (state_after run_state now made) w) none

  pub goes : GoesOn b o t old (only_step made) o home new [] going.last
  goes = record {
    event = now;
    next = is_next.next;
    taken = of_side.taken;
    traces = record { entry = log_unchanged.no_commit; answer = no_answer (worker_of now) of_side.of_none };
    device = is.device;
    does = subst (λ (log : LogState). DoesStepBy log made (current old.device) (current new.device))
        (sym going.run.is_run_state.log) does;
    same = refl;
    blocks = λ place within. refl;
    running = subst (λ (es : List Entry). IsRunningOver o home new [] (b.first + 1) b.tree es going.last)
        (sym (same_entries t made)) went.running;
    is_run_state = record {
      log = log_state_follows run_state now made ∙ ap (λ (log : LogState). next_log_state log made) going.run.is_run_state.log
          ∙ sym went.log_follows;
      begun = log_unchanged.begun run_state now ∙ going.run.is_run_state.begun ∙ sym is.core.begun;
      refused = log_unchanged.refused run_state now ∙ going.run.is_run_state.refused ∙ sym is.core.refused;
    };
    leads = subst (λ (es : List Entry). leads_to b.tree es going.last) (sym (same_entries t made))
        going.run.leads;
    files = λ place. subst (λ (es : List Entry). StandsAfter o.geometry b.tree (take place es) (o.blocks place))
        (sym (same_entries t made)) (going.run.files place);
    changes = tt;
  }

  share_then : ShareCore new.core workers
  share_then = share_by old.core new.core workers is.core.out is.core.begun is.core.fetches going.so_far.share

  stand : AllWillStand b home new.core t now (only_step made) workers
  stand = record {
    count = going.so_far.count;
    each = λ number worker is_it. let so = going.so_far.each number worker is_it in
        so_still b going.base home old.core new.core t now (only_step made) number worker
        (sym went.running.blocks ∙ going.run.running.blocks) is.core.inodes
        (λ tx own. each_preserved old.core new.core is.core tx) (of_side.workers_stay number)
        (went_with (fetches_of worker) so.fetched).running.fetched so;
    share = share_then;
  }

  pub goes_on : IsRun b o (with_traced t (only_step made)) home new [] going.last
      → state_now b.events (with_traced t (only_step made)) ≡ state_after run_state now made
      → IsGoing b new workers after
  goes_on run state_agrees_then = goes_on_with b o home going.last new workers before after (only_step made) now
      (tells_step made before after traces) run state_agrees_then stand
