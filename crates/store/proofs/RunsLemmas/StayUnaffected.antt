-- A worker of a run stands as it did, with all that it has, while another of them or the log goes on.
use Rattle.std.proofs.Common.{◌≡◌, ◌∙◌, ◌+◌, ◌<◌, refl, sym, ap, subst, ℕ, zero, suc, Bool, true, false, nat_eq}
use Rattle.std.proofs.Common.{inl, inr, Option, Some, None, is_some, List, [], ◌∷◌, ◌++◌, All, map, length, slice_get}
use Rattle.std.specs.Prelude.{IfSome, IsSomeAnd}
use Rattle.std.specs.List.{list_any}
use Rattle.std.proofs.Common.{if◌then◌else◌, ne_eqb}
use Rattle.std.proofs.lemmas.Bool.{cases_eq, eq-eqb}
use Rattle.std.proofs.lemmas.List.{map-append}
use Rattle.std.proofs.lemmas.Option.{same_Some}
use Rattle.std.proofs.lemmas.List.Elements.{All-cons, All-head, All-nil, All-weaker}
use Rattle.disk.specs.Crash.{Image}
use Rattle.layout.specs.Geometry.{IsLawful}
use Rattle.nfs_spec.specs.Model.Entry.{Entry}
use Rattle.objects.specs.declared.addr.Addr.{Addr}
use Rattle.txn_law.specs.Core.{CoreState, IsOut}
use Rattle.txn_law.specs.Fetch.{Fetch}
use Rattle.txn_law.specs.Others.{PreservesTaken}
use Rattle.circ.specs.declared.log.outcomes.Seq.{Seq}
use Rattle.store_promise.specs.Running.{IsFetchOver, PreservesTransactions}
use Rattle.store_promise.specs.Progress.{Progress}
use Rattle.store_promise.specs.Schedule.{state_after, with_worker}
use Rattle.store_promise.specs.Transcript.{Transcript, entries_of, entry_of}
use Rattle.store_promise.specs.declared.events.Event.{Event}
use Rattle.store_promise.specs.declared.lock_requests.LockRequest.{LockRequest}
use Rattle.store_promise.specs.declared.lock_requests.LockRequest.TheVariants as lock_request
use Rattle.store_law.specs.Runs.Tracing.{Traced, listed, progress_now, state_now, with_traced}
use Rattle.store_law.specs.Runs.Run.{Beginning}
use Rattle.store.specs.Runs.AtWork.{FetchesFor, IsLockRequestLoaded, IsAtWork, IsLoadedBut, IsLoadedFor, LoadsFor}
use Rattle.store.specs.Runs.AtWork.{fetches_in, fetches_of, has_taken}
use Rattle.store.specs.Runs.Going.{AreAtStage, IsAtStage}
use Rattle.store_workers.proofs.TracesAll.{same_trace_list}
use Rattle.store_workers.proofs.ShareCore.{share_still}
use Rattle.store_workers.proofs.StaysSingle.{moved, same_taken}
use Rattle.store_workers.specs.Single.{HasTaken, HasTakenInPlan}
use Rattle.store_workers.specs.Unaffected.{IsFetchedBy, IsOneOf, LeavesOthers, TracesTaken, Replaces, ShareCore}
use Rattle.store_workers.specs.Stages.{IsWorkerAt, StandsAt, WaitsFor, entry_at, progress_of}
use Rattle.store_workers.specs.WorkerSteps.{WorkerAndCore}
use Rattle.store_workers.specs.declared.workers.parts.Phase.{Phase}
use Rattle.store_workers.specs.declared.workers.parts.Phase.TheVariants.{Idle, Called, Planning}
use Rattle.store_workers.specs.declared.workers.parts.Phase.TheVariants.{Reading, Read}
use Rattle.store_workers.specs.declared.workers.parts.Phase.TheVariants.{Refused, Again, Waiting}
use Rattle.store_workers.specs.declared.workers.parts.State.{State}

-- what the log's side keeps of all transactions, it keeps of each
pub each_preserved : (old new : CoreState) → PreservesTransactions old new → (tx : ℕ) → PreservesTaken old new tx
each_preserved old new is_preserved tx = record {
  out = λ is. ap (λ (out : List ℕ). list_any (λ other. nat_eq other tx) out) is_preserved.out ∙ is;
  taken = is_preserved.taken tx;
  reads = is_preserved.reads tx;
  loaded = λ addr content some there. (content, is_preserved.loaded tx addr content some there);
}

-- a step that changes nothing of the core keeps all
pub same_preserved : (core : CoreState) (tx : ℕ) → PreservesTaken core core tx
same_preserved core tx = record {
  out = λ is. is;
  taken = λ addr. refl;
  reads = λ object is. is;
  loaded = λ addr content some there. (content, there);
}

-- ---- with the core

module _ (old new : CoreState) (worker : State) (blocks : new.log.blocks ≡ old.log.blocks)
    (inodes : new.inodes ≡ old.inodes)
    (is_preserved : (tx : ℕ) → worker.begun.tx ≡ Some tx → PreservesTaken old new tx) where
  of_tx : (P Q : ℕ → Type 0) → ((tx : ℕ) → PreservesTaken old new tx → P tx → Q tx) → IfSome worker.begun.tx P
      → IfSome worker.begun.tx Q
  of_tx P Q go has = by worker.begun.tx refl has
    where
      by : (found : Option ℕ) → worker.begun.tx ≡ found → IfSome found P → IfSome found Q
      by None is has = tt
      by (Some tx) is has = go tx (is_preserved tx is) has

  some_tx : (P Q : ℕ → Type 0) → ((tx : ℕ) → PreservesTaken old new tx → P tx → Q tx) → IsSomeAnd worker.begun.tx P
      → IsSomeAnd worker.begun.tx Q
  some_tx P Q go has = by worker.begun.tx refl has
    where
      by : (found : Option ℕ) → worker.begun.tx ≡ found → IsSomeAnd found P → IsSomeAnd found Q
      by None is has = absurd has
      by (Some tx) is has = go tx (is_preserved tx is) has

  still_taken : HasTaken worker old → HasTaken worker new
  still_taken has = same_taken worker worker old new refl refl refl
      (λ job tx seen tx_is of_call. moved tx seen old new blocks inodes (is_preserved tx tx_is).taken (is_preserved tx tx_is).reads
      of_call) has

  still_plans : (phase : Phase) → HasTakenInPlan phase worker old → HasTakenInPlan phase worker new
  still_plans Idle plans = tt
  still_plans Called plans = tt
  still_plans Again plans = tt
  still_plans Planning plans = still_taken plans
  still_plans Reading plans = still_taken plans
  still_plans (Read ok) plans = still_taken plans
  still_plans (Refused why) plans = tt
  still_plans (Waiting place) plans = tt

  has_still : (tx : ℕ) → PreservesTaken old new tx → (addr : Addr) → has_taken old tx addr ≡ true
      → has_taken new tx addr ≡ true
  has_still tx preserves addr has = ap is_some (preserves.taken addr) ∙ has

  loaded : (tx : ℕ) → PreservesTaken old new tx → (addr : Addr) → IsLoadedFor old tx addr → IsLoadedFor new tx addr
  loaded tx preserves addr is =
      let now = preserves.loaded addr is.content is.taken is.there in record {
        taken = has_still tx preserves addr is.taken;
        content = now.0;
        there = now.1;
      }

  one_loaded : (tx : ℕ) → PreservesTaken old new tx → (one : LockRequest) → IsLockRequestLoaded old tx one → IsLockRequestLoaded new tx one
  one_loaded tx preserves (lock_request.Object addr mode) is = loaded tx preserves addr is
  one_loaded tx preserves (lock_request.Claim block) is = tt

  loaded_but : (fetch_addr : Option Addr) (tx : ℕ) → PreservesTaken old new tx → (one : LockRequest) → IsLoadedBut fetch_addr old tx one
      → IsLoadedBut fetch_addr new tx one
  loaded_but fetch_addr tx preserves (lock_request.Object addr mode) (inl is) = inl (loaded tx preserves addr is)
  loaded_but fetch_addr tx preserves (lock_request.Object addr mode) (inr is) = inr is
  loaded_but fetch_addr tx preserves (lock_request.Claim block) is = tt

  fetches_still : FetchesFor worker.begun.tx worker.asked worker.known old
      → FetchesFor worker.begun.tx worker.asked worker.known new
  fetches_still has = some_tx
      (λ tx. All (IsLoadedBut worker.asked.fetch_addr old tx) worker.known.taken
      × IsSomeAnd worker.asked.fetch_addr (λ addr. has_taken old tx addr ≡ true))
      (λ tx. All (IsLoadedBut worker.asked.fetch_addr new tx) worker.known.taken
      × IsSomeAnd worker.asked.fetch_addr (λ addr. has_taken new tx addr ≡ true))
      (λ tx preserves both. (
        All-weaker (IsLoadedBut worker.asked.fetch_addr old tx) (IsLoadedBut worker.asked.fetch_addr new tx)
            (loaded_but worker.asked.fetch_addr tx preserves) worker.known.taken both.0,
        fetch_addr_still tx preserves worker.asked.fetch_addr both.1,
      )) has
    where
      fetch_addr_still : (tx : ℕ) → PreservesTaken old new tx → (fetch_addr : Option Addr)
          → IsSomeAnd fetch_addr (λ addr. has_taken old tx addr ≡ true)
          → IsSomeAnd fetch_addr (λ addr. has_taken new tx addr ≡ true)
      fetch_addr_still tx preserves None has = absurd has
      fetch_addr_still tx preserves (Some addr) has = has_still tx preserves addr has

  loads_still : (phase : Phase) → LoadsFor phase worker.begun.tx worker.asked worker.known old
      → LoadsFor phase worker.begun.tx worker.asked worker.known new
  loads_still Idle loads = tt
  loads_still Called loads = tt
  loads_still Planning loads = some_tx (λ tx. All (IsLockRequestLoaded old tx) worker.known.taken)
      (λ tx. All (IsLockRequestLoaded new tx) worker.known.taken)
      (λ tx preserves all. All-weaker (IsLockRequestLoaded old tx) (IsLockRequestLoaded new tx) (one_loaded tx preserves) worker.known.taken
      all) loads
  loads_still Reading loads = fetches_still loads
  loads_still (Read ok) loads = fetches_still loads
  loads_still (Refused why) loads = tt
  loads_still Again loads = tt
  loads_still (Waiting place) loads = tt

  pub work_still : IsAtWork worker old → IsAtWork worker new
  work_still at = record {
    with = record {
      sound = at.with.sound;
      core_of = record {
        out = of_tx (IsOut old) (IsOut new) (λ tx preserves is. preserves.out is) at.with.core_of.out;
        reads = subst (λ (n : ℕ). IfSome worker.begun.io (λ io. io.block.0 < n)) (sym blocks) at.with.core_of.reads;
        lawful = subst (λ (n : ℕ). IsLawful n new.inodes) (sym blocks)
            (subst (λ (n : ℕ). IsLawful old.log.blocks n) (sym inodes) at.with.core_of.lawful);
      };
    };
    plans = still_plans worker.phase at.plans;
    loads = loads_still worker.phase at.loads;
    traces = of_tx (λ tx. TracesTaken old tx worker.known.taken) (λ tx. TracesTaken new tx worker.known.taken)
        (λ tx preserves traces. same_trace_list old new tx worker.known.taken preserves.taken traces) at.traces;
  }

-- ---- with more entries

entry_before : (entries more : List Entry) (index : ℕ) (entry : Entry) → slice_get entries index ≡ Some entry
    → slice_get (entries ++ more) index ≡ Some entry
entry_before [] more index entry is = cc
entry_before (first ∷ entries) more zero entry is = is
entry_before (first ∷ entries) more (suc index) entry is = entry_before entries more index entry is

entry_still : (entries more : List Entry) (place : ℕ) (entry : Entry) → entry_at entries place ≡ Some entry
    → entry_at (entries ++ more) place ≡ Some entry
entry_still entries more zero entry is = cc
entry_still entries more (suc index) entry is = entry_before entries more index entry is

pub stands_still : (boot : ℕ) (entries more : List Entry) (worker : State) → IsWorkerAt boot entries worker
    → IsWorkerAt boot (entries ++ more) worker
stands_still boot entries more worker at = record {
  entry = at.entry;
  answer = at.answer;
  stands = by worker.phase at.stands;
}
  where
    waits : (place : Seq) → WaitsFor entries place worker → WaitsFor (entries ++ more) place worker
    waits place is = record {
      job = is.job;
      job_is = is.job_is;
      entry = is.entry;
      entry_is = entry_still entries more place.0 is.entry is.entry_is;
      call = is.call;
      stable = is.stable;
      reply = is.reply;
      broken_reply = is.broken_reply;
    }

    by : (phase : Phase) → StandsAt boot entries phase worker → StandsAt boot (entries ++ more) phase worker
    by Idle stands = tt
    by Called stands = stands
    by Planning stands = stands
    by Reading stands = stands
    by (Read ok) stands = stands
    by (Refused why) stands = stands
    by Again stands = stands
    by (Waiting place) stands = waits place stands

-- ---- what was read

-- what was read of a block that is pending is what is at home, whatever the core does then
pub fetched_still : (base : Image) (old new : CoreState) (worker : State)
    → IsFetchedBy old worker.begun.io → All (IsFetchOver base old) (fetches_of worker)
    → All (IsFetchOver base new) (fetches_of worker)
fetched_still base old new worker pending fetched = by worker.phase worker.begun.io pending fetched
  where
    by : (phase : Phase) (io : Option Fetch) → IsFetchedBy old io → All (IsFetchOver base old) (fetches_in phase io)
        → All (IsFetchOver base new) (fetches_in phase io)
    by (Read true) (Some io) pending fetched =
        All-cons (IsFetchOver base new) io [] (λ now. All-head (IsFetchOver base old) io [] fetched pending)
        (All-nil (IsFetchOver base new))
    by (Read true) None pending fetched = All-nil (IsFetchOver base new)
    by (Read false) io pending fetched = All-nil (IsFetchOver base new)
    by Idle io pending fetched = All-nil (IsFetchOver base new)
    by Called io pending fetched = All-nil (IsFetchOver base new)
    by Planning io pending fetched = All-nil (IsFetchOver base new)
    by Reading io pending fetched = All-nil (IsFetchOver base new)
    by (Refused why) io pending fetched = All-nil (IsFetchOver base new)
    by Again io pending fetched = All-nil (IsFetchOver base new)
    by (Waiting place) io pending fetched = All-nil (IsFetchOver base new)

-- ---- all of it

-- how the worker of a number stands with an event, of which this is noted
pub record WillStand (b : Beginning) (home : Image) (core : CoreState) (t : Transcript) (now : Event) (traced : Traced)
    (number : ℕ) (worker : State) : Type 0 where
  pub stands : IsWorkerAt (b.first + 1) (entries_of (with_traced t traced)) worker
  pub at_work : IsAtWork worker core
  pub progress : (state_after (state_now b.events t) now traced.made).workers number ≡ progress_of worker
  pub fetched : All (IsFetchOver home core) (fetches_of worker)

pub record AllWillStand (b : Beginning) (home : Image) (core : CoreState) (t : Transcript) (now : Event)
    (traced : Traced) (workers : List State) : Type 0 where
  pub count : length workers ≡ b.workers
  pub each : (number : ℕ) (worker : State) → IsOneOf workers number worker
      → WillStand b home core t now traced number worker
  pub share : ShareCore core workers

-- one of which nothing is told stands as it did
pub so_still : (b : Beginning) (base home : Image) (old new : CoreState) (t : Transcript) (now : Event)
    (traced : Traced) (number : ℕ) (worker : State) → new.log.blocks ≡ old.log.blocks → new.inodes ≡ old.inodes
    → ((tx : ℕ) → worker.begun.tx ≡ Some tx → PreservesTaken old new tx)
    → (state_after (state_now b.events t) now traced.made).workers number ≡ progress_now b.events t number
    → All (IsFetchOver home new) (fetches_of worker)
    → IsAtStage b base old t number worker → WillStand b home new t now traced number worker
so_still b base home old new t now traced number worker blocks inodes is_preserved progress fetched so = record {
  stands = subst (λ (es : List Entry). IsWorkerAt (b.first + 1) es worker)
      (sym (map-append entry_of t.history (listed traced.entry)))
      (stands_still (b.first + 1) (entries_of t) (map entry_of (listed traced.entry)) worker so.stands);
  at_work = work_still old new worker blocks inodes is_preserved so.at_work;
  progress = progress ∙ so.progress;
  fetched = fetched;
}

-- ---- one of them goes on

-- how far others are stays
pub others_stay : (workers : ℕ → Progress) (number other : ℕ) (progress : Progress) → (other ≡ number → ⊥)
    → with_worker workers number progress other ≡ workers other
others_stay workers number other progress differs =
    ap (λ (t : Bool). if t then progress else workers other) (ne_eqb other number differs)

pub own_moves : (workers : ℕ → Progress) (number : ℕ) (progress : Progress)
    → with_worker workers number progress number ≡ progress
own_moves workers number progress =
    ap (λ (t : Bool). if t then progress else workers number) (eq-eqb number number refl)

-- where one of them makes a step, the others stand as they did, and it as is said
pub all_stand : (b : Beginning) (base : Image) (old new : WorkerAndCore) (t : Transcript) (now : Event) (traced : Traced)
    (number : ℕ) (workers later : List State) → AreAtStage b base old.core t workers
    → Replaces workers number old.worker new.worker later → LeavesOthers old new
    → new.core.log.blocks ≡ old.core.log.blocks → new.core.inodes ≡ old.core.inodes
    → ((other : ℕ) → (other ≡ number → ⊥)
    → (state_after (state_now b.events t) now traced.made).workers other ≡ progress_now b.events t other)
    → WillStand b base new.core t now traced number new.worker
    → AllWillStand b base new.core t now traced later
all_stand b base old new t now traced number workers later are list left blocks inodes stay own = record {
  count = list.count ∙ are.count;
  each = λ other worker is. elim (cases_eq other number) [
    | inl same ↦ own_there other worker is same
    | inr differs ↦ another other worker differs (sym (list.others other differs) ∙ is)
  ];
  share = share_still old new workers later number are.share left list;
}
  where
    own_there : (other : ℕ) (worker : State) → IsOneOf later other worker → other ≡ number
        → WillStand b base new.core t now traced other worker
    own_there other worker is same =
        let it : new.worker ≡ worker = same_Some new.worker worker (sym list.now
        ∙ ap (λ (n : ℕ). slice_get later n) (sym same) ∙ is) in
        subst (λ (n : ℕ). WillStand b base new.core t now traced n worker) (sym same)
        (subst (λ (w : State). WillStand b base new.core t now traced number w) it own)

    another : (other : ℕ) (worker : State) → (other ≡ number → ⊥) → IsOneOf workers other worker
        → WillStand b base new.core t now traced other worker
    another other worker differs is =
        so_still b base base old.core new.core t now traced other worker blocks inodes
        (λ tx tx_is. left.others tx (λ own. differs (are.share.one_owner other number tx worker old.worker is list.was
        tx_is own)))
        (stay other differs)
        (fetched_still base old.core new.core worker (are.share.fetched other worker is)
        (are.each other worker is).fetched)
        (are.each other worker is)
