-- What keeps a worker off is another's, and told so: what that has taken, or the block that it fetches. And no
-- change of a worker is foreign.
use Rattle.std.proofs.Common.{◌≡◌, ◌∙◌, ◌+◌, refl, sym, ap, subst, true≢false, ℕ, ◌⊎◌, inl, inr, Bool}
use Rattle.std.proofs.Common.{true, false, ◌&&◌, ◌||◌, nat_eq, nat_lt, Option, Some, None, List, [], ◌∷◌, ◌++◌, All, arith}
use Rattle.std.proofs.Common.{is_some, slice_get}
use Rattle.std.specs.Prelude.{Contains, IfSome, IsSomeAnd}
use Rattle.std.specs.List.{list_any}
use Rattle.std.proofs.lemmas.Bool.{and_from, eq-eqb, eqb-true, lt-ltb, or_left, or_right}
use Rattle.std.proofs.lemmas.List.Elements.{All-contains, Contains-append_right}
use Rattle.disk.specs.Device.{Content}
use Rattle.disk.specs.declared.block.BlockNo.{BlockNo}
use Rattle.layout.specs.declared.geometry.Geometry.{Geometry}
use Rattle.layout.specs.declared.version.FormatVersion.TheVariants.{Second}
use Rattle.layout.proofs.OnGrid.{one_or_apart}
use Rattle.nfs_spec.specs.Model.Entry.{Entry}
use Rattle.objects.specs.Addr.{Overlap}
use Rattle.objects.specs.Mode.{Excludes, covers, is_exclusive}
use Rattle.objects.specs.declared.addr.Addr.{Addr}
use Rattle.objects.specs.declared.mode.Mode.{Mode}
use Rattle.objects.specs.declared.mode.Mode.TheVariants as modes
use Rattle.procs.proofs.FewClaimed.{claimed_object}
use Rattle.procs.specs.Asks.{Asks, Claims}
use Rattle.procs.specs.Finished.{EndsFrom}
use Rattle.procs.specs.Outcome.{Outcome}
use Rattle.procs.specs.declared.next.Plan.TheVariants as plan
use Rattle.inode.specs.declared.snap.Snap.{Snap}
use Rattle.txn.specs.Claimed.{IsClaimedObject, IsOwnObject}
use Rattle.txn.specs.Outcomes.{IsClaimed, IsCommit, IsWanted}
use Rattle.txn.specs.LockAnswers.{IsWhole}
use Rattle.txn.specs.declared.outcomes.Claim.{Claim}
use Rattle.txn.specs.declared.outcomes.Claim.TheVariants as claim
use Rattle.txn.specs.declared.outcomes.Commit.{Commit}
use Rattle.txn.specs.declared.outcomes.Commit.TheVariants as commit
use Rattle.txn.specs.declared.outcomes.Want.{Want}
use Rattle.txn.specs.declared.outcomes.Want.TheVariants as want
use Rattle.txn.proofs.OwnChange.{taken_at}
use Rattle.txn_law.specs.Commit.{IsOwn, IsReadBy}
use Rattle.txn_law.specs.Core.{CoreState, IsOut}
use Rattle.txn_law.specs.Fetch.{Fetch}
use Rattle.txn_law.specs.Group.{blocks_of}
use Rattle.txn_law.specs.Holds.{is_hold_of, is_written}
use Rattle.txn_law.specs.Leaves.{in_memory, is_fetching, taken_by}
use Rattle.txn_law.specs.Object.{ObjectBytes}
use Rattle.txn_law.specs.Others.{IsDeferred}
use Rattle.txn_law.specs.Present.{content_in, is_pending, present_of}
use Rattle.txn_law.specs.WellFormed.{IsWellFormed}
use Rattle.txn_law.specs.LockAnswers.{IsBusy, IsOpen}
use Rattle.txn_law.specs.declared.hold.Hold.{Hold}
use Rattle.objects.specs.declared.present.Present.{Present}
use Rattle.txn_law.proofs.Again as again
use Rattle.txn_law.proofs.Claims.{all_four, found_by}
use Rattle.txn_law.proofs.Others.{found_some, deferred_by}
use Rattle.txn_law.proofs.Swept.{in_cons, in_first}
use Rattle.txn_law.proofs.TakenBy.{is_hold_by}
use Rattle.store_promise.specs.Progress as how
use Rattle.store_promise.specs.Progress.{Begun, Stage, RangeRequest, lock_request_conflicts, has_loaded, has_taken}
use Rattle.store_promise.specs.Progress.{is_fetching as fetches, shares, stage_takes}
use Rattle.store_promise.specs.Schedule.{IsLeftFree, IsSoOfAnother, IsSoOfNoOther, RunState, whole_block_request, range_request_at}
use Rattle.store_promise.specs.Waiting.{HasTakenWell, IsLockRequest}
use Rattle.store_promise.specs.LockRequests.{IsAsMuch}
use Rattle.store_promise.specs.declared.lock_requests.LockRequest.{LockRequest}
use Rattle.store_promise.specs.declared.lock_requests.LockRequest.TheVariants as lock_request
use Rattle.store_promise.specs.declared.events.Committing.TheVariants as committing
use Rattle.store_promise.specs.declared.events.Step.{Step}
use Rattle.store_promise.specs.declared.events.Step.TheVariants as step
use Rattle.store_promise.specs.declared.events.LockAnswer.TheVariants as lock_answer
use Rattle.store.specs.Runs.AtWork.{IsAtWork, IsLoadedBut, LoadsFor}
use Rattle.store.specs.Runs.AtWork as at_work
use Rattle.store.proofs.RunsLemmas.LeftFree.{left_free, none_loaded_by_others}
use Rattle.store_workers.proofs.LoneWorker.{had, has_of, own_change, was_read}
use Rattle.store_workers.proofs.PlansStay.{request_by}
use Rattle.store_workers.proofs.WorkCases.{Cases, IsRequested, by_cases}
use Rattle.store_workers.specs.Single.{HasOfCall, HasTakenInPlan}
use Rattle.store_workers.specs.Unaffected.{IsFetchAt, IsLeftOf, IsTraced, IsOneOf, TracesTaken, ShareCore}
use Rattle.store_workers.specs.Phases.{has_fetch, has_transaction}
use Rattle.store_workers.specs.Seen.{Seen, seen_in, seen_of}
use Rattle.store_workers.specs.Stages.{IsFetchOf, IsJobIn, IsWorkerAt, RunsIn, StandsAt, at_fetch, at_stage, begun_of}
use Rattle.store_workers.specs.Stages.{handed, taken_as, progress_in, progress_of}
use Rattle.store_workers.specs.WorkerAnswers.{claim_answer, committing_of, want_answer as answer_of}
use Rattle.store_workers.specs.WorkerSteps.{GoesOn, HasClaimed, HasCommitted, HasWanted, IsNext, WorkerAndCore, given_step}
use Rattle.store_workers.specs.WorkerSteps.{planned_of}
use Rattle.store_workers.specs.declared.workers.parts.Job.{Job}
use Rattle.store_workers.specs.declared.workers.parts.Phase.{Phase}
use Rattle.store_workers.specs.declared.workers.parts.Phase.TheVariants.{Idle, Called, Planning}
use Rattle.store_workers.specs.declared.workers.parts.Phase.TheVariants.{Reading, Read}
use Rattle.store_workers.specs.declared.workers.parts.Phase.TheVariants.{Refused, Again, Waiting}
use Rattle.store_workers.specs.declared.workers.parts.State.{State}

-- ---- by what a step is kept off

-- a step that was kept off was so by another worker, what it took was left free by the others, and no commit is
-- refused as foreign
abbrev pub IsCaused : RunState → ℕ → Option Step → Type 0
IsCaused run_state number (Some (step.Wanted addr mode lock_answer.Held)) = IsLeftFree run_state number (range_request_at addr mode)
IsCaused run_state number (Some (step.Wanted addr mode lock_answer.Fetch)) =
    IsLeftFree run_state number (range_request_at addr mode) × IsSoOfNoOther run_state number (has_loaded addr.block)
IsCaused run_state number (Some (step.Wanted addr mode (lock_answer.NoMemory error))) = IsLeftFree run_state number (range_request_at addr mode)
IsCaused run_state number (Some (step.Claimed block lock_answer.Held)) = IsLeftFree run_state number (whole_block_request block)
IsCaused run_state number (Some (step.Claimed block (lock_answer.NoMemory error))) = IsLeftFree run_state number (whole_block_request block)
IsCaused run_state number (Some (step.Wanted addr mode lock_answer.Busy)) =
    IsSoOfAnother run_state number (has_taken (range_request_at addr mode))
IsCaused run_state number (Some (step.Wanted addr mode lock_answer.Loading)) = IsSoOfAnother run_state number (fetches addr.block)
IsCaused run_state number (Some (step.Claimed block lock_answer.Busy)) =
    IsSoOfAnother run_state number (has_taken (whole_block_request block))
IsCaused run_state number (Some (step.Claimed block lock_answer.Loading)) = IsSoOfAnother run_state number (fetches block)
IsCaused run_state number (Some (step.Commit added committing.Foreign)) = ⊥
IsCaused run_state number _ = Unit {0}

-- ---- what is noted keeps off

any_of : {X : Type 0} (test : X → Bool) (xs : List X) (x : X) → Contains xs x → test x ≡ true
    → list_any test xs ≡ true
any_of test [] x (k, lt, e) passes = absurd (omega (arith, lt))
any_of test (y ∷ xs) x there passes = elim (in_cons y x xs there) [
  | inl same ↦ or_left (test y) (list_any test xs) (ap test same ∙ passes)
  | inr later ↦ or_right (test y) (list_any test xs) (any_of test xs x later passes)
]

shared : (addr other : Addr) (mode : Mode) → Overlap other addr → shares (range_request_at addr mode) other ≡ true
shared addr other mode over =
    and_from (nat_eq other.block.0 addr.block.0 && nat_lt other.offset (addr.offset + addr.len))
    (nat_lt addr.offset (other.offset + other.len))
    (and_from (nat_eq other.block.0 addr.block.0) (nat_lt other.offset (addr.offset + addr.len))
    (eq-eqb other.block.0 addr.block.0 (ap (λ (b : BlockNo). b.0) over.0))
    (lt-ltb other.offset (addr.offset + addr.len) over.1))
    (lt-ltb addr.offset (other.offset + other.len) over.2)

exclusive : (one other : Mode) → Excludes one other → (is_exclusive one || is_exclusive other) ≡ true
exclusive modes.Exclusive other either = refl
exclusive modes.Shared modes.Exclusive either = refl
exclusive modes.Shared modes.Shared (inl is) = cc
exclusive modes.Shared modes.Shared (inr is) = cc

traced_preserves : (lock_requests : List LockRequest) (hold : Hold) (addr : Addr) (mode : Mode) → IsTraced lock_requests hold.addr hold.mode
    → Overlap hold.addr addr → Excludes hold.mode mode
    → list_any (lock_request_conflicts (range_request_at addr mode)) lock_requests ≡ true
traced_preserves lock_requests hold addr mode (inl object) over excludes =
    any_of (lock_request_conflicts (range_request_at addr mode)) lock_requests object.0 object.1 (by object.0 object.2)
  where
    by_mode : (m n : Mode) → covers m n ≡ true → (is_exclusive n || is_exclusive mode) ≡ true
        → (is_exclusive m || is_exclusive mode) ≡ true
    by_mode modes.Exclusive n much off = refl
    by_mode modes.Shared modes.Shared much off = off
    by_mode modes.Shared modes.Exclusive much off = absurd (true≢false (sym much))

    by : (found : LockRequest) → IsAsMuch found (lock_request.Object hold.addr hold.mode)
        → lock_request_conflicts (range_request_at addr mode) found ≡ true
    by (lock_request.Object a m) much = and_from (shares (range_request_at addr mode) a) (is_exclusive m || is_exclusive mode)
        (ap (shares (range_request_at addr mode)) much.0 ∙ shared addr hold.addr mode over)
        (by_mode m hold.mode much.1 (exclusive hold.mode mode excludes))
    by (lock_request.Claim block) much = absurd much
traced_preserves lock_requests hold addr mode (inr claim) over excludes =
    any_of (lock_request_conflicts (range_request_at addr mode)) lock_requests (lock_request.Claim hold.addr.block) claim
    (eq-eqb hold.addr.block.0 addr.block.0 (ap (λ (b : BlockNo). b.0) over.0))

-- it has a byte of itself
over_self : (addr : Addr) → Overlap addr addr
over_self addr = let some = addr.some in (refl, omega (arith, some), omega (arith, some))

-- what a transaction has of the address of a hold of it is that very hold
taken_is : (core : CoreState) (hold : Hold) → IsWellFormed core → Contains core.holds hold
    → taken_by core hold.transaction hold.addr ≡ Some hold
taken_is core hold well_formed there =
    let (x, e) = found_some (is_hold_of hold.transaction hold.addr) core.holds hold there
    (is_hold_by hold.transaction hold.addr hold refl refl refl refl) in
    let (mine, inside) = found_by (is_hold_of hold.transaction hold.addr) core.holds x e in
    let four = all_four (nat_eq x.transaction hold.transaction) (nat_eq x.addr.block.0 hold.addr.block.0)
    (nat_eq x.addr.offset hold.addr.offset) (nat_eq x.addr.len hold.addr.len) mine in
    let at : x.addr ≡ hold.addr = again.same_addr x.addr hold.addr
    (eqb-true x.addr.block.0 hold.addr.block.0 four.1) (eqb-true x.addr.offset hold.addr.offset four.2)
    (eqb-true x.addr.len hold.addr.len four.3) in
    elim (again.one_or_apart core.holds x hold well_formed.apart inside there) [
      | inl same ↦ e ∙ ap (λ (h : Hold). Some h) same
      | inr apart ↦ absurd (apart (subst (λ (a : Addr). Overlap a hold.addr) (sym at) (over_self hold.addr))
          (inl (eqb-true x.transaction hold.transaction four.0)))
    ]

-- ---- what a worker has, as it is told

module _ (boot : ℕ) (entries : List Entry) (w : State) where
  abbrev begun : Begun
  begun = begun_of w.begun.tx (seen_in w.work.planner) w.known

  at_job : (request : RangeRequest) (stage : Stage) → stage_takes request stage ≡ true → (job : Option Job)
      → IsSomeAnd job (IsJobIn boot w.begun.tx) → has_taken request (at_stage job stage) ≡ true
  at_job request stage is None job_in = absurd job_in
  at_job request stage is (Some job) job_in = is

  takes_at : (request : RangeRequest) → list_any (lock_request_conflicts request) w.known.taken ≡ true → (phase : Phase)
      → has_transaction phase ≡ true → StandsAt boot entries phase w
      → has_taken request (progress_in phase w.work.job begun w.asked w.known) ≡ true
  takes_at request is Idle out stands = absurd (true≢false (sym out))
  takes_at request is Called out stands = absurd (true≢false (sym out))
  takes_at request is Planning out stands = at_job request (how.Planning begun) is w.work.job stands
  takes_at request is Reading out stands = by w.asked.fetch_addr stands.1
    where
      by : (found : Option Addr)
          → IsSomeAnd found (λ addr. IsSomeAnd w.begun.io (λ (io : Fetch). io.block ≡ addr.block))
          → has_taken request (at_stage w.work.job (at_fetch (λ taken. how.Reading begun taken) begun w.asked.mode found)) ≡ true
      by None at = absurd at
      by (Some addr) at = at_job request _ is w.work.job stands.0
  takes_at request is (Read ok) out stands = by w.asked.fetch_addr stands.1
    where
      by : (found : Option Addr)
          → IsSomeAnd found (λ addr. IsSomeAnd w.begun.io (λ (io : Fetch). io.block ≡ addr.block))
          → has_taken request (at_stage w.work.job (at_fetch (λ taken. how.Read begun taken ok) begun w.asked.mode found)) ≡ true
      by None at = absurd at
      by (Some addr) at = at_job request _ is w.work.job stands.0
  takes_at request is (Refused why) out stands = at_job request (how.Refused begun why) is w.work.job stands
  takes_at request is Again out stands = at_job request (how.Again begun w.known.off) is w.work.job stands
  takes_at request is (Waiting place) out stands = absurd (true≢false (sym out))

  -- it fetches the block
  module _ (block : BlockNo) (at : IsFetchAt block w.begun.io) where
    same_number : (addr : Addr) (io : Option Fetch) → IsFetchAt block io
        → IsSomeAnd io (λ (io : Fetch). io.block ≡ addr.block) → nat_eq addr.block.0 block.0 ≡ true
    same_number addr None at is = absurd at
    same_number addr (Some io) at is =
        eq-eqb addr.block.0 block.0 (ap (λ (b : BlockNo). b.0) (sym is ∙ at))

    fetch_stage : (stage : how.Taken → Stage)
        → ((job : how.Job) (taken : how.Taken) → fetches block (how.At job (stage taken))
        ≡ nat_eq taken.addr.block.0 block.0) → RunsIn boot w × IsFetchOf w
        → fetches block (at_stage w.work.job (at_fetch stage begun w.asked.mode w.asked.fetch_addr)) ≡ true
    fetch_stage stage tells stands = by w.work.job w.asked.fetch_addr stands.0 stands.1
      where
        by : (job : Option Job) (found : Option Addr) → IsSomeAnd job (IsJobIn boot w.begun.tx)
            → IsSomeAnd found (λ addr. IsSomeAnd w.begun.io (λ (io : Fetch). io.block ≡ addr.block))
            → fetches block (at_stage job (at_fetch stage begun w.asked.mode found)) ≡ true
        by None found job_in has = absurd job_in
        by (Some job) None job_in has = absurd has
        by (Some job) (Some addr) job_in has = tells (handed job) (taken_as w.asked.mode addr) ∙ same_number addr w.begun.io at has

    fetches_at : (phase : Phase) → has_fetch phase ≡ true → StandsAt boot entries phase w
        → fetches block (progress_in phase w.work.job begun w.asked w.known) ≡ true
    fetches_at Idle out stands = absurd (true≢false (sym out))
    fetches_at Called out stands = absurd (true≢false (sym out))
    fetches_at Planning out stands = absurd (true≢false (sym out))
    fetches_at Reading out stands = fetch_stage (λ taken. how.Reading begun taken) (λ job taken. refl) stands
    fetches_at (Read ok) out stands = fetch_stage (λ taken. how.Read begun taken ok) (λ job taken. refl) stands
    fetches_at (Refused why) out stands = absurd (true≢false (sym out))
    fetches_at Again out stands = absurd (true≢false (sym out))
    fetches_at (Waiting place) out stands = absurd (true≢false (sym out))

-- there is something where this is it
some_is : {X : Type 0} (found : Option X) (x : X) → found ≡ Some x → is_some found ≡ true
some_is found x is = ap is_some is

some_at : (block : BlockNo) (io : Option Fetch) → IsFetchAt block io → is_some io ≡ true
some_at block None at = absurd at
some_at block (Some io) at = refl

-- ---- who keeps it off

module _ (boot : ℕ) (entries : List Entry) (run_state : RunState) (core : CoreState) (workers : List State) (number : ℕ)
    (worker : State) (well_formed : IsWellFormed core) (share : ShareCore core workers) (is : IsOneOf workers number worker)
    (each : (other : ℕ) (w : State) → IsOneOf workers other w
    → (run_state.workers other ≡ progress_of w) × IsWorkerAt boot entries w × IsAtWork w core)
    (beyond : (other : ℕ) → slice_get workers other ≡ None → run_state.workers other ≡ how.Idle)
    (tx : ℕ) (tx_is : worker.begun.tx ≡ Some tx) (no_io : worker.begun.io ≡ None) where
  same_worker : (other : ℕ) (w : State) → IsOneOf workers other w → other ≡ number → w ≡ worker
  same_worker other w w_is same =
      let one : Some w ≡ Some worker = sym w_is ∙ ap (λ (n : ℕ). slice_get workers n) same ∙ is in cc

  -- the others leave free what is
  free_so : (addr : Addr) (mode : Mode) → IsOpen core tx addr mode → IsLeftFree run_state number (range_request_at addr mode)
  free_so addr mode left =
      left_free boot entries run_state core workers number worker well_formed share is each beyond tx tx_is addr mode left

  -- and have nothing in memory of a block that isn't there
  unloaded_so : (addr : Addr) (mode : Mode) → in_memory core addr.block ≡ None
      → IsSoOfNoOther run_state number (has_loaded addr.block)
  unloaded_so addr mode absent = none_loaded_by_others boot entries run_state core workers number worker well_formed share is each
      beyond tx tx_is addr mode absent

  -- another's transaction has taken what keeps it off
  busy_so : (addr : Addr) (mode : Mode) → IsDeferred core tx addr mode
      → IsSoOfAnother run_state number (has_taken (range_request_at addr mode))
  busy_so addr mode off =
      let (other, w, w_is, w_tx) = share.out off.hold.transaction off.out in
      let (progress_of_each, stands, at) = each other w w_is in
      let traces : TracesTaken core off.hold.transaction w.known.taken =
      subst (λ (found : Option ℕ). IfSome found (λ t. TracesTaken core t w.known.taken)) w_tx at.traces in
      record {
        other = other;
        differs = λ same. off.differs (let one : Some off.hold.transaction ≡ Some tx =
            sym w_tx ∙ ap (λ (s : State). s.begun.tx) (same_worker other w w_is same) ∙ tx_is in cc);
        so = ap (has_taken (range_request_at addr mode)) progress_of_each
            ∙ takes_at boot entries w (range_request_at addr mode)
            (traced_preserves w.known.taken off.hold addr mode
            (traces.traced off.hold.addr off.hold (taken_is core off.hold well_formed off.there)) off.overlap off.excludes)
            w.phase (sym at.with.sound.transaction ∙ some_is w.begun.tx off.hold.transaction w_tx) stands.stands;
      }

  -- another fetches the block
  loading_so : (block : BlockNo) → is_fetching core block ≡ true → IsSoOfAnother run_state number (fetches block)
  loading_so block pending =
      let (other, w, w_is, w_at) = share.pending block pending in
      let (progress_of_each, stands, at) = each other w w_is in record {
        other = other;
        differs = λ same. none_at (subst (λ (s : State). IsFetchAt block s.begun.io)
            (same_worker other w w_is same) w_at);
        so = ap (fetches block) progress_of_each
            ∙ fetches_at boot entries w block w_at w.phase (sym at.with.sound.fetch ∙ some_at block w.begun.io w_at)
            stands.stands;
      }
    where
      none_at : IsFetchAt block worker.begun.io → ⊥
      none_at at = subst (IsFetchAt block) no_io at

  module _ (seen : Seen) (has : HasOfCall tx core seen) where
    deferred : (addr : Addr) (mode : Mode) → Asks seen.geometry addr → IsBusy core tx addr mode
        → IsDeferred core tx addr mode
    deferred addr mode asks busy = deferred_by core tx addr mode well_formed (λ other hold taken over.
        one_or_apart seen.geometry other addr (has.asked other hold taken) asks over) busy

    wanted_caused : (new : CoreState) (addr : Addr) (mode : Mode) → Asks seen.geometry addr → (answer : Want)
        → IsWanted core tx addr mode answer new
        → IsCaused run_state number (Some (step.Wanted addr mode (answer_of answer)))
    wanted_caused new addr mode asks (want.Held back bytes) is = free_so addr mode is.1
    wanted_caused new addr mode asks (want.Fetch back io) is =
        (free_so addr mode is.1, unloaded_so addr mode is.2.absent)
    wanted_caused new addr mode asks (want.Outside back) is = tt
    wanted_caused new addr mode asks (want.NoMemory back error) is = free_so addr mode is.1
    wanted_caused new addr mode asks (want.Busy back) is = busy_so addr mode (deferred addr mode asks is.1)
    wanted_caused new addr mode asks (want.Loading back) is = loading_so addr.block is.1.2

    same_request : (block : BlockNo) (addr : Addr) → IsWhole block addr
        → range_request_at addr modes.Exclusive ≡ whole_block_request block
    same_request block addr whole = λ i. record {
      block = whole.0 i;
      offset = whole.1 i;
      len = whole.2 i;
      mode = modes.Exclusive;
    }

    claimed_caused : (new : CoreState) (block : BlockNo) (addr : Addr) → Claims seen.geometry block
        → IsWhole block addr → (answer : Claim) → IsClaimed core tx addr answer new
        → IsCaused run_state number (Some (step.Claimed block (claim_answer answer)))
    claimed_caused new block addr claims whole (claim.Held back) is =
        subst (IsLeftFree run_state number) (same_request block addr whole) (free_so addr modes.Exclusive is.1)
    claimed_caused new block addr claims whole (claim.Outside back) is = tt
    claimed_caused new block addr claims whole (claim.NoMemory back error) is =
        subst (IsLeftFree run_state number) (same_request block addr whole) (free_so addr modes.Exclusive is.1)
    claimed_caused new block addr claims whole (claim.Busy back) is =
        subst (λ (w : RangeRequest). IsSoOfAnother run_state number (has_taken w)) (same_request block addr whole)
        (busy_so addr modes.Exclusive (deferred addr modes.Exclusive (claimed_object seen.geometry block addr claims whole) is.1))
    claimed_caused new block addr claims whole (claim.Loading back) is =
        subst (λ (b : BlockNo). IsSoOfAnother run_state number (fetches b)) whole.0 (loading_so addr.block is.1.2)

  -- ---- no change is foreign

  -- a block that it reads isn't fetched
  read_settled : (object : ObjectBytes) → IsReadBy core tx object → is_fetching core object.addr.block ≡ false
  read_settled object read = by (present_of core.present object.addr.block) read.current.content read.current.there
    where
      by : (found : Option Present) (content : Content) → content_in found ≡ Some content
          → is_pending found ≡ false
      by None content there = cc
      by (Some entry) content there = by_content entry.content there
        where
          by_content : (held : Option Content) → held ≡ Some content
              → is_pending (Some (record { block = entry.block; content = held })) ≡ false
          by_content None there = cc
          by_content (Some c) there = refl

  -- nor is one that it has claimed: who fetches it has taken a part of it
  claim_settled : (object : ObjectBytes) → IsClaimedObject core tx object
      → is_fetching core object.addr.block ≡ false
  claim_settled object claimed = by (is_fetching core object.addr.block) refl
    where
      whole : IsWhole object.addr.block object.addr
      whole = claimed.1

      never : is_fetching core object.addr.block ≡ true → ⊥
      never pending =
          let (other, w, w_is, w_at) = share.pending object.addr.block pending in
          let (progress_of_each, stands, at) = each other w w_is in
          of_phase other w w_is w_at at w.phase refl (sym at.with.sound.fetch
          ∙ some_at object.addr.block w.begun.io w_at) stands.stands at.loads
        where
          -- both have taken a byte of the block, and one of them alone
          clash : (other : ℕ) (w : State) → IsOneOf workers other w → IsFetchAt object.addr.block w.begun.io
              → (t : ℕ) → w.begun.tx ≡ Some t → (addr : Addr) → addr.block ≡ object.addr.block
              → at_work.has_taken core t addr ≡ true → ⊥
          clash other w w_is w_at t t_is addr same taken =
              by_holds (taken_by core tx object.addr) refl (claimed.0 object.addr whole) (taken_by core t addr) refl
              taken
            where
              by_holds : (mine : Option Hold) → taken_by core tx object.addr ≡ mine → is_written mine ≡ true
                  → (theirs : Option Hold) → taken_by core t addr ≡ theirs → is_some theirs ≡ true → ⊥
              by_holds None m_is written theirs t_is taken = true≢false (sym written)
              by_holds (Some m) m_is written None t_is taken = true≢false (sym taken)
              by_holds (Some m) m_is written (Some h) h_is taken =
                  let (m_in, m_at) = taken_at core tx well_formed object.addr m m_is in
                  let (h_in, h_at) = taken_at core t well_formed addr h h_is in
                  let some = addr.some in let within = addr.within in
                  let low = whole.1 in let long = whole.2 in
                  let over : Overlap object.addr addr = (sym same, omega (arith, low, some), omega (arith, low, long, some, within)) in
                  elim (again.one_or_apart core.holds m h well_formed.apart m_in h_in) [
                    | inl one ↦ let numbers = owner_is tx object.addr m m_is in
                        let others = owner_is t addr h h_is in
                        let tx_same : t ≡ tx = sym others ∙ ap (λ (x : Hold). x.transaction) (sym one) ∙ numbers in
                        let here : other ≡ number = share.one_owner other number tx w worker w_is is
                        (t_is ∙ ap (λ (n : ℕ). Some n) tx_same) tx_is in
                        subst (IsFetchAt object.addr.block) no_io (subst (λ (s : State).
                        IsFetchAt object.addr.block s.begun.io) (same_worker other w w_is here) w_at)
                    | inr apart ↦ apart (subst (λ (a : Addr). Overlap a h.addr) (sym m_at)
                        (subst (λ (a : Addr). Overlap object.addr a) (sym h_at) over))
                        (inr (inl (is_held_exclusive m.mode m.is_read m.is_claimed written)))
                  ]
                where
                  owner_is : (n : ℕ) (a : Addr) (x : Hold) → taken_by core n a ≡ Some x → x.transaction ≡ n
                  owner_is n a x x_is =
                      let found = found_by (is_hold_of n a) core.holds x x_is in
                      let four = all_four (nat_eq x.transaction n) (nat_eq x.addr.block.0 a.block.0)
                      (nat_eq x.addr.offset a.offset) (nat_eq x.addr.len a.len) found.0 in
                      eqb-true x.transaction n four.0

                  is_held_exclusive : (mode : Mode) (reads claims : Bool)
                      → (is_exclusive mode && (reads || claims)) ≡ true → mode ≡ modes.Exclusive
                  is_held_exclusive modes.Exclusive reads claims is = refl
                  is_held_exclusive modes.Shared reads claims is = absurd (true≢false (sym is))

          fetch_for : (other : ℕ) (w : State) → IsOneOf workers other w
              → IsFetchAt object.addr.block w.begun.io → (found : Option ℕ) → w.begun.tx ≡ found
              → (fetch_addr : Option Addr) → IsSomeAnd fetch_addr (λ addr. IsSomeAnd w.begun.io (λ (io : Fetch). io.block ≡ addr.block))
              → IsSomeAnd found (λ n. All (IsLoadedBut fetch_addr core n) w.known.taken
              × IsSomeAnd fetch_addr (λ addr. at_work.has_taken core n addr ≡ true)) → ⊥
          fetch_for other w w_is w_at None t_is fetch_addr at loads = absurd loads
          fetch_for other w w_is w_at (Some t) t_is None at loads = absurd at
          fetch_for other w w_is w_at (Some t) t_is (Some addr) at loads =
              clash other w w_is w_at t t_is addr (same_block w.begun.io w_at at) loads.1
            where
              same_block : (io : Option Fetch) → IsFetchAt object.addr.block io
                  → IsSomeAnd io (λ (io : Fetch). io.block ≡ addr.block) → addr.block ≡ object.addr.block
              same_block None at is = absurd at
              same_block (Some io) at is = sym is ∙ at

          of_phase : (other : ℕ) (w : State) → IsOneOf workers other w
              → IsFetchAt object.addr.block w.begun.io → IsAtWork w core → (phase : Phase) → w.phase ≡ phase
              → has_fetch phase ≡ true → StandsAt boot entries phase w
              → LoadsFor phase w.begun.tx w.asked w.known core → ⊥
          of_phase other w w_is w_at at Idle p_is out stands loads = true≢false (sym out)
          of_phase other w w_is w_at at Called p_is out stands loads = true≢false (sym out)
          of_phase other w w_is w_at at Planning p_is out stands loads = true≢false (sym out)
          of_phase other w w_is w_at at Reading p_is out stands loads =
              fetch_for other w w_is w_at w.begun.tx refl w.asked.fetch_addr stands.1 loads
          of_phase other w w_is w_at at (Read ok) p_is out stands loads =
              fetch_for other w w_is w_at w.begun.tx refl w.asked.fetch_addr stands.1 loads
          of_phase other w w_is w_at at (Refused why) p_is out stands loads = true≢false (sym out)
          of_phase other w w_is w_at at Again p_is out stands loads = true≢false (sym out)
          of_phase other w w_is w_at at (Waiting place) p_is out stands loads = true≢false (sym out)

      by : (pending : Bool) → is_fetching core object.addr.block ≡ pending
          → is_fetching core object.addr.block ≡ false
      by true pending = absurd (never pending)
      by false pending = pending

  module _ (snap : Snap) (has : HasOfCall tx core (seen_of snap)) (is_out : IsOut core tx) (done : Outcome)
      (ends : EndsFrom snap done) where
    settled : (object : ObjectBytes) → IsOwnObject core tx done.read object
        → is_fetching core object.addr.block ≡ false
    settled object (inl both) =
        let before = both.0 in
        subst (λ (a : Addr). is_fetching core a.block ≡ false) before.2 (read_settled before.0
        (All-contains (IsReadBy core tx) done.read before.0 (was_read core tx snap well_formed is_out has done ends)
        before.1))
    settled object (inr claimed) = claim_settled object claimed

    own : IsOwn core tx (planned_of done)
    own = own_change core tx snap well_formed is_out has done ends (λ object there. settled object
        (had core tx snap well_formed is_out has done ends object there))

    committed_caused : (new : CoreState) (added : List BlockNo) (answer : Commit Outcome)
        → IsCommit core tx (planned_of done) done answer new
        → IsCaused run_state number (Some (step.Commit added (committing_of answer)))
    committed_caused new added (commit.Committed receipt) is = tt
    committed_caused new added (commit.Full back same) is = tt
    committed_caused new added (commit.NoMemory back same error) is = tt
    committed_caused new added (commit.Broken back same) is = tt
    committed_caused new added (commit.Spent back same) is = tt
    committed_caused new added (commit.Foreign back same) is = is.2 own

-- ---- any step

module _ (boot : ℕ) (entries : List Entry) (run_state : RunState) (workers : List State) (number : ℕ) (old new : WorkerAndCore)
    (well_formed : IsWellFormed old.core) (share : ShareCore old.core workers) (is : IsOneOf workers number old.worker)
    (each : (other : ℕ) (w : State) → IsOneOf workers other w
    → (run_state.workers other ≡ progress_of w) × IsWorkerAt boot entries w × IsAtWork w old.core)
    (beyond : (other : ℕ) → slice_get workers other ≡ None → run_state.workers other ≡ how.Idle)
    (left_of : old.worker.phase ≡ Planning → IsLeftOf old.worker)
    (own_out : IfSome old.worker.begun.tx (IsOut old.core)) where
  abbrev Caused : Phase → Option Step → Type 0
  Caused phase made = old.worker.phase ≡ phase → (has_fetch phase ≡ false → old.worker.begun.io ≡ None)
      → HasTakenInPlan phase old.worker old.core → IsCaused run_state number made

  out_in : (tx : ℕ) → old.worker.begun.tx ≡ Some tx → IsOut old.core tx
  out_in tx tx_is = subst (λ (o : Option ℕ). IfSome o (IsOut old.core)) tx_is own_out

  wanted_so : (tx : ℕ) (addr : Addr) (mode : Mode) (made : Step) → old.worker.begun.tx ≡ Some tx
      → IsRequested old.worker (lock_request.Object addr mode) (plan.Need addr mode) → (has : HasWanted tx addr mode old made new)
      → Caused Planning (Some (step.Wanted addr mode (answer_of has.answer)))
  wanted_so tx addr mode made tx_is request has at no_io plans =
      let it = request_by old.worker (lock_request.Object addr mode) (plan.Need addr mode) (λ seen. Unit {0})
      (λ snap planned. (planned.1, tt)) (left_of at) request in
      wanted_caused boot entries run_state old.core workers number old.worker well_formed share is each beyond tx tx_is (no_io refl)
      (seen_of it.snap) (has_of old.worker old.core it.job tx (seen_of it.snap) it.job_is tx_is it.snap_is plans)
      new.core addr mode it.is_lock_request has.answer has.core

  claimed_so : (tx : ℕ) (block : BlockNo) (made : Step) → old.worker.begun.tx ≡ Some tx
      → IsRequested old.worker (lock_request.Claim block) (plan.Claim block) → (has : HasClaimed tx block old made new)
      → Caused Planning (Some (step.Claimed block (claim_answer has.answer)))
  claimed_so tx block made tx_is request has at no_io plans =
      let it = request_by old.worker (lock_request.Claim block) (plan.Claim block) (λ seen. Unit {0})
      (λ snap planned. (planned.1, tt)) (left_of at) request in
      claimed_caused boot entries run_state old.core workers number old.worker well_formed share is each beyond tx tx_is (no_io refl)
      (seen_of it.snap) (has_of old.worker old.core it.job tx (seen_of it.snap) it.job_is tx_is it.snap_is plans)
      new.core block has.core.0 it.is_lock_request has.core.1 has.answer has.core.2

  committed_so : (job : Job) (tx : ℕ) (done : Outcome) (made : Step) → old.worker.begun.tx ≡ Some tx
      → IsNext old.worker (plan.Done done) → (has : HasCommitted job tx done old made new)
      → Caused Planning (Some (step.Commit (blocks_of done.written)
      (committing_of has.answer)))
  committed_so job tx done made tx_is next has at no_io plans =
      committed_caused boot entries run_state old.core workers number old.worker well_formed share is each beyond tx tx_is (no_io refl)
      next.snap (has_of old.worker old.core next.job tx (seen_of next.snap) next.job_is tx_is next.snap_is plans)
      (out_in tx tx_is) done next.plan.0 new.core (blocks_of done.written) has.answer
      has.core

  given_so : (ok : Bool) (io : Fetch) → IsCaused run_state number (Some (given_step ok io))
  given_so true io = tt
  given_so false io = tt

  cases : Cases old new Caused
  cases = record {
    idle = λ same at no_io plans. tt;
    reading = λ same at no_io plans. tt;
    begun = λ job one job_is rules has at no_io plans. tt;
    not_begun = λ job why job_is rules none core worker at no_io plans. tt;
    replied = λ job job_is rules core worker at no_io plans. tt;
    wanted = wanted_so;
    claimed = claimed_so;
    committed = λ job tx done made tx_is next none job_is has. committed_so job tx done made tx_is next has;
    lacked = λ tx made tx_is none has at no_io plans. tt;
    given = λ ok io made io_is has at no_io plans. given_so ok io;
    refused = λ why job tx made job_is tx_is has at no_io plans. tt;
    left = λ tx made tx_is has at no_io plans. tt;
    waited = λ place made has at no_io plans. tt;
  }

  none_of : (found : Option Fetch) (some : Bool) → is_some found ≡ some → some ≡ false → found ≡ None
  none_of None some same off = refl
  none_of (Some one) some same off = absurd (true≢false (same ∙ off))

  pub is_caused : (made : Option Step) → GoesOn old.worker.phase old made new
      → is_some old.worker.begun.io ≡ has_fetch old.worker.phase
      → HasTakenInPlan old.worker.phase old.worker old.core → IsCaused run_state number made
  is_caused made goes io plans = by_cases old new Caused cases old.worker.phase made goes refl
      (none_of old.worker.begun.io (has_fetch old.worker.phase) io) plans

-- ---- what is left to be taken again

-- it is of the image, as it is told
pub left_at : (g : Geometry) (core : CoreState) (worker : State) → HasTakenWell g (progress_of worker)
    → g.version ≡ Second → g.blocks ≡ core.log.blocks → g.inodes ≡ core.inodes
    → ((one other : Geometry) → one.version ≡ other.version → one.blocks ≡ other.blocks → one.inodes ≡ other.inodes
    → one ≡ other)
    → HasTakenInPlan worker.phase worker core → worker.phase ≡ Planning → IsLeftOf worker
left_at g core worker well newest blocks inodes one_geometry plans phase_is next later some =
    by worker.work.job worker.begun.tx (seen_in worker.work.planner)
    (subst (λ (p : Phase). HasTakenInPlan p worker core) phase_is plans)
    (subst (λ (p : Phase). HasTakenWell g (progress_in p worker.work.job
    (begun_of worker.begun.tx (seen_in worker.work.planner) worker.known) worker.asked worker.known)) phase_is
    well)
  where
    there : Contains (worker.known.taken ++ worker.known.left) next
    there = Contains-append_right worker.known.taken worker.known.left next
        (subst (λ (lock_requests : List LockRequest). Contains lock_requests next) (sym some) (in_first next next later refl))

    by : (job : Option Job) (tx : Option ℕ) (seen : Option Seen)
        → IsSomeAnd job (λ j. IsSomeAnd tx (λ t. IsSomeAnd seen (λ s. HasOfCall t core s)))
        → HasTakenWell g (at_stage job (how.Planning
        (begun_of worker.begun.tx (seen_in worker.work.planner) worker.known))) → IsSomeAnd seen (λ s. IsLockRequest s.geometry next)
    by None tx seen has well = absurd has
    by (Some job) None seen has well = absurd has
    by (Some job) (Some tx) None has well = absurd has
    by (Some job) (Some tx) (Some seen) has well =
        subst (λ (h : Geometry). IsLockRequest h next)
        (one_geometry g seen.geometry (newest ∙ sym has.newest) (blocks ∙ sym has.blocks) (inodes ∙ sym has.inodes))
        (All-contains (IsLockRequest g) (worker.known.taken ++ worker.known.left) next well.lock_requests.of_image there)
