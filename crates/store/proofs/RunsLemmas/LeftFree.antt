-- What nothing that is taken keeps off, and no fetch, is left free by the other workers, as they are told.
use Rattle.std.proofs.Common.{◌≡◌, ◌≢◌, ◌∙◌, sym, ap, subst, refl, true≢false, ℕ, ◌+◌, inl, inr, arith, Bool, true, false}
use Rattle.std.proofs.Common.{◌&&◌, ◌||◌, nat_eq, nat_lt, Option, Some, None, List, [], ◌∷◌, All, is_some, slice_get}
use Rattle.std.specs.Prelude.{IfSome, IsSomeAnd}
use Rattle.std.specs.List.{list_any}
use Rattle.std.proofs.lemmas.Bool.{and_parts, eqb-true, false_from_ne_true, ltb-true}
use Rattle.std.proofs.lemmas.List.Elements.{All-contains, All-head, All-tail}
use Rattle.disk.specs.declared.block.BlockNo.{BlockNo}
use Rattle.nfs_spec.specs.Model.Entry.{Entry}
use Rattle.objects.specs.Addr.{Overlap}
use Rattle.objects.specs.Mode.{Excludes, covers, is_exclusive}
use Rattle.objects.specs.declared.addr.Addr.{Addr}
use Rattle.objects.specs.declared.mode.Mode.{Mode}
use Rattle.objects.specs.declared.mode.Mode.TheVariants as modes
use Rattle.txn.proofs.OwnChange.{taken_at}
use Rattle.txn_law.specs.Core.{CoreState}
use Rattle.txn_law.specs.Fetch.{Fetch}
use Rattle.txn_law.specs.Holds.{IsFree, IsHoldOf, ConflictsWith, is_hold_of}
use Rattle.txn_law.specs.Leaves.{in_memory, is_fetching, taken_by}
use Rattle.txn_law.specs.WellFormed.{IsWellFormed}
use Rattle.txn_law.specs.LockAnswers.{IsOpen, IsWhole}
use Rattle.txn_law.specs.declared.hold.Hold.{Hold}
use Rattle.txn_law.proofs.Claims.{all_four, found_by}
use Rattle.store_promise.specs.Progress as how
use Rattle.store_promise.specs.Progress.{Begun, Progress, Stage, RangeRequest, lock_request_conflicts, has_loaded, has_taken}
use Rattle.store_promise.specs.Progress.{is_fetching as fetches, is_object_in, shares, stage_takes, takes}
use Rattle.store_promise.specs.Schedule.{IsLeftFree, IsSoOfNoOther, RunState, range_request_at}
use Rattle.store_promise.specs.declared.lock_requests.LockRequest.{LockRequest}
use Rattle.store_promise.specs.declared.lock_requests.LockRequest.TheVariants as lock_request
use Rattle.store.specs.Runs.AtWork as at_work
use Rattle.store.specs.Runs.AtWork.{FetchesFor, IsLockRequestLoaded, IsAtWork, LoadsFor}
use Rattle.store_workers.specs.Unaffected.{IsFetchAt, IsOneOf, IsTakenAs, IsTakenIn, TracesTaken, ShareCore}
use Rattle.store_workers.specs.Knowing.{known_in}
use Rattle.store_workers.specs.Phases.{has_transaction}
use Rattle.store_workers.specs.Seen.{seen_in}
use Rattle.store_workers.specs.Stages.{IsFetchOf, IsWorkerAt, StandsAt, taken_as, at_fetch, at_stage, begun_of, handed}
use Rattle.store_workers.specs.Stages.{progress_in, progress_of}
use Rattle.store_workers.specs.declared.workers.parts.Job.{Job}
use Rattle.store_workers.specs.declared.workers.parts.Phase.{Phase}
use Rattle.store_workers.specs.declared.workers.parts.Phase.TheVariants.{Idle, Called, Planning}
use Rattle.store_workers.specs.declared.workers.parts.Phase.TheVariants.{Reading, Read}
use Rattle.store_workers.specs.declared.workers.parts.Phase.TheVariants.{Refused, Again, Waiting}
use Rattle.store_workers.specs.declared.workers.parts.State.{State}

-- ---- what is taken

-- one that passes, where any does
found_any : {X : Type 0} (test : X → Bool) (P : X → Type 0) (xs : List X) → All P xs → list_any test xs ≡ true
    → (x : X) × P x × (test x ≡ true)
found_any test P [] all some = absurd (true≢false (sym some))
found_any {X = X} test P (x ∷ xs) all some =
    by (test x) refl some (found_any test P xs (All-tail P x xs all))
  where
    by : (passes : Bool) → test x ≡ passes → (passes || list_any test xs) ≡ true
        → (list_any test xs ≡ true → (y : X) × P y × (test y ≡ true)) → (y : X) × P y × (test y ≡ true)
    by true is some rest = (x, All-head P x xs all, is)
    by false is some rest = rest some

-- a hold of a transaction is its own
owner_at : (core : CoreState) (tx : ℕ) (addr : Addr) (hold : Hold) → taken_by core tx addr ≡ Some hold
    → hold.transaction ≡ tx
owner_at core tx addr hold is =
    let found = found_by (is_hold_of tx addr) core.holds hold is in
    let four = all_four (nat_eq hold.transaction tx) (nat_eq hold.addr.block.0 addr.block.0)
    (nat_eq hold.addr.offset addr.offset) (nat_eq hold.addr.len addr.len) found.0 in
    eqb-true hold.transaction tx four.0

-- two blocks of one number are one
one_block : (one other : BlockNo) → one.0 ≡ other.0 → one ≡ other
one_block one other same = let block_of : ℕ → BlockNo = λ number. record { 0 = number } in ap block_of same

-- what shares a byte
shared_by : (addr other : Addr) (mode : Mode) → shares (range_request_at addr mode) other ≡ true → Overlap other addr
shared_by addr other mode so =
    let (leading, last) = and_parts
    (nat_eq other.block.0 addr.block.0 && nat_lt other.offset (addr.offset + addr.len))
    (nat_lt addr.offset (other.offset + other.len)) so in
    let (same, first) = and_parts (nat_eq other.block.0 addr.block.0)
    (nat_lt other.offset (addr.offset + addr.len)) leading in (
      one_block other.block addr.block (eqb-true other.block.0 addr.block.0 same),
      ltb-true other.offset (addr.offset + addr.len) first,
      ltb-true addr.offset (other.offset + other.len) last,
    )

-- a whole block does with each part of it
whole_shares : (block : BlockNo) (addr other : Addr) → nat_eq block.0 addr.block.0 ≡ true → IsWhole block other
    → Overlap other addr
whole_shares block addr other same whole =
    let low = whole.1 in let long = whole.2 in let some = addr.some in let within = addr.within in (
      whole.0 ∙ one_block block addr.block (eqb-true block.0 addr.block.0 same),
      omega (arith, low, some),
      omega (arith, low, long, some, within),
    )

-- ---- what is told of one worker

module _ (w : State) where
  abbrev mine : Begun
  mine = begun_of w.begun.tx (seen_in w.work.planner) w.known

  -- what it is told to have taken it has noted, in a transaction
  module _ (request : RangeRequest) where
    of_stage : (job : Option Job) (stage : Stage) → has_taken request (at_stage job stage) ≡ true
        → stage_takes request stage ≡ true
    of_stage None stage so = absurd (true≢false (sym so))
    of_stage (Some job) stage so = so

    of_fetch : (stage : how.Taken → Stage)
        → ((taken : how.Taken) → stage_takes request (stage taken) ≡ takes request mine) → (mode : Mode) (fetch_addr : Option Addr)
        → stage_takes request (at_fetch stage mine mode fetch_addr) ≡ true → takes request mine ≡ true
    of_fetch stage same mode None so = so
    of_fetch stage same mode (Some addr) so = sym (same (taken_as mode addr)) ∙ so

    traced_in : (phase : Phase) → has_taken request (progress_in phase w.work.job mine w.asked w.known) ≡ true
        → (has_transaction phase ≡ true) × (takes request mine ≡ true)
    traced_in Idle so = absurd (true≢false (sym so))
    traced_in Called so = absurd (true≢false (sym (of_stage w.work.job (how.Called (known_in w.known)) so)))
    traced_in Planning so = (refl, of_stage w.work.job (how.Planning mine) so)
    traced_in Reading so = (
      refl,
      of_fetch (λ taken. how.Reading mine taken) (λ taken. refl) w.asked.mode w.asked.fetch_addr
          (of_stage w.work.job (at_fetch (λ taken. how.Reading mine taken) mine w.asked.mode w.asked.fetch_addr) so),
    )
    traced_in (Read ok) so = (
      refl,
      of_fetch (λ taken. how.Read mine taken ok) (λ taken. refl) w.asked.mode w.asked.fetch_addr
          (of_stage w.work.job (at_fetch (λ taken. how.Read mine taken ok) mine w.asked.mode w.asked.fetch_addr) so),
    )
    traced_in (Refused why) so = (refl, of_stage w.work.job (how.Refused mine why) so)
    traced_in Again so = (refl, of_stage w.work.job (how.Again mine w.known.off) so)
    traced_in (Waiting place) so =
        absurd (true≢false (sym (of_stage w.asked.waiting (how.Waiting place.0) so)))

  -- what isn't so of a stage isn't so of who is there
  not_at : (is : Progress → Bool) → is how.Idle ≡ false → (job : Option Job) (stage : Stage)
      → ((j : how.Job) → is (how.At j stage) ≡ false) → is (at_stage job stage) ≡ true → ⊥
  not_at is idle None stage never so = true≢false (sym so ∙ idle)
  not_at is idle (Some job) stage never so = true≢false (sym so ∙ never (handed job))

  -- and what it is told to fetch it fetches
  module _ (block : BlockNo) where
    fetch_at : (stage : how.Taken → Stage)
        → ((j : how.Job) (taken : how.Taken) → fetches block (how.At j (stage taken))
        ≡ nat_eq taken.addr.block.0 block.0) → IsFetchOf w
        → fetches block (at_stage w.work.job (at_fetch stage mine w.asked.mode w.asked.fetch_addr)) ≡ true
        → IsFetchAt block w.begun.io
    fetch_at stage tells has = by w.work.job w.asked.fetch_addr has
      where
        same_at : (addr : Addr) (io : Option Fetch) → IsSomeAnd io (λ (io : Fetch). io.block ≡ addr.block)
            → addr.block ≡ block → IsFetchAt block io
        same_at addr None at same = absurd at
        same_at addr (Some io) at same = at ∙ same

        by : (job : Option Job) (fetch_addr : Option Addr)
            → IsSomeAnd fetch_addr (λ addr. IsSomeAnd w.begun.io (λ (io : Fetch). io.block ≡ addr.block))
            → fetches block (at_stage job (at_fetch stage mine w.asked.mode fetch_addr)) ≡ true → IsFetchAt block w.begun.io
        by None fetch_addr at so = absurd (true≢false (sym so))
        by (Some job) None at so = absurd at
        by (Some job) (Some addr) at so =
            same_at addr w.begun.io at (one_block addr.block block (eqb-true addr.block.0 block.0
            (sym (tells (handed job) (taken_as w.asked.mode addr)) ∙ so)))

    fetch_in : (boot : ℕ) (entries : List Entry) (phase : Phase) → StandsAt boot entries phase w
        → fetches block (progress_in phase w.work.job mine w.asked w.known) ≡ true → IsFetchAt block w.begun.io
    fetch_in boot entries Idle stands so = absurd (true≢false (sym so))
    fetch_in boot entries Called stands so =
        absurd (not_at (fetches block) refl w.work.job (how.Called (known_in w.known)) (λ j. refl) so)
    fetch_in boot entries Planning stands so = absurd (not_at (fetches block) refl w.work.job (how.Planning mine) (λ j. refl) so)
    fetch_in boot entries Reading stands so =
        fetch_at (λ taken. how.Reading mine taken) (λ j taken. refl) stands.1 so
    fetch_in boot entries (Read ok) stands so =
        fetch_at (λ taken. how.Read mine taken ok) (λ j taken. refl) stands.1 so
    fetch_in boot entries (Refused why) stands so =
        absurd (not_at (fetches block) refl w.work.job (how.Refused mine why) (λ j. refl) so)
    fetch_in boot entries Again stands so =
        absurd (not_at (fetches block) refl w.work.job (how.Again mine w.known.off) (λ j. refl) so)
    fetch_in boot entries (Waiting place) stands so =
        absurd (not_at (fetches block) refl w.asked.waiting (how.Waiting place.0) (λ j. refl) so)

  -- and of a block that isn't in memory it is told to have no object, while it goes by its plan
  module _ (block : BlockNo) (core : CoreState) (absent : in_memory core block ≡ None) where
    not_loaded : (tx : ℕ) (one : LockRequest) → IsLockRequestLoaded core tx one → is_object_in block one ≡ true → ⊥
    not_loaded tx (lock_request.Object addr mode) is same =
        let none : Some is.content ≡ None = sym is.there
        ∙ ap (λ (b : BlockNo). in_memory core b) (one_block addr.block block (eqb-true addr.block.0 block.0 same))
        ∙ absent in
        cc
    not_loaded tx (lock_request.Claim claimed) is same = true≢false (sym same)

    of_plan : (job : Option Job) → has_loaded block (at_stage job (how.Planning mine)) ≡ true
        → list_any (is_object_in block) w.known.taken ≡ true
    of_plan None so = absurd (true≢false (sym so))
    of_plan (Some job) so = so

    none_loaded : (found : Option ℕ) → IsSomeAnd found (λ number. All (IsLockRequestLoaded core number) w.known.taken)
        → list_any (is_object_in block) w.known.taken ≡ true → ⊥
    none_loaded None loads so = loads
    none_loaded (Some tx) loads so =
        let (one, is, same) = found_any (is_object_in block) (IsLockRequestLoaded core tx) w.known.taken loads so in
        not_loaded tx one is same

    is_there : (P : Addr → Type 0) (fetch_addr : Option Addr) → IsSomeAnd fetch_addr P → is_some fetch_addr ≡ true
    is_there P None has = absurd has
    is_there P (Some addr) has = refl

    has_fetch_addr : (found : Option ℕ) → FetchesFor found w.asked w.known core → is_some w.asked.fetch_addr ≡ true
    has_fetch_addr None loads = absurd loads
    has_fetch_addr (Some tx) loads =
        is_there (λ addr. at_work.has_taken core tx addr ≡ true) w.asked.fetch_addr loads.1

    of_fetching : (stage : how.Taken → Stage)
        → ((j : how.Job) (taken : how.Taken) → has_loaded block (how.At j (stage taken)) ≡ false)
        → (fetch_addr : Option Addr) → is_some fetch_addr ≡ true
        → has_loaded block (at_stage w.work.job (at_fetch stage mine w.asked.mode fetch_addr)) ≡ true → ⊥
    of_fetching stage never None there so = true≢false (sym there)
    of_fetching stage never (Some addr) there so =
        not_at (has_loaded block) refl w.work.job (stage (taken_as w.asked.mode addr))
        (λ j. never j (taken_as w.asked.mode addr)) so

    loaded_in : (phase : Phase) → LoadsFor phase w.begun.tx w.asked w.known core
        → has_loaded block (progress_in phase w.work.job mine w.asked w.known) ≡ true → ⊥
    loaded_in Idle loads so = true≢false (sym so)
    loaded_in Called loads so =
        not_at (has_loaded block) refl w.work.job (how.Called (known_in w.known)) (λ j. refl) so
    loaded_in Planning loads so = none_loaded w.begun.tx loads (of_plan w.work.job so)
    loaded_in Reading loads so = of_fetching (λ taken. how.Reading mine taken) (λ j taken. refl) w.asked.fetch_addr
        (has_fetch_addr w.begun.tx loads) so
    loaded_in (Read ok) loads so = of_fetching (λ taken. how.Read mine taken ok) (λ j taken. refl) w.asked.fetch_addr
        (has_fetch_addr w.begun.tx loads) so
    loaded_in (Refused why) loads so =
        not_at (has_loaded block) refl w.work.job (how.Refused mine why) (λ j. refl) so
    loaded_in Again loads so =
        not_at (has_loaded block) refl w.work.job (how.Again mine w.known.off) (λ j. refl) so
    loaded_in (Waiting place) loads so =
        not_at (has_loaded block) refl w.asked.waiting (how.Waiting place.0) (λ j. refl) so

-- ---- what the others leave free

-- what is taken in a mode that covers one which keeps a lock request off keeps it off
excluded : (held had mode : Mode) → covers held had ≡ true → (is_exclusive had || is_exclusive mode) ≡ true
    → Excludes held mode
excluded modes.Exclusive had mode much off = inl refl
excluded modes.Shared modes.Exclusive mode much off = absurd (true≢false (sym much))
excluded modes.Shared modes.Shared modes.Exclusive much off = inr refl
excluded modes.Shared modes.Shared modes.Shared much off = absurd (true≢false (sym off))

module _ (boot : ℕ) (entries : List Entry) (run_state : RunState) (core : CoreState) (workers : List State) (number : ℕ)
    (worker : State) (well_formed : IsWellFormed core) (share : ShareCore core workers) (is : IsOneOf workers number worker)
    (each : (other : ℕ) (w : State) → IsOneOf workers other w
    → (run_state.workers other ≡ progress_of w) × IsWorkerAt boot entries w × IsAtWork w core)
    (beyond : (other : ℕ) → slice_get workers other ≡ None → run_state.workers other ≡ how.Idle)
    (tx : ℕ) (tx_is : worker.begun.tx ≡ Some tx) (addr : Addr) (mode : Mode) where
  abbrev request : RangeRequest
  request = range_request_at addr mode

  -- nothing of what another has taken has a byte of what is free
  module _ (free : IsFree core.holds tx addr mode) (other : ℕ) (differs : other ≢ number) (w : State)
      (w_is : IsOneOf workers other w) (t : ℕ) (t_is : w.begun.tx ≡ Some t) where
    clash : (a : Addr) (had : Mode) → Overlap a addr → IsTakenAs core t a had
        → (is_exclusive had || is_exclusive mode) ≡ true → ⊥
    clash a had over taken off = by (taken_by core t a) refl taken
      where
        by : (found : Option Hold) → taken_by core t a ≡ found
            → IsSomeAnd found (λ (hold : Hold). covers hold.mode had ≡ true) → ⊥
        by None none taken = absurd taken
        by (Some hold) hold_is much =
            let (there, at) = taken_at core t well_formed a hold hold_is in
            let own : IsHoldOf tx addr hold = All-contains
            (λ (h : Hold). Overlap h.addr addr → ConflictsWith tx mode h → IsHoldOf tx addr h) core.holds
            hold free.others there (subst (λ (b : Addr). Overlap b addr) (sym at) over)
            (inr (excluded hold.mode had mode much off)) in
            let same : t ≡ tx = sym (owner_at core t a hold hold_is) ∙ own.0 in
            differs (share.one_owner other number tx w worker w_is is (t_is ∙ ap (λ (n : ℕ). Some n) same) tx_is)

    one_clash : (one : LockRequest) → IsTakenIn core t one → lock_request_conflicts request one ≡ true → ⊥
    one_clash (lock_request.Object a by) taken off =
        let (over, exclusive_too) = and_parts (shares request a) (is_exclusive by || is_exclusive mode) off in
        clash a by (shared_by addr a mode over) taken exclusive_too
    one_clash (lock_request.Claim block) taken off =
        clash taken.0 modes.Exclusive (whole_shares block addr taken.0 off taken.1) taken.2 refl

    never_traced : TracesTaken core t w.known.taken → takes request (mine w) ≡ true → ⊥
    never_traced traces some =
        let (one, taken, off) = found_any (lock_request_conflicts request) (IsTakenIn core t) w.known.taken traces.taken some in
        one_clash one taken off

  never_taken : IsFree core.holds tx addr mode → (other : ℕ) → other ≢ number
      → (found : Option State) → slice_get workers other ≡ found
      → has_taken request (run_state.workers other) ≡ true → ⊥
  never_taken free other differs None none so =
      true≢false (sym so ∙ ap (has_taken request) (beyond other none))
  never_taken free other differs (Some w) w_is so =
      let (progress_of_each, stands, at) = each other w w_is in
      let (out, some) = traced_in w request w.phase (sym (ap (has_taken request) progress_of_each) ∙ so) in
      by w.begun.tx refl (at.with.sound.transaction ∙ out) at.traces some
    where
      by : (found : Option ℕ) → w.begun.tx ≡ found → is_some found ≡ true
          → IfSome found (λ t. TracesTaken core t w.known.taken) → takes request (mine w) ≡ true → ⊥
      by None none out traces some = true≢false (sym out)
      by (Some t) t_is out traces some = never_traced free other differs w w_is t t_is traces some

  -- and no other fetches a block of which no fetch is pending
  never_fetched : is_fetching core addr.block ≡ false → (other : ℕ) → (found : Option State)
      → slice_get workers other ≡ found → fetches addr.block (run_state.workers other) ≡ true → ⊥
  never_fetched settled other None none so =
      true≢false (sym so ∙ ap (fetches addr.block) (beyond other none))
  never_fetched settled other (Some w) w_is so =
      let (progress_of_each, stands, at) = each other w w_is in
      pending_at w.begun.io (fetch_in w addr.block boot entries w.phase stands.stands
      (sym (ap (fetches addr.block) progress_of_each) ∙ so)) (share.fetched other w w_is)
    where
      pending_at : (io : Option Fetch) → IsFetchAt addr.block io
          → IfSome io (λ (found : Fetch). is_fetching core found.block ≡ true) → ⊥
      pending_at None at pending = absurd at
      pending_at (Some io) at pending =
          true≢false (sym pending ∙ ap (λ (b : BlockNo). is_fetching core b) at ∙ settled)

  pub left_free : IsOpen core tx addr mode → IsLeftFree run_state number request
  left_free left = record {
    free = λ other differs. false_from_ne_true (has_taken request (run_state.workers other))
        (never_taken left.free other differs (slice_get workers other) refl);
    settled = λ other differs. false_from_ne_true (fetches addr.block (run_state.workers other))
        (never_fetched left.settled other (slice_get workers other) refl);
  }

  -- nor has another an object in memory of a block that isn't there
  never_loaded : in_memory core addr.block ≡ None → (other : ℕ) → (found : Option State)
      → slice_get workers other ≡ found → has_loaded addr.block (run_state.workers other) ≡ true → ⊥
  never_loaded absent other None none so =
      true≢false (sym so ∙ ap (has_loaded addr.block) (beyond other none))
  never_loaded absent other (Some w) w_is so =
      let (progress_of_each, stands, at) = each other w w_is in
      loaded_in w addr.block core absent w.phase at.loads (sym (ap (has_loaded addr.block) progress_of_each) ∙ so)

  pub none_loaded_by_others : in_memory core addr.block ≡ None → IsSoOfNoOther run_state number (has_loaded addr.block)
  none_loaded_by_others absent = λ other differs. false_from_ne_true (has_loaded addr.block (run_state.workers other))
      (never_loaded absent other (slice_get workers other) refl)
