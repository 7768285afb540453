-- Each step of a worker is one that may be made.
use Rattle.std.proofs.Common.{◌≡◌, ◌≢◌, ◌∙◌, ◌↔◌, refl, sym, ap, subst, true≢false, ℕ, ◌+◌, ◌^◌, ◌≤◌, arith, Bool, alloc_error}
use Rattle.std.proofs.Common.{true, false, ◌&&◌, ◌||◌, nat_eq, nat_le, IsTrue, Option, Some, None, List, [], ◌∷◌}
use Rattle.std.proofs.Common.{◌<◌, ◌⊎◌, inl, inr, length, map, All, IfSome}
use Rattle.std.proofs.Common.{Ok, Err}
use Rattle.std.specs.Prelude.{IsSomeAnd}
use Rattle.std.specs.List.{list_any}
use Rattle.std.proofs.lemmas.List.Folds.{list_any_none}
use Rattle.std.proofs.lemmas.Bool.{eqb-true}
use Rattle.std.proofs.lemmas.Bool.Decides.{nat_tests}
use Rattle.std.proofs.lemmas.List.Elements.{All-weaker}
use Rattle.disk.specs.Crash.{Image}
use Rattle.disk.specs.Device.{Content}
use Rattle.disk.specs.declared.block.BlockNo.{BlockNo}
use Rattle.base.specs.declared.TheConstants.{CHANGED_BLOCKS}
use Rattle.layout.specs.declared.geometry.Geometry.{Geometry}
use Rattle.nfs_spec.specs.Model.Entry.{Entry}
use Rattle.nfs_spec.specs.Model.Calls.{begins_transaction}
use Rattle.nfs_spec.specs.Model.Tree.{Tree}
use Rattle.objects.specs.declared.addr.Addr.{Addr}
use Rattle.objects.specs.declared.mode.Mode.{Mode}
use Rattle.procs.proofs.FewClaimed.{claimed_object}
use Rattle.procs.specs.Asks.{Asks, Claims}
use Rattle.procs.specs.Outcome.{Outcome}
use Rattle.procs.specs.declared.next.Plan.TheVariants as plan
use Rattle.inode.specs.Snap.{is_claimed, is_had}
use Rattle.layout.proofs.OnGrid.{at_home}
use Rattle.txn.specs.Outcomes.{IsClaimed, IsCommit, IsWanted}
use Rattle.txn.specs.LockAnswers.{IsWhole}
use Rattle.txn.specs.declared.outcomes.BeginFault.{BeginFault}
use Rattle.txn.specs.declared.outcomes.BeginFault.TheVariants as fault
use Rattle.txn.specs.declared.outcomes.Claim.{Claim}
use Rattle.txn.specs.declared.outcomes.Claim.TheVariants as claim
use Rattle.txn.specs.declared.outcomes.Commit.{Commit}
use Rattle.txn.specs.declared.outcomes.Commit.TheVariants as commit
use Rattle.txn.specs.declared.outcomes.Want.{Want}
use Rattle.txn.specs.declared.outcomes.Want.TheVariants as want
use Rattle.txn_law.specs.Commit.{Planned}
use Rattle.txn_law.specs.Core.{CoreState, IsOut}
use Rattle.txn_law.specs.Fetch.{Fetch}
use Rattle.txn_law.specs.Group.{blocks_of}
use Rattle.txn_law.specs.Leaves.{in_memory}
use Rattle.txn_law.specs.Object.{ObjectBytes}
use Rattle.objects.proofs.Residents.{same_block}
use Rattle.circ.specs.Log.Log.{IsHomeOn, settled_place, tail_after}
use Rattle.circ.specs.Log.Room.{HasPlaces}
use Rattle.circ.specs.declared.log.outcomes.Seq.{Seq}
use Rattle.store_promise.specs.LogState.{LogState, state_settled}
use Rattle.store_promise.specs.Progress.{Begun, Progress, RangeRequest, has_part_exclusive, has_taken, is_fetching}
use Rattle.store_promise.specs.Progress.{has_loaded, is_object_in}
use Rattle.store_promise.specs.declared.lock_requests.LockRequest.{LockRequest}
use Rattle.store_promise.specs.declared.lock_requests.LockRequest.TheVariants as lock_request
use Rattle.store_promise.specs.Progress as how
use Rattle.store_promise.specs.Running.{IsRunningOver, IsRunState, StoreState}
use Rattle.store_promise.specs.Schedule.{HasNumbers, IsAskedFor, IsBeginning, IsClaimAskedFor, IsClaimAnswer}
use Rattle.store_promise.specs.Schedule.{IsCommitting, IsLeftFree, IsRetaking, IsStepRetakingFirst, IsStepByPlan}
use Rattle.store_promise.specs.Schedule.{IsStepOfCalled, IsStepOfWork}
use Rattle.store_promise.specs.Schedule.{IsStepOfWaiting, IsLockAnswer, Setting, RunState, is_held}
use Rattle.store_promise.specs.Schedule as schedule
use Rattle.store_promise.specs.LogStateOf.{log_state_of}
use Rattle.store_promise.specs.declared.events.Committing.TheVariants as committing
use Rattle.store_promise.specs.declared.events.Ending.TheVariants as ending
use Rattle.store_promise.specs.declared.events.Step.{Step}
use Rattle.store_promise.specs.declared.events.Step.TheVariants as step
use Rattle.store_promise.specs.declared.events.LockAnswer.TheVariants as lock_answer
use Rattle.store_promise.proofs.LogStateIs.{numbers_are, settled_is}
use Rattle.circ.proofs.LogLemmas.Tail.{tail_length}
use Rattle.store_promise.specs.LogState.{state_added, state_tail_after}
use Rattle.txn_law.proofs.Once.{once_of}
use Rattle.store.proofs.RunsLemmas.AtWorkStays.{some_of}
use Rattle.store_workers.proofs.LoneWorker.{has_of, never_deferred}
use Rattle.store_workers.proofs.PlansStay.{request_by}
use Rattle.store_workers.proofs.WorkCases.{Cases, IsRequested, by_cases}
use Rattle.store_workers.specs.Single.{HasOfCall, LeavesNothing, HasTakenInPlan, is_deferred}
use Rattle.store_workers.specs.Unaffected.{IsLeftOf, TracesAll, TracesTaken}
use Rattle.store_workers.specs.Knowing.{Knowing, known_in}
use Rattle.store.specs.Runs.AtWork.{IsLockRequestLoaded, IsCoreAtWork, Loads, LoadsFor, TracesFor}
use Rattle.store.proofs.RunsLemmas.NamedBlocks.{named_exclusive}
use Rattle.store.proofs.RunsLemmas.LockDeferred.{IsCaused}
use Rattle.store_workers.specs.Seen.{Seen, seen_in, seen_of}
use Rattle.store_workers.proofs.HeldAs.{held_as}
use Rattle.store_workers.specs.Stages.{IsFetchOf, IsJobIn, IsWorkerAt, RunsIn, StandsAt, at_fetch}
use Rattle.store_workers.specs.Stages.{at_stage, begun_of}
use Rattle.store_workers.specs.Stages.{progress_in, progress_of}
use Rattle.store_workers.specs.WorkerAnswers.{claim_answer, committing_of, want_answer}
use Rattle.store_workers.specs.WorkerSteps.{GoesOn, HasClaimed, HasCommitted, HasLacked, HasWanted, IsNext}
use Rattle.store_workers.specs.WorkerSteps.{WorkerAndCore}
use Rattle.txn.specs.Outcomes.{IsNoBeginning}
use Rattle.store_workers.specs.WorkerSteps.{given_step, planned_of, worker_and_core}
use Rattle.store_workers.specs.declared.workers.parts.Job.{Job}
use Rattle.store_workers.specs.declared.workers.parts.Phase.{Phase}
use Rattle.store_workers.specs.declared.workers.parts.Phase.TheVariants.{Planning, Read, Reading}
use Rattle.store_workers.specs.declared.workers.parts.State.{State}

-- ---- what was read

-- a block that is in memory isn't one that isn't
differs : (core : CoreState) (one other : BlockNo) (content : Content) → in_memory core one ≡ Some content
    → in_memory core other ≡ None → nat_eq one.0 other.0 ≡ false
differs core one other content there absent = by (nat_eq one.0 other.0) refl
  where
    by : (same : Bool) → nat_eq one.0 other.0 ≡ same → same ≡ false
    by false is = refl
    by true is = absurd (let at = same_block one other (eqb-true one.0 other.0 is) in
        let none : Some content ≡ None = sym there ∙ ap (λ (b : BlockNo). in_memory core b) at ∙ absent in cc)

-- ---- a lock request

module _ (run_state : RunState) (worker : ℕ) (core : CoreState) (tx : ℕ) (knowing : Knowing) (is_out : IsOut core tx)
    (loaded : All (IsLockRequestLoaded core tx) knowing.taken) where
  -- nothing of a block that has to be fetched was had
  not_loaded : (block : BlockNo) → in_memory core block ≡ None
      → list_any (is_object_in block) knowing.taken ≡ false
  not_loaded block absent =
      list_any_none (is_object_in block) knowing.taken (All-weaker (IsLockRequestLoaded core tx)
      (λ (one : LockRequest). is_object_in block one ≡ false) apart knowing.taken loaded)
    where
      apart : (one : LockRequest) → IsLockRequestLoaded core tx one → is_object_in block one ≡ false
      apart (lock_request.Object a mode) is = differs core a.block block is.content is.there absent
      apart (lock_request.Claim claimed) is = refl

  pub want_may : (addr : Addr) (mode : Mode) → IsHomeOn core.log.blocks addr.block → (found : Option ℕ) (seen : Option Seen)
      → (new : CoreState) (answer : Want) → IsWanted core tx addr mode answer new
      → IsCaused run_state worker (Some (step.Wanted addr mode (want_answer answer)))
      → IsLockAnswer run_state worker (begun_of found seen knowing) (schedule.range_request_at addr mode) (want_answer answer)
  want_may addr mode home found seen new (want.Held back bytes) is caused = caused
  want_may addr mode home found seen new (want.NoMemory back error) is caused = caused
  want_may addr mode home found seen new (want.Busy back) is caused = caused
  want_may addr mode home found seen new (want.Loading back) is caused = caused
  want_may addr mode home found seen new (want.Outside back) is caused =
      absurd (is.1 (record { out = is_out; home = home }))
  want_may addr mode home found seen new (want.Fetch back io) is caused =
      (caused.0, not_loaded addr.block is.2.absent, caused.1)

  pub claim_may : (block : BlockNo) (addr : Addr) → IsHomeOn core.log.blocks addr.block → (begun : Begun)
      → (new : CoreState) (answer : Claim) → IsClaimed core tx addr answer new
      → IsCaused run_state worker (Some (step.Claimed block (claim_answer answer)))
      → IsClaimAnswer run_state worker begun block (claim_answer answer)
  claim_may block addr home begun new (claim.Held back) is caused = caused
  claim_may block addr home begun new (claim.NoMemory back error) is caused = caused
  claim_may block addr home begun new (claim.Busy back) is caused = caused
  claim_may block addr home begun new (claim.Loading back) is caused = caused
  claim_may block addr home begun new (claim.Outside back) is caused =
      absurd (is.1 (record { out = is_out; home = home }))

-- ---- a step by a plan

module _ (o : Setting) (run_state : RunState) (worker : ℕ) (base : Image) (store : StoreState)
    (fetches : List Fetch) (boot : ℕ)
    (first last : Tree) (entries : List Entry)
    (run : IsRunningOver o base store fetches boot first entries last)
    (state_agrees : IsRunState o run_state store) (inodes : o.geometry.inodes ≡ store.core.inodes)
    (tx : ℕ) (seen : Seen) (knowing : Knowing) (is_out : IsOut store.core tx) (has : HasOfCall tx store.core seen)
    (loaded : All (IsLockRequestLoaded store.core tx) knowing.taken)
    (one_geometry : (g h : Geometry) → g.version ≡ h.version → g.blocks ≡ h.blocks → g.inodes ≡ h.inodes → g ≡ h) where
  abbrev begun : Begun
  begun = begun_of (Some tx) (Some seen) knowing

  geometry_is : seen.geometry ≡ o.geometry
  geometry_is = one_geometry seen.geometry o.geometry (has.newest ∙ sym run.newest) (has.blocks ∙ sym run.blocks)
      (has.inodes ∙ sym inodes)

  module _ (addr : Addr) (mode : Mode) (asks : Asks seen.geometry addr)
      (new_to_it : is_had addr mode seen.objects seen.exclusives ≡ false) where
    asked_for : IsAskedFor o begun addr mode
    asked_for = record {
      unheld = held_as addr mode seen.exclusives seen.objects ∙ new_to_it;
      asks = subst (λ (g : Geometry). Asks g addr) geometry_is asks;
    }

    lock_answer_may : (new : CoreState) (answer : Want) → IsWanted store.core tx addr mode answer new
        → IsCaused run_state worker (Some (step.Wanted addr mode (want_answer answer)))
        → IsLockAnswer run_state worker begun (schedule.range_request_at addr mode) (want_answer answer)
    lock_answer_may new answer is caused = want_may run_state worker store.core tx knowing is_out loaded addr mode
        (subst (λ (n : ℕ). IsHomeOn n addr.block) has.blocks (at_home seen.geometry addr asks)) (Some tx) (Some seen)
        new answer is caused

    pub wanted_may : (new : CoreState) (answer : Want) → IsWanted store.core tx addr mode answer new
        → IsCaused run_state worker (Some (step.Wanted addr mode (want_answer answer)))
        → IsStepByPlan o run_state worker begun (step.Wanted addr mode (want_answer answer))
    wanted_may new answer is caused = (asked_for, lock_answer_may new answer is caused)

  module _ (block : BlockNo) (claims : Claims seen.geometry block)
      (new_to_it : is_claimed block seen.claims ≡ false) (addr : Addr) (whole : IsWhole block addr) where
    claim_asked_for : IsClaimAskedFor o begun block
    claim_asked_for = record {
      unclaimed = new_to_it;
      claims = subst (λ (g : Geometry). Claims g block) geometry_is claims;
    }

    pub claimed_may : (new : CoreState) (answer : Claim) → IsClaimed store.core tx addr answer new
        → IsCaused run_state worker (Some (step.Claimed block (claim_answer answer)))
        → IsStepByPlan o run_state worker begun (step.Claimed block (claim_answer answer))
    claimed_may new answer is caused = (
      claim_asked_for,
      claim_may run_state worker store.core tx knowing is_out loaded block addr
          (subst (λ (n : ℕ). IsHomeOn n addr.block) has.blocks
          (at_home seen.geometry addr (claimed_object seen.geometry block addr claims whole)))
          begun new answer is caused,
    )

-- ---- a commit

module _ (o : Setting) (base : Image) (store : StoreState) (fetches : List Fetch) (boot : ℕ) (first last : Tree)
    (entries : List Entry) (run : IsRunningOver o base store fetches boot first entries last) (tx : ℕ)
    (plan : Planned) where
  abbrev log : LogState
  log = log_state_of o.position store.core.log store.logging store.installing

  abbrev added : List BlockNo
  added = blocks_of plan.written

  -- what is told of the tail is what it has
  held : state_tail_after log added ≡ tail_after store.core.log added
  held = ap (λ (n : ℕ). n + state_added log added) (tail_length store.core.log)

  numbers : HasNumbers o log added ↔ HasPlaces store.core.log (blocks_of plan.written)
  numbers = numbers_are o store.core.log store.logging store.installing (blocks_of plan.written)
      run.since.over.lawful run.position

  by_answer : {C : Type 0} (run_state : RunState) (worker : ℕ) (change : C) (answer : Commit C) (new : CoreState)
      → IsCommit store.core tx plan change answer new
      → IsCaused run_state worker (Some (step.Commit added (committing_of answer)))
      → IsCommitting o log added (committing_of answer)
  by_answer run_state worker change (commit.Committed receipt) new is caused =
      (is.tried.sound, is.next, numbers.1 is.tried.log_space.0, let fits = is.tried.log_space.1 in omega (arith, held, fits))
  by_answer run_state worker change (commit.Full back same) new is caused =
      (is.1.sound, numbers.1 is.1.log_space.0, let fits = is.1.log_space.1 in omega (arith, held, fits))
  by_answer run_state worker change (commit.Foreign back same) new is caused = absurd caused
  by_answer run_state worker change (commit.NoMemory back same error) new is caused =
      (is.1.sound, numbers.1 is.1.log_space.0, let fits = is.1.log_space.1 in omega (arith, held, fits))
  by_answer run_state worker change (commit.Broken back same) new is caused = is.1
  by_answer run_state worker change (commit.Spent back same) new is caused = (is.1.sound, λ has. is.1.log_space (numbers.0 has))

  pub commit_may : {C : Type 0} (run_state : RunState) (worker : ℕ) (far : Begun) (change : C)
      (answer : Commit C) (new : CoreState) → IsRunState o run_state store
      → length (blocks_of plan.written) ≤ CHANGED_BLOCKS
      → All (λ (block : BlockNo). has_part_exclusive block far ≡ true) added
      → IsCommit store.core tx plan change answer new
      → IsCaused run_state worker (Some (step.Commit added (committing_of answer)))
      → IsStepByPlan o run_state worker far (step.Commit added (committing_of answer))
  commit_may run_state worker far change answer new state_agrees few taken is caused = (
    record { once = once_of plan.written; few = few; taken = taken },
    subst (λ (l : LogState). IsCommitting o l added (committing_of answer)) (sym state_agrees.log)
        (by_answer run_state worker change answer new is caused),
  )

-- ---- a place that is waited for

waits_by : (log settled : ℕ) (place : ℕ) (found : Bool) → settled ≡ log → IsTrue found ↔ (place ≤ log)
    → found ≡ nat_le place settled
waits_by log settled place true same is =
    let within = is.0 refl in grind (arith, nat_tests)
waits_by log settled place false same is = by (nat_le place settled) refl
  where
    by : (least : Bool) → nat_le place settled ≡ least → false ≡ least
    by false at = refl
    by true at = absurd (let le : place ≤ log = grind (arith, nat_tests) in true≢false (sym (is.1 le)))

pub waits_may : (o : Setting) (run_state : RunState) (base : Image) (store : StoreState) (fetches : List Fetch) (boot : ℕ)
    (first last : Tree) (entries : List Entry) → IsRunningOver o base store fetches boot first entries last
    → IsRunState o run_state store → (place : Seq) (settled : Bool)
    → IsTrue settled ↔ (place.0 ≤ settled_place store.core.log)
    → IsStepOfWaiting run_state.log place.0 (step.Stable place settled)
waits_may o run_state base store fetches boot first last entries run state_agrees place settled is = (
  refl,
  waits_by (settled_place store.core.log) (state_settled run_state.log) place.0 settled
      (ap (λ (l : LogState). state_settled l) state_agrees.log
      ∙ settled_is o.position store.core.log store.logging store.installing run.since.over.lawful) is,
)

-- ---- any step

module _ (o : Setting) (run_state : RunState) (number : ℕ) (base : Image) (store : StoreState)
    (fetches : List Fetch) (boot : ℕ)
    (first last : Tree) (entries : List Entry)
    (run : IsRunningOver o base store fetches boot first entries last)
    (state_agrees : IsRunState o run_state store) (inodes : o.geometry.inodes ≡ store.core.inodes)
    (worker : State) (new : WorkerAndCore)
    (one_geometry : (g h : Geometry) → g.version ≡ h.version → g.blocks ≡ h.blocks → g.inodes ≡ h.inodes → g ≡ h)
    (is_out : IfSome worker.begun.tx (IsOut store.core))
    (left_of : worker.phase ≡ Planning → IsLeftOf worker)
    (traces : worker.phase ≡ Planning → TracesAll worker store.core) where
  abbrev old : WorkerAndCore
  old = worker_and_core worker store.core

  abbrev all_begun : Begun
  all_begun = begun_of worker.begun.tx (seen_in worker.work.planner) worker.known

  -- the step may be made by a worker that is so far
  abbrev MayFrom : Progress → Option Step → Type 0
  MayFrom progress made = IsStepOfWork o run_state number progress made

  abbrev May : Phase → Option Step → Type 0
  May phase made = worker.phase ≡ phase → HasTakenInPlan phase worker store.core
      → LoadsFor phase worker.begun.tx worker.asked worker.known store.core
      → StandsAt boot entries phase worker → IsCaused run_state number made
      → MayFrom (progress_in phase worker.work.job all_begun worker.asked worker.known) made

  broken_is : run_state.log.broken ≡ store.core.log.broken
  broken_is = ap (λ (log : LogState). log.broken) state_agrees.log

  -- a call begins
  from_called : (job : Job) (served : Bool) (made : Step) → worker.work.job ≡ Some job
      → begins_transaction job.call ≡ served
      → IsStepOfCalled run_state served made → MayFrom (at_stage worker.work.job (how.Called (known_in worker.known))) (Some made)
  from_called job served made job_is is may =
      subst (λ (found : Option Job). MayFrom (at_stage found (how.Called (known_in worker.known))) (Some made)) (sym job_is)
      (subst (λ (b : Bool). IsStepOfCalled run_state b made) (sym is) may)

  begun_may : (one : ℕ) → one ≡ store.core.begun + 1 → store.core.log.broken ≡ false
      → IsBeginning run_state (step.Begun (Ok one))
  begun_may one is sound = (broken_is ∙ sound, is ∙ ap (λ (n : ℕ). n + 1) (sym state_agrees.begun))

  not_begun_may : (why : BeginFault) → IsNoBeginning why store.core → IsBeginning run_state (step.Begun (Err why))
  not_begun_may fault.Broken none = broken_is ∙ none
  not_begun_may fault.Spent none = (
    broken_is ∙ none.0,
    subst (λ (n : ℕ). 2 ^ 64 ≤ n + 1) (sym state_agrees.begun) (let spent = none.1 in omega (arith, spent)),
  )
  not_begun_may (fault.NoMemory error) none = (
    broken_is ∙ none.0,
    subst (λ (n : ℕ). n + 1 < 2 ^ 64) (sym state_agrees.begun) none.1,
  )

  -- its transaction is out
  out_in : (tx : ℕ) → worker.begun.tx ≡ Some tx → IsOut store.core tx
  out_in tx tx_is = subst (λ (o : Option ℕ). IfSome o (IsOut store.core)) tx_is is_out

  -- it goes by a plan
  from_plan : (job : Job) (tx : ℕ) (seen : Seen) (made : Step) → worker.work.job ≡ Some job
      → worker.begun.tx ≡ Some tx → seen_in worker.work.planner ≡ Some seen → worker.known.left ≡ []
      → IsStepByPlan o run_state number (begun_of (Some tx) (Some seen) worker.known) made
      → MayFrom (at_stage worker.work.job (how.Planning all_begun)) (Some made)
  from_plan job tx seen made job_is tx_is seen_is none may =
      subst (λ (found : Option Job). MayFrom (at_stage found (how.Planning all_begun)) (Some made)) (sym job_is)
      (subst (λ (left : List LockRequest). IsStepRetakingFirst left o run_state number all_begun made) (sym none)
      (subst (λ (begun : Begun). IsStepByPlan o run_state number begun made)
      (λ i. begun_of (sym tx_is i) (sym seen_is i) worker.known) may))

  -- it takes again what was left
  from_left : (job : Job) (one : LockRequest) (later : List LockRequest) (made : Step) → worker.work.job ≡ Some job
      → worker.known.left ≡ one ∷ later → IsRetaking run_state number all_begun one made
      → MayFrom (at_stage worker.work.job (how.Planning all_begun)) (Some made)
  from_left job one later made job_is some may =
      subst (λ (found : Option Job). MayFrom (at_stage found (how.Planning all_begun)) (Some made)) (sym job_is)
      (subst (λ (left : List LockRequest). IsStepRetakingFirst left o run_state number all_begun made) (sym some) may)

  wanted_so : (tx : ℕ) (addr : Addr) (mode : Mode) (made : Step) → worker.begun.tx ≡ Some tx
      → IsRequested worker (lock_request.Object addr mode) (plan.Need addr mode) → (has : HasWanted tx addr mode old made new)
      → May Planning (Some (step.Wanted addr mode (want_answer has.answer)))
  wanted_so tx addr mode made tx_is request has at plans loads stands caused = by request.why
    where
      loaded : All (IsLockRequestLoaded store.core tx) worker.known.taken
      loaded = some_of (λ n. All (IsLockRequestLoaded store.core n) worker.known.taken) worker.begun.tx tx tx_is loads

      by : ((worker.known.left ≡ []) × IsNext worker (plan.Need addr mode))
          ⊎ ((later : List LockRequest) × (worker.known.left ≡ lock_request.Object addr mode ∷ later))
          → MayFrom (at_stage worker.work.job (how.Planning all_begun))
          (Some (step.Wanted addr mode (want_answer has.answer)))
      by (inl (none, is)) =
          from_plan is.job tx (seen_of is.snap) _ is.job_is tx_is is.snap_is none
          (wanted_may o run_state number base store fetches boot first last entries run state_agrees inodes tx
          (seen_of is.snap) worker.known (out_in tx tx_is)
          (has_of worker store.core is.job tx (seen_of is.snap) is.job_is tx_is is.snap_is plans)
          loaded one_geometry addr mode is.plan.1 is.plan.0 new.core has.answer has.core caused)
      by (inr (later, some)) =
          let it = request_by worker (lock_request.Object addr mode) (plan.Need addr mode) (λ seen. Unit {0})
          (λ snap planned. (planned.1, tt)) (left_of at) request in
          let of_call = has_of worker store.core it.job tx (seen_of it.snap) it.job_is tx_is it.snap_is plans in
          from_left it.job (lock_request.Object addr mode) later _ it.job_is some (
            refl,
            want_may run_state number store.core tx worker.known (out_in tx tx_is) loaded addr mode
                (subst (λ (n : ℕ). IsHomeOn n addr.block) of_call.blocks
                (at_home it.snap.geometry addr it.is_lock_request))
                worker.begun.tx (seen_in worker.work.planner) new.core has.answer has.core caused,
          )

  claimed_so : (tx : ℕ) (block : BlockNo) (made : Step) → worker.begun.tx ≡ Some tx
      → IsRequested worker (lock_request.Claim block) (plan.Claim block) → (has : HasClaimed tx block old made new)
      → May Planning (Some (step.Claimed block (claim_answer has.answer)))
  claimed_so tx block made tx_is request has at plans loads stands caused = by request.why
    where
      loaded : All (IsLockRequestLoaded store.core tx) worker.known.taken
      loaded = some_of (λ n. All (IsLockRequestLoaded store.core n) worker.known.taken) worker.begun.tx tx tx_is loads

      by : ((worker.known.left ≡ []) × IsNext worker (plan.Claim block))
          ⊎ ((later : List LockRequest) × (worker.known.left ≡ lock_request.Claim block ∷ later))
          → MayFrom (at_stage worker.work.job (how.Planning all_begun))
          (Some (step.Claimed block (claim_answer has.answer)))
      by (inl (none, is)) =
          from_plan is.job tx (seen_of is.snap) _ is.job_is tx_is is.snap_is none
          (claimed_may o run_state number base store fetches boot first last entries run state_agrees inodes tx
          (seen_of is.snap) worker.known (out_in tx tx_is)
          (has_of worker store.core is.job tx (seen_of is.snap) is.job_is tx_is is.snap_is plans)
          loaded one_geometry block is.plan.1 is.plan.0 has.core.0 has.core.1 new.core has.answer has.core.2 caused)
      by (inr (later, some)) =
          let it = request_by worker (lock_request.Claim block) (plan.Claim block) (λ seen. Unit {0})
          (λ snap planned. (planned.1, tt)) (left_of at) request in
          let of_call = has_of worker store.core it.job tx (seen_of it.snap) it.job_is tx_is it.snap_is plans in
          from_left it.job (lock_request.Claim block) later _ it.job_is some (
            refl,
            claim_may run_state number store.core tx worker.known (out_in tx tx_is) loaded block has.core.0
                (subst (λ (n : ℕ). IsHomeOn n has.core.0.block) of_call.blocks
                (at_home it.snap.geometry has.core.0
                (claimed_object it.snap.geometry block has.core.0 it.is_lock_request has.core.1)))
                all_begun new.core has.answer has.core.2 caused,
          )

  committed_so : (job : Job) (tx : ℕ) (done : Outcome) (made : Step) → worker.begun.tx ≡ Some tx
      → IsNext worker (plan.Done done) → worker.known.left ≡ [] → worker.work.job ≡ Some job
      → (has : HasCommitted job tx done old made new)
      → May Planning (Some (step.Commit (blocks_of done.written)
      (committing_of has.answer)))
  committed_so job tx done made tx_is is none job_is has at plans loads stands caused =
      from_plan is.job tx (seen_of is.snap) _ is.job_is tx_is is.snap_is none
      (commit_may o base store fetches boot first last entries run tx (planned_of done) run_state number
      (begun_of (Some tx) (Some (seen_of is.snap)) worker.known) done has.answer new.core
      state_agrees is.plan.1
      (named_exclusive store.core tx worker.known.taken (subst (λ (found : Option ℕ).
      IfSome found (λ (n : ℕ). TracesTaken store.core n worker.known.taken)) tx_is (traces at)) is.snap
      run.since.over.well_formed (out_in tx tx_is)
      (has_of worker store.core is.job tx (seen_of is.snap) is.job_is tx_is is.snap_is plans) done is.plan.0)
      has.core caused)

  lacked_so : (tx : ℕ) (made : Step) → worker.begun.tx ≡ Some tx → worker.known.left ≡ []
      → HasLacked tx old made new
      → May Planning (Some (step.Ended (ending.NoMemory alloc_error)))
  lacked_so tx made tx_is none has at plans loads stands caused = by worker.work.job plans
    where
      by : (job : Option Job) → IsSomeAnd job (λ job. IsSomeAnd worker.begun.tx (λ t.
          IsSomeAnd (seen_in worker.work.planner) (λ seen. HasOfCall t store.core seen)))
          → MayFrom (at_stage job (how.Planning all_begun)) (Some (step.Ended (ending.NoMemory alloc_error)))
      by None plans = absurd plans
      by (Some job) plans = subst (λ (left : List LockRequest). IsStepRetakingFirst left o run_state number all_begun
          (step.Ended (ending.NoMemory alloc_error))) (sym none) tt

  -- its read is due, or made
  reading_so : RunsIn boot worker × IsFetchOf worker
      → MayFrom (progress_in Reading worker.work.job all_begun worker.asked worker.known) None
  reading_so stands = by worker.work.job worker.asked.fetch_addr stands.0 stands.1
    where
      by : (job : Option Job) (fetch_addr : Option Addr) → IsSomeAnd job (λ j. IsJobIn boot worker.begun.tx j)
          → IsSomeAnd fetch_addr (λ addr. IsSomeAnd worker.begun.io (λ (io : Fetch). io.block ≡ addr.block))
          → MayFrom (at_stage job (at_fetch (λ taken. how.Reading all_begun taken) all_begun worker.asked.mode fetch_addr)) None
      by None fetch_addr job_in at = absurd job_in
      by (Some job) None job_in at = absurd at
      by (Some job) (Some addr) job_in at = refl

  given_so : (ok : Bool) (io : Fetch) → worker.begun.io ≡ Some io → RunsIn boot worker × IsFetchOf worker
      → MayFrom (progress_in (Read ok) worker.work.job all_begun worker.asked worker.known) (Some (given_step ok io))
  given_so ok io io_is stands = by worker.work.job worker.asked.fetch_addr ok stands.0
      (subst (λ (found : Option Fetch). IsSomeAnd worker.asked.fetch_addr (λ addr.
      IsSomeAnd found (λ (one : Fetch). one.block ≡ addr.block))) io_is stands.1)
    where
      by : (job : Option Job) (fetch_addr : Option Addr) (ok : Bool)
          → IsSomeAnd job (λ j. IsJobIn boot worker.begun.tx j)
          → IsSomeAnd fetch_addr (λ addr. io.block ≡ addr.block)
          → MayFrom (at_stage job (at_fetch (λ taken. how.Read all_begun taken ok) all_begun worker.asked.mode fetch_addr))
          (Some (given_step ok io))
      by None fetch_addr ok job_in at = absurd job_in
      by (Some job) None ok job_in at = absurd at
      by (Some job) (Some addr) true job_in at = ap (λ (block : BlockNo). step.Fetched block) at
      by (Some job) (Some addr) false job_in at = ap (λ (block : BlockNo). step.FetchFailed block) at

  left_so : RunsIn boot worker → MayFrom (at_stage worker.work.job (how.Again all_begun worker.known.off))
      (Some (step.Ended ending.Again))
  left_so stands = by worker.work.job stands
    where
      by : (job : Option Job) → IsSomeAnd job (λ j. IsJobIn boot worker.begun.tx j)
          → MayFrom (at_stage job (how.Again all_begun worker.known.off)) (Some (step.Ended ending.Again))
      by None job_in = absurd job_in
      by (Some job) job_in = refl

  may_cases : Cases old new May
  may_cases = record {
    idle = λ is at plans loads stands caused. refl;
    reading = λ is at plans loads stands caused. reading_so stands;
    begun = λ job one job_is served has at plans loads stands caused.
        from_called job true (step.Begun (Ok one)) job_is served (begun_may one has.next has.sound);
    not_begun = λ job why job_is served none core is at plans loads stands caused.
        from_called job true (step.Begun (Err why)) job_is served (not_begun_may why none);
    replied = λ job job_is served core is at plans loads stands caused.
        from_called job false step.Replied job_is served refl;
    wanted = wanted_so;
    claimed = claimed_so;
    committed = committed_so;
    lacked = lacked_so;
    given = λ ok io made io_is has at plans loads stands caused. given_so ok io io_is stands;
    refused = λ why job tx made job_is tx_is has at plans loads stands caused.
        subst (λ (found : Option Job). MayFrom (at_stage found (how.Refused all_begun why))
        (Some (step.Ended ending.Refused))) (sym job_is) refl;
    left = λ tx made tx_is has at plans loads stands caused. left_so stands;
    waited = λ place made has at plans loads stands caused.
        subst (λ (found : Option Job). MayFrom (at_stage found (how.Waiting place.0))
        (Some (step.Stable place has.settled))) (sym stands.job_is)
        (waits_may o run_state base store fetches boot first last entries run state_agrees place has.settled
        has.settled_is);
  }

  pub step_may_by : (made : Option Step) → GoesOn worker.phase old made new
      → HasTakenInPlan worker.phase worker store.core → Loads worker store.core → IsWorkerAt boot entries worker
      → IsCaused run_state number made → MayFrom (progress_of worker) made
  step_may_by made goes plans loads worker_at caused =
      by_cases old new May may_cases worker.phase made goes refl plans loads worker_at.stands caused

-- ---- a worker that is alone

-- nothing is left to be taken again
none_left_of : (worker : State) → LeavesNothing worker.phase worker.known → worker.phase ≡ Planning
    → IsLeftOf worker
none_left_of worker nothing phase_is next later some =
    let none : worker.known.left ≡ [] = subst (λ (p : Phase). LeavesNothing p worker.known) phase_is nothing in
    let never : next ∷ later ≡ [] = sym some ∙ none in cc

-- where no other has a call, all is left free, and what isn't kept off needs no other cause
module _ (run_state : RunState) (number : ℕ) (idle : (other : ℕ) → other ≢ number → run_state.workers other ≡ how.Idle) where
  left_free : (request : RangeRequest) → IsLeftFree run_state number request
  left_free request = record {
    free = λ other differs. ap (has_taken request) (idle other differs);
    settled = λ other differs. ap (is_fetching request.block) (idle other differs);
  }

  not_caused : (made : Option Step) → is_deferred made ≡ false → IsCaused run_state number made
  not_caused (Some (step.Wanted addr mode lock_answer.Busy)) off = absurd (true≢false off)
  not_caused (Some (step.Wanted addr mode lock_answer.Loading)) off = absurd (true≢false off)
  not_caused (Some (step.Wanted addr mode lock_answer.Held)) off = left_free (schedule.range_request_at addr mode)
  not_caused (Some (step.Wanted addr mode lock_answer.Fetch)) off =
      (left_free (schedule.range_request_at addr mode), λ other differs. ap (has_loaded addr.block) (idle other differs))
  not_caused (Some (step.Wanted addr mode lock_answer.Outside)) off = tt
  not_caused (Some (step.Wanted addr mode (lock_answer.NoMemory error))) off = left_free (schedule.range_request_at addr mode)
  not_caused (Some (step.Claimed block lock_answer.Busy)) off = absurd (true≢false off)
  not_caused (Some (step.Claimed block lock_answer.Loading)) off = absurd (true≢false off)
  not_caused (Some (step.Claimed block lock_answer.Held)) off = left_free (schedule.whole_block_request block)
  not_caused (Some (step.Claimed block lock_answer.Fetch)) off = tt
  not_caused (Some (step.Claimed block lock_answer.Outside)) off = tt
  not_caused (Some (step.Claimed block (lock_answer.NoMemory error))) off = left_free (schedule.whole_block_request block)
  not_caused (Some (step.Commit count committing.Foreign)) off = absurd (true≢false off)
  not_caused (Some (step.Commit count (committing.Committed place))) off = tt
  not_caused (Some (step.Commit count committing.Full)) off = tt
  not_caused (Some (step.Commit count (committing.NoMemory error))) off = tt
  not_caused (Some (step.Commit count committing.Broken)) off = tt
  not_caused (Some (step.Commit count committing.Spent)) off = tt
  not_caused None off = tt
  not_caused (Some _) off = tt

pub step_may : (o : Setting) (run_state : RunState) (number : ℕ) (base : Image) (store : StoreState)
    (fetches : List Fetch) (boot : ℕ) (first last : Tree) (entries : List Entry)
    (run : IsRunningOver o base store fetches boot first entries last) (state_agrees : IsRunState o run_state store)
    (idle : (other : ℕ) → other ≢ number → run_state.workers other ≡ how.Idle)
    (inodes : o.geometry.inodes ≡ store.core.inodes) (worker : State) (new : WorkerAndCore)
    (one_geometry : (g h : Geometry) → g.version ≡ h.version → g.blocks ≡ h.blocks → g.inodes ≡ h.inodes → g ≡ h)
    (made : Option Step)
    → GoesOn worker.phase (worker_and_core worker store.core) made new → IsCoreAtWork worker store.core
    → IsWorkerAt boot entries worker → IsStepOfWork o run_state number (progress_of worker) made
step_may o run_state number base store fetches boot first last entries run state_agrees idle inodes worker new one_geometry
    made goes at worker_at =
    step_may_by o run_state number base store fetches boot first last entries run state_agrees inodes worker new
    one_geometry at.with.core_of.out (none_left_of worker at.single_worker.left)
    (λ (planning : worker.phase ≡ Planning). subst (λ (p : Phase). TracesFor p worker store.core) planning at.traces)
    made goes at.single_worker.plans at.loads worker_at
    (not_caused run_state number idle made
    (never_deferred (worker_and_core worker store.core) new run.since.over.well_formed at.single_worker.out at.single_worker.fetches worker.phase made
    at.with.sound.fetch at.single_worker.plans at.single_worker.left goes))
