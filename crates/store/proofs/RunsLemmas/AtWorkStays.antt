-- A core stays at work for its worker by each step: what was fetched is in memory while the worker goes by
-- its plans.
use Rattle.std.proofs.Common.{◌+◌, ◌≡◌, ◌∙◌, refl, sym, ap, subst, true≢false, ℕ, Bool, true, false, Option, Some}
use Rattle.std.proofs.Common.{None, inl, inr, if◌then◌else◌}
use Rattle.std.proofs.Common.{List, [], All}
use Rattle.std.specs.Prelude.{IfSome, IsSomeAnd, is_some, nat_eq, option_to_list}
use Rattle.std.specs.List.{list_any}
use Rattle.std.proofs.lemmas.Bool.{eq-eqb}
use Rattle.std.proofs.lemmas.List.Elements.{All-contains, All-nil, All-weaker}
use Rattle.disk.specs.declared.block.BlockNo.{BlockNo}
use Rattle.nfs_spec.specs.Model.Entry.{Entry}
use Rattle.nfs_spec.specs.Model.Calls.{is_answered_stable}
use Rattle.nfs_types.specs.declared.reply.Reply.{Reply}
use Rattle.objects.specs.declared.addr.Addr.{Addr}
use Rattle.objects.specs.Mode.{upgraded}
use Rattle.objects.specs.declared.mode.Mode.{Mode}
use Rattle.procs.specs.Outcome.{Outcome}
use Rattle.circ.specs.declared.log.outcomes.Seq.{Seq}
use Rattle.txn.specs.Outcomes.{IsClaimed, IsCommit, IsWanted}
use Rattle.txn.specs.declared.outcomes.Claim.{Claim}
use Rattle.txn.specs.declared.outcomes.Claim.TheVariants as claim
use Rattle.txn.specs.declared.outcomes.Commit.{Commit}
use Rattle.txn.specs.declared.outcomes.Commit.TheVariants as commit
use Rattle.txn.specs.declared.outcomes.Want.{Want}
use Rattle.txn.specs.declared.outcomes.Want.TheVariants as want
use Rattle.txn_law.specs.Core.{CoreState}
use Rattle.txn_law.specs.Fetch.{Fetch}
use Rattle.txn_law.specs.Group.{blocks_of}
use Rattle.txn_law.specs.Leaves.{Leaves, is_fetching, taken_by, without_fetch}
use Rattle.txn_law.specs.Holds.{is_hold_of}
use Rattle.txn_law.specs.WellFormed.{IsWellFormed, IsOfOne}
use Rattle.txn_law.proofs.Claims.{found_by}
use Rattle.store_promise.specs.declared.answers.Verdict.TheVariants as verdict
use Rattle.store_promise.specs.declared.events.Step.{Step}
use Rattle.store_promise.specs.declared.events.Step.TheVariants as step
use Rattle.store_promise.specs.LockRequests.{inserted, is_barred, upgraded_by}
use Rattle.store_promise.specs.declared.lock_requests.LockRequest.{LockRequest}
use Rattle.store_promise.specs.declared.lock_requests.LockRequest.TheVariants as lock_request
use Rattle.store_promise.proofs.RisingLockRequests.{all_more}
use Rattle.store.proofs.RunsLemmas.AtWorkFetched.{now_given, now_held, one_claimed, one_given, one_held, one_wanted}
use Rattle.store.proofs.RunsLemmas.AtWorkFetched.{wanted_taken}
use Rattle.store_workers.proofs.TracesAll.{traces_still}
use Rattle.store_workers.proofs.PlansStay.{plans_stay}
use Rattle.store_workers.proofs.StaysSingle.{stays_single}
use Rattle.store_workers.proofs.WorkCases.{Cases, by_cases}
use Rattle.store_workers.specs.Single.{HasOfCall, HasTaken, IsSingleOut, HasTakenInPlan, StaysSingle, is_full}
use Rattle.store_images.specs.Fetches.{FetchesOnly}
use Rattle.store_workers.specs.Unaffected.{IsFetchedBy, IsLeftOf, NoneTakenBeyond, TracesAll, TracesTaken}
use Rattle.store_workers.specs.Phases.{has_transaction}
use Rattle.store.specs.Runs.AtWork.{FetchesFor, IsLockRequestLoaded, IsAtWork, IsCoreAtWork, IsLoadedBut, IsLoadedFor, Loads}
use Rattle.store.specs.Runs.AtWork.{LoadsFor, TracesFor, has_taken}
use Rattle.store_workers.specs.Asked.{Asking}
use Rattle.store_workers.specs.Knowing.{with_off}
use Rattle.store_workers.specs.Seen.{Seen, seen_in}
use Rattle.store_workers.specs.Stages.{IsFetchOf, IsWorkerAt, StandsAt}
use Rattle.store_workers.specs.RunReports.{reported}
use Rattle.store_workers.specs.Worker.{GoesWith}
use Rattle.store_workers.specs.WorkerAnswers.{after_commit, asked_wanted, begun_claimed, begun_wanted}
use Rattle.store_workers.specs.WorkerAnswers.{committing_of, known_claimed, known_off, known_wanted}
use Rattle.store_workers.specs.WorkerAnswers.{phase_claimed, phase_off, phase_wanted}
use Rattle.store_workers.specs.WorkerAnswers.{answered_or_waiting, with_answer, with_entry}
use Rattle.store_workers.specs.WorkerSteps.{GoesOn, HasGivenBack, IsReplySent, PreservesReadsOf, WorkerAndCore}
use Rattle.store_workers.specs.WorkerSteps.{given_step, planned_of, there_given}
use Rattle.store_workers.specs.declared.workers.parts.Job.{Job}
use Rattle.store_workers.specs.declared.workers.parts.Phase.{Phase}
use Rattle.store_workers.specs.declared.workers.parts.Phase.TheVariants.{Idle, Called, Planning}
use Rattle.store_workers.specs.declared.workers.parts.Phase.TheVariants.{Reading, Read}
use Rattle.store_workers.specs.declared.workers.parts.Phase.TheVariants.{Refused, Again, Waiting}
use Rattle.store_workers.specs.declared.workers.parts.State.{State}

-- what holds of what is there, holds of this
pub some_of : {X : Type 0} (P : X → Type 0) (found : Option X) (one : X) → found ≡ Some one
    → IsSomeAnd found P → P one
some_of P found one is has = subst (λ o. IsSomeAnd o P) is has

module _ (old new : WorkerAndCore) where
  loads_by : (worker : State) → new.worker ≡ worker → Loads worker new.core → Loads new.worker new.core
  loads_by worker is loads = subst (λ (w : State). Loads w new.core) (sym is) loads

  loads_same : (phase : Phase) → new ≡ old → old.worker.phase ≡ phase
      → LoadsFor phase old.worker.begun.tx old.worker.asked old.worker.known old.core → Loads new.worker new.core
  loads_same phase is phase_is loads = subst (λ (s : WorkerAndCore). Loads s.worker s.core) (sym is)
      (subst (λ (p : Phase). LoadsFor p old.worker.begun.tx old.worker.asked old.worker.known old.core)
      (sym phase_is) loads)

  abbrev taken : List LockRequest
  taken = old.worker.known.taken

  abbrev AreLoaded : CoreState → ℕ → Type 0
  AreLoaded core tx = All (IsLockRequestLoaded core tx) taken

  same_loads : (back tx : ℕ) → back ≡ tx → new.core ≡ old.core → AreLoaded old.core tx → AreLoaded new.core back
  same_loads back tx is same loaded = subst (λ (n : ℕ). AreLoaded new.core n) (sym is)
      (subst (λ (c : CoreState). AreLoaded c tx) (sym same) loaded)

  -- who is kept off has what it had
  off_loads : (request : LockRequest) (back tx : ℕ) (has_space : Bool) (asked : Asking) → back ≡ tx → new.core ≡ old.core
      → AreLoaded old.core tx
      → LoadsFor (phase_off request old.worker.known) (Some back) asked
      (known_off request (record old.worker.known { has_space = has_space })) new.core
  off_loads request back tx has_space asked is same loaded = by (is_barred request taken)
    where
      by : (above : Bool) → LoadsFor (if above then Again else Planning) (Some back) asked
          (if above then with_off request (record old.worker.known { has_space = has_space })
          else record old.worker.known { has_space = has_space }) new.core
      by true = tt
      by false = same_loads back tx is same loaded

  -- each that was loaded is so still
  more_loaded : (tx : ℕ) → ((a : Addr) → IsLoadedFor old.core tx a → IsLoadedFor new.core tx a)
      → (one : LockRequest) → IsLockRequestLoaded old.core tx one → IsLockRequestLoaded new.core tx one
  more_loaded tx still (lock_request.Object addr mode) is = still addr is
  more_loaded tx still (lock_request.Claim block) is = tt

  more_but : (tx : ℕ) (fetch_addr : Option Addr)
      → ((a : Addr) → IsLoadedFor old.core tx a → IsLoadedFor new.core tx a)
      → (one : LockRequest) → IsLockRequestLoaded old.core tx one → IsLoadedBut fetch_addr new.core tx one
  more_but tx fetch_addr still (lock_request.Object addr mode) is = inl (still addr is)
  more_but tx fetch_addr still (lock_request.Claim block) is = tt

  -- what is so of an object, whatever its mode, is so once that is raised
  upgraded_loaded : (one first : LockRequest) (P : LockRequest → Type 0)
      → ((addr : Addr) (mode other : Mode) → P (lock_request.Object addr mode) → P (lock_request.Object addr other)) → P first
      → P (upgraded_by one first)
  upgraded_loaded (lock_request.Object asked request) (lock_request.Object addr mode) P so is = so addr mode (upgraded mode request) is
  upgraded_loaded (lock_request.Object asked request) (lock_request.Claim block) P so is = is
  upgraded_loaded (lock_request.Claim block) first P so is = is

  -- a lock request to read
  wanted_loads : (tx : ℕ) (addr : Addr) (mode : Mode) (has_space : Bool) (answer : Want)
      → IsWanted old.core tx addr mode answer new.core → AreLoaded old.core tx
      → LoadsFor (phase_wanted addr mode answer old.worker.known) (begun_wanted answer).tx
      (asked_wanted addr mode answer old.worker.asked)
      (known_wanted addr mode answer (record old.worker.known { has_space = has_space })) new.core
  wanted_loads tx addr mode has_space (want.Held back bytes) is loaded =
      subst (λ (n : ℕ). All (IsLockRequestLoaded new.core n) (inserted (lock_request.Object addr mode) taken)) (sym is.0)
      (all_more (lock_request.Object addr mode) (IsLockRequestLoaded new.core tx) taken
      (now_held old.core new.core tx [] addr mode bytes is.2)
      (λ first same. upgraded_loaded (lock_request.Object addr mode) first (IsLockRequestLoaded new.core tx) (λ a one other is. is))
      (All-weaker (IsLockRequestLoaded old.core tx) (IsLockRequestLoaded new.core tx)
      (more_loaded tx (one_held old.core new.core tx [] addr mode bytes is.2)) taken loaded))
  wanted_loads tx addr mode has_space (want.Fetch back io) is loaded =
      subst (λ (n : ℕ). All (IsLoadedBut (Some addr) new.core n) (inserted (lock_request.Object addr mode) taken)
      × (has_taken new.core n addr ≡ true)) (sym is.0) (
        all_more (lock_request.Object addr mode) (IsLoadedBut (Some addr) new.core tx) taken (inr refl)
            (λ first same. upgraded_loaded (lock_request.Object addr mode) first (IsLoadedBut (Some addr) new.core tx)
            (λ a one other is. is))
            (All-weaker (IsLockRequestLoaded old.core tx) (IsLoadedBut (Some addr) new.core tx)
            (more_but tx (Some addr) (one_wanted old.core new.core tx [] addr mode io is.2)) taken loaded),
        wanted_taken old.core new.core tx [] addr mode io is.2,
      )
  wanted_loads tx addr mode has_space (want.Busy back) is loaded =
      off_loads (lock_request.Object addr mode) back tx has_space old.worker.asked is.0 is.2 loaded
  wanted_loads tx addr mode has_space (want.Loading back) is loaded =
      off_loads (lock_request.Object addr mode) back tx has_space old.worker.asked is.0 is.2 loaded
  wanted_loads tx addr mode has_space (want.Outside back) is loaded = tt
  wanted_loads tx addr mode has_space (want.NoMemory back error) is loaded = tt

  -- a lock request to claim
  claimed_loads : (tx : ℕ) (block : BlockNo) (addr : Addr) (has_space : Bool) (answer : Claim)
      → IsClaimed old.core tx addr answer new.core → AreLoaded old.core tx
      → LoadsFor (phase_claimed block answer old.worker.known) (begun_claimed answer).tx old.worker.asked
      (known_claimed block answer (record old.worker.known { has_space = has_space })) new.core
  claimed_loads tx block addr has_space (claim.Held back) is loaded =
      subst (λ (n : ℕ). All (IsLockRequestLoaded new.core n) (inserted (lock_request.Claim block) taken)) (sym is.0)
      (all_more (lock_request.Claim block) (IsLockRequestLoaded new.core tx) taken tt
      (λ first same. upgraded_loaded (lock_request.Claim block) first (IsLockRequestLoaded new.core tx) (λ a one other is. is))
      (All-weaker (IsLockRequestLoaded old.core tx) (IsLockRequestLoaded new.core tx)
      (more_loaded tx (one_claimed old.core new.core tx [] addr is.2)) taken loaded))
  claimed_loads tx block addr has_space (claim.Busy back) is loaded =
      off_loads (lock_request.Claim block) back tx has_space old.worker.asked is.0 is.2 loaded
  claimed_loads tx block addr has_space (claim.Loading back) is loaded =
      off_loads (lock_request.Claim block) back tx has_space old.worker.asked is.0 is.2 loaded
  claimed_loads tx block addr has_space (claim.Outside back) is loaded = tt
  claimed_loads tx block addr has_space (claim.NoMemory back error) is loaded = tt

  -- a commit
  placed_loads : (job : Job) (reply : Reply) (place : Seq) (base : State) (stable : Bool)
      → Loads (with_entry job reply (answered_or_waiting stable job reply place base)) new.core
  placed_loads job reply place base true = tt
  placed_loads job reply place base false = tt

  committed_loads : (tx : ℕ) (job : Job) (done : Outcome) (base : State) (answer : Commit Outcome)
      → base.known.taken ≡ taken → IsCommit old.core tx (planned_of done) done answer new.core
      → AreLoaded old.core tx
      → Loads (after_commit job done.reply answer base) new.core
  committed_loads tx job done base (commit.Committed receipt) same is loaded =
      placed_loads job done.reply receipt.place base (is_answered_stable job.call)
  committed_loads tx job done base (commit.Full back change) same is loaded =
      subst (λ (lock_requests : List LockRequest). All (IsLockRequestLoaded new.core back) lock_requests) (sym same)
      (same_loads back tx is.0.transaction is.0.core loaded)
  committed_loads tx job done base (commit.Foreign back change) same is loaded = tt
  committed_loads tx job done base (commit.NoMemory back change error) same is loaded = tt
  committed_loads tx job done base (commit.Broken back change) same is loaded = tt
  committed_loads tx job done base (commit.Spent back change) same is loaded = tt

  -- a block that was read
  given_loads : (tx : Option ℕ) (asked : Asking) (io : Fetch) → FetchesFor tx asked old.worker.known old.core
      → IsSomeAnd asked.fetch_addr (λ addr. io.block ≡ addr.block) → is_fetching old.core io.block ≡ true
      → Leaves new.core (taken_by old.core) (without_fetch io.block (is_fetching old.core))
      (there_given true io old.core)
      → IsSomeAnd tx (λ number. AreLoaded new.core number)
  given_loads tx asked io has at pending leaves = by tx asked.fetch_addr has at
    where
      by : (tx : Option ℕ) (fetch_addr : Option Addr)
          → IsSomeAnd tx (λ number. All (IsLoadedBut fetch_addr old.core number) taken
          × IsSomeAnd fetch_addr (λ addr. has_taken old.core number addr ≡ true))
          → IsSomeAnd fetch_addr (λ addr. io.block ≡ addr.block)
          → IsSomeAnd tx (λ number. AreLoaded new.core number)
      by None fetch_addr has at = absurd has
      by (Some number) None has at = absurd at
      by (Some number) (Some addr) has at =
          All-weaker (IsLoadedBut (Some addr) old.core number) (IsLockRequestLoaded new.core number) one taken has.0
        where
          one : (it : LockRequest) → IsLoadedBut (Some addr) old.core number it → IsLockRequestLoaded new.core number it
          one (lock_request.Object a mode) (inl is) =
              one_given old.core new.core number [] addr io has.1 at pending leaves a is
          one (lock_request.Object a mode) (inr same) =
              let one : addr ≡ a = cc in
              subst (IsLoadedFor new.core number) one
              (now_given old.core new.core number [] addr io has.1 at pending leaves)
          one (lock_request.Claim block) is = tt

  -- a place that is waited for
  waited_loads : (place : Seq) (settled broken : Bool) → old.worker.phase ≡ Waiting place
      → IsReplySent settled broken place old.worker new.worker → Loads new.worker new.core
  waited_loads place true broken phase_is reply_sent = by old.worker.work.reply reply_sent
    where
      by : (reply : Option Reply) → IsSomeAnd reply (λ one. new.worker
          ≡ with_answer (verdict.Reply one) (Some place)
          (record old.worker { work = record old.worker.work { reply = None } })) → Loads new.worker new.core
      by None reply_sent = absurd reply_sent
      by (Some reply) reply_sent = loads_by _ reply_sent tt
  waited_loads place false true phase_is reply_sent = by old.worker.work.broken_reply reply_sent
    where
      by : (reply : Option Reply) → IsSomeAnd reply (λ one. new.worker
          ≡ with_answer (verdict.Reply one) (Some place)
          (record old.worker { work = record old.worker.work { broken_reply = None } }))
          → Loads new.worker new.core
      by None reply_sent = absurd reply_sent
      by (Some reply) reply_sent = loads_by _ reply_sent tt
  waited_loads place false false phase_is reply_sent =
      loads_by old.worker reply_sent (subst
      (λ (p : Phase). LoadsFor p old.worker.begun.tx old.worker.asked old.worker.known new.core) (sym phase_is) tt)

  module _ (pending : IsFetchedBy old.core old.worker.begun.io) (boot : ℕ) (entries : List Entry) where
    abbrev Stays : Phase → Option Step → Type 0
    Stays phase made = old.worker.phase ≡ phase
        → LoadsFor phase old.worker.begun.tx old.worker.asked old.worker.known old.core
        → StandsAt boot entries phase old.worker → Loads new.worker new.core

    fetch_of : (io : Fetch) → old.worker.begun.io ≡ Some io → IsFetchOf old.worker
        → IsSomeAnd old.worker.asked.fetch_addr (λ addr. io.block ≡ addr.block)
    fetch_of io io_is at = subst (λ (found : Option Fetch). IsSomeAnd old.worker.asked.fetch_addr (λ addr.
        IsSomeAnd found (λ (one : Fetch). one.block ≡ addr.block))) io_is at

    given_so : (ok : Bool) (io : Fetch) (made : Step) → old.worker.begun.io ≡ Some io
        → HasGivenBack ok io old made new → Stays (Read ok) (Some (given_step ok io))
    given_so true io made io_is has phase_is loads at =
        loads_by _ has.worker (given_loads old.worker.begun.tx old.worker.asked io loads
        (fetch_of io io_is at.1)
        (subst (IsFetchedBy old.core) io_is pending) has.leaves)
    given_so false io made io_is has phase_is loads at = loads_by _ has.worker tt

    loads_cases : Cases old new Stays
    loads_cases = record {
      idle = λ is phase_is loads at. loads_same Idle is phase_is tt;
      reading = λ is phase_is loads at. loads_same Reading is phase_is loads;
      begun = λ job number job_is served has phase_is loads at.
          loads_by _ has.worker (All-nil (IsLockRequestLoaded new.core number));
      not_begun = λ job why job_is served none core is phase_is loads at. loads_by _ is tt;
      replied = λ job job_is served core is phase_is loads at. loads_by _ is tt;
      wanted = λ tx addr mode made tx_is next has phase_is loads at.
          loads_by _ has.worker (wanted_loads tx addr mode new.worker.known.has_space has.answer has.core
          (some_of (λ n. AreLoaded old.core n) old.worker.begun.tx tx tx_is loads));
      claimed = λ tx block made tx_is next has phase_is loads at.
          loads_by _ has.worker (claimed_loads tx block has.core.0 new.worker.known.has_space has.answer has.core.2
          (some_of (λ n. AreLoaded old.core n) old.worker.begun.tx tx tx_is loads));
      committed = λ job tx done made tx_is next none job_is has phase_is loads at.
          loads_by _ has.worker (committed_loads tx job done _ has.answer refl has.core
          (some_of (λ n. AreLoaded old.core n) old.worker.begun.tx tx tx_is loads));
      lacked = λ tx made tx_is none has phase_is loads at. loads_by _ has.worker tt;
      given = given_so;
      refused = λ why job tx made job_is tx_is has phase_is loads at. loads_by _ has.worker tt;
      left = λ tx made tx_is has phase_is loads at. loads_by _ has.worker tt;
      waited = λ place made has phase_is loads at.
          waited_loads place has.settled old.core.log.broken phase_is has.is_reply_sent;
    }

    pub loads_still : (made : Option Step) → GoesOn old.worker.phase old made new → Loads old.worker old.core
        → IsWorkerAt boot entries old.worker → Loads new.worker new.core
    loads_still made goes loads at = by_cases old new Stays loads_cases old.worker.phase made goes refl
        loads at.stands

  -- ---- a commit that found no room

  -- what was read is what it was
  abbrev Full : Phase → Option Step → Type 0
  Full phase made = is_full made ≡ true → HasTakenInPlan phase old.worker old.core
      → HasTakenInPlan new.worker.phase new.worker new.core

  no_log_space : (one : Bool) → one ≡ false → one ≡ true → ⊥
  no_log_space one is has_space = true≢false (sym has_space ∙ is)

  full_so : (tx : ℕ) (job : Job) (done : Outcome) (base : State) (answer : Commit Outcome) (added : List BlockNo)
      → old.worker.begun.tx ≡ Some tx → base.work.job ≡ old.worker.work.job
      → base.work.planner ≡ new.worker.work.planner
      → IsCommit old.core tx (planned_of done) done answer new.core
      → new.worker ≡ after_commit job done.reply answer base
      → seen_in new.worker.work.planner ≡ seen_in old.worker.work.planner
      → Full Planning (Some (step.Commit added (committing_of answer)))
  full_so tx job done base (commit.Full back change) added tx_is job_is snap_is core is seen has_space plans =
      subst (λ (p : Phase). HasTakenInPlan p new.worker new.core) (sym (ap (λ (s : State). s.phase) is))
      (subst (λ (j : Option Job). IsSomeAnd j (λ job. IsSomeAnd new.worker.begun.tx (λ t.
      IsSomeAnd (seen_in new.worker.work.planner) (λ s. HasOfCall t new.core s))))
      (sym (ap (λ (s : State). s.work.job) is ∙ job_is))
      (subst (λ (t : Option ℕ). IsSomeAnd old.worker.work.job (λ job. IsSomeAnd t (λ t.
      IsSomeAnd (seen_in new.worker.work.planner) (λ s. HasOfCall t new.core s))))
      (tx_is ∙ ap (λ (n : ℕ). Some n) (sym core.0.transaction) ∙ sym (ap (λ (s : State). s.begun.tx) is))
      (subst (λ (found : Option Seen). IsSomeAnd old.worker.work.job (λ job. IsSomeAnd old.worker.begun.tx (λ t.
      IsSomeAnd found (λ s. HasOfCall t new.core s)))) (sym seen)
      (subst (λ (c : CoreState). HasTaken old.worker c) (sym core.0.core) plans))))
  full_so tx job done base (commit.Committed receipt) added tx_is job_is snap_is core is seen has_space plans =
      absurd (true≢false (sym has_space))
  full_so tx job done base (commit.Foreign back change) added tx_is job_is snap_is core is seen has_space plans =
      absurd (true≢false (sym has_space))
  full_so tx job done base (commit.NoMemory back change error) added tx_is job_is snap_is core is seen has_space plans =
      absurd (true≢false (sym has_space))
  full_so tx job done base (commit.Broken back change) added tx_is job_is snap_is core is seen has_space plans =
      absurd (true≢false (sym has_space))
  full_so tx job done base (commit.Spent back change) added tx_is job_is snap_is core is seen has_space plans =
      absurd (true≢false (sym has_space))

  full_cases : Cases old new Full
  full_cases = record {
    idle = λ is has_space plans. absurd (true≢false (sym has_space));
    reading = λ is has_space plans. absurd (true≢false (sym has_space));
    begun = λ job number job_is served has has_space plans. absurd (true≢false (sym has_space));
    not_begun = λ job why job_is served none core is has_space plans. absurd (true≢false (sym has_space));
    replied = λ job job_is served core is has_space plans. absurd (true≢false (sym has_space));
    wanted = λ tx addr mode made tx_is next has has_space plans. absurd (true≢false (sym has_space));
    claimed = λ tx block made tx_is next has has_space plans. absurd (true≢false (sym has_space));
    committed = λ job tx done made tx_is next none job_is has.
        full_so tx job done _ has.answer (blocks_of done.written) tx_is
        refl refl has.core has.worker has.seen;
    lacked = λ tx made tx_is none has has_space plans. absurd (true≢false (sym has_space));
    given = given_not_full;
    refused = λ why job tx made job_is tx_is has has_space plans. absurd (true≢false (sym has_space));
    left = λ tx made tx_is has has_space plans. absurd (true≢false (sym has_space));
    waited = λ place made has has_space plans. absurd (true≢false (sym has_space));
  }
    where
      given_not_full : (ok : Bool) (io : Fetch) (made : Step) → old.worker.begun.io ≡ Some io
          → HasGivenBack ok io old made new → Full (Read ok) (Some (given_step ok io))
      given_not_full true io made io_is has has_space plans = absurd (true≢false (sym has_space))
      given_not_full false io made io_is has has_space plans = absurd (true≢false (sym has_space))

  plans_by : (made : Option Step) (full : Bool) → is_full made ≡ full → StaysSingle made new.worker new.core
      → (is_full made ≡ true → HasTakenInPlan new.worker.phase new.worker new.core)
      → HasTakenInPlan new.worker.phase new.worker new.core
  plans_by made true has_space stays other = other has_space
  plans_by made false has_space stays other = stays.plans has_space

-- ---- any step

-- what is told of a worker isn't needed for its plans
pub plans_once_reported : (phase : Phase) (worker : State) (core : CoreState) → HasTakenInPlan phase worker core
    → HasTakenInPlan phase (reported worker) core
plans_once_reported Idle worker core plans = tt
plans_once_reported Called worker core plans = tt
plans_once_reported Again worker core plans = tt
plans_once_reported Planning worker core plans = plans
plans_once_reported Reading worker core plans = plans
plans_once_reported (Read ok) worker core plans = plans
plans_once_reported (Refused why) worker core plans = tt
plans_once_reported (Waiting place) worker core plans = tt

-- what it fetches is pending, where nothing else is
fetched_only : (io : Option Fetch) (core : CoreState) → FetchesOnly io core → IsFetchedBy core io
fetched_only None core only = tt
fetched_only (Some io) core only = only io.block ∙ eq-eqb io.block.0 io.block.0 refl

-- where no transaction is out, nothing is taken
none_single : (core : CoreState) → IsWellFormed core → core.out ≡ [] → NoneTakenBeyond core
none_single core well_formed out addr hold taken =
    let found = found_by (is_hold_of (core.begun + 1) addr) core.holds hold taken in
    let owned = (All-contains (IsOfOne core) core.holds hold well_formed.owned found.1).0 in
    true≢false (sym owned ∙ ap (λ (ts : List ℕ). list_any (λ other. nat_eq other hold.transaction) ts) out)

-- noted is what the worker's transaction has taken then, if it has one
module _ (old new : WorkerAndCore) (made : Option Step) (well_formed : IsWellFormed old.core) (out : IsSingleOut old.worker old.core)
    (tx : is_some old.worker.begun.tx ≡ has_transaction old.worker.phase) (goes : GoesOn old.worker.phase old made new)
  where
    still_traced : TracesAll old.worker old.core → TracesAll new.worker new.core
    still_traced traces = traces_still old new
        (λ none. none_single old.core well_formed (out ∙ ap (λ (found : Option ℕ). option_to_list found) none)) traces made tx goes

    none_traced : (found : Option ℕ) → is_some found ≡ false
        → IfSome found (λ n. TracesTaken old.core n old.worker.known.taken)
    none_traced None none = tt
    none_traced (Some n) some = absurd (true≢false some)

    without : (phase : Phase) → old.worker.phase ≡ phase → has_transaction phase ≡ false
        → TracesAll new.worker new.core
    without phase is none = still_traced (none_traced old.worker.begun.tx (tx ∙ ap has_transaction is ∙ none))

    abbrev is_ended : Phase → Bool
    is_ended (Refused why) = true
    is_ended Again = true
    is_ended _ = false

    abbrev Ended : Phase → Option Step → Type 0
    Ended phase made = is_ended phase ≡ true → TracesAll new.worker new.core

    of_state : (state : State) → new.worker ≡ state → TracesAll state new.core → TracesAll new.worker new.core
    of_state state is = subst (λ (s : State). TracesAll s new.core) (sym is)

    ended : Cases old new Ended
    ended = record {
      idle = λ is ends. absurd (true≢false (sym ends));
      reading = λ is ends. absurd (true≢false (sym ends));
      begun = λ job number job_is served has ends. absurd (true≢false (sym ends));
      not_begun = λ job why job_is served none core is ends. absurd (true≢false (sym ends));
      replied = λ job job_is served core is ends. absurd (true≢false (sym ends));
      wanted = λ tx addr mode made tx_is next has ends. absurd (true≢false (sym ends));
      claimed = λ tx block made tx_is next has ends. absurd (true≢false (sym ends));
      committed = λ job tx done made tx_is next none job_is has ends. absurd (true≢false (sym ends));
      lacked = λ tx made tx_is none has ends. absurd (true≢false (sym ends));
      given = λ ok io made io_is has ends. absurd (true≢false (sym ends));
      refused = λ why job tx made job_is tx_is has ends. of_state _ has.worker tt;
      left = λ tx made tx_is has ends. of_state _ has.worker tt;
      waited = λ place made has ends. absurd (true≢false (sym ends));
    }

    pub notes_single : TracesFor old.worker.phase old.worker old.core → TracesAll new.worker new.core
    notes_single traces = by old.worker.phase refl traces
      where
        by : (phase : Phase) → old.worker.phase ≡ phase → TracesFor phase old.worker old.core
            → TracesAll new.worker new.core
        by Idle is traces = without Idle is refl
        by Called is traces = without Called is refl
        by Planning is traces = still_traced traces
        by Reading is traces = still_traced traces
        by (Read ok) is traces = still_traced traces
        by (Refused why) is traces = by_cases old new Ended ended old.worker.phase made goes (ap is_ended is)
        by Again is traces = by_cases old new Ended ended old.worker.phase made goes (ap is_ended is)
        by (Waiting place) is traces = without (Waiting place) is refl

traces_for : (phase : Phase) (worker : State) (core : CoreState) → TracesAll worker core → TracesFor phase worker core
traces_for Idle worker core traces = tt
traces_for Called worker core traces = tt
traces_for Planning worker core traces = traces
traces_for Reading worker core traces = traces
traces_for (Read ok) worker core traces = traces
traces_for (Refused why) worker core traces = tt
traces_for Again worker core traces = tt
traces_for (Waiting place) worker core traces = tt

pub at_work_still : (old new : WorkerAndCore) (made : Option Step) (boot : ℕ) (entries : List Entry)
    → IsCoreAtWork old.worker old.core → IsWorkerAt boot entries old.worker → IsWellFormed old.core
    → PreservesReadsOf old new
    → GoesOn old.worker.phase old made new → GoesWith (reported new.worker) new.core
    → IsCoreAtWork (reported new.worker) new.core
at_work_still old new made boot entries at worker_at well_formed reads goes with =
    let stays = stays_single old new well_formed at.single_worker.out at.single_worker.fetches reads old.worker.phase made refl
    at.with.sound.transaction at.with.sound.fetch at.single_worker.plans at.single_worker.left goes in record {
      with = with;
      single_worker = record {
        out = stays.out;
        fetches = stays.fetches;
        left = stays.left;
        plans = plans_once_reported new.worker.phase new.worker new.core
            (plans_by old new made (is_full made) refl stays (λ has_space.
            by_cases old new (Full old new) (full_cases old new) old.worker.phase made goes has_space
            at.single_worker.plans));
      };
      loads = loads_still old new (fetched_only old.worker.begun.io old.core at.single_worker.fetches) boot entries made goes
          at.loads worker_at;
      traces = traces_for new.worker.phase (reported new.worker) new.core
          (notes_single old new made well_formed at.single_worker.out at.with.sound.transaction goes at.traces);
    }

-- So does a worker beside others: it has of its call what it took, and has noted it.
pub at_work_on : (old new : WorkerAndCore) (made : Option Step) (boot : ℕ) (entries : List Entry)
    → IsAtWork old.worker old.core → IsWorkerAt boot entries old.worker → NoneTakenBeyond old.core
    → (old.worker.phase ≡ Planning → IsLeftOf old.worker) → IsFetchedBy old.core old.worker.begun.io
    → PreservesReadsOf old new
    → GoesOn old.worker.phase old made new → GoesWith (reported new.worker) new.core
    → IsAtWork (reported new.worker) new.core
at_work_on old new made boot entries at worker_at beyond left pending reads goes with = record {
  with = with;
  plans = plans_once_reported new.worker.phase new.worker new.core (plans_stay old new reads beyond left made goes at.plans);
  loads = loads_still old new pending boot entries made goes at.loads worker_at;
  traces = traces_still old new (λ none. beyond) at.traces made at.with.sound.transaction goes;
}
