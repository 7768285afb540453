-- A worker has of its call what it had, by each of its steps, and with it what it takes: also beside others, and
-- where it takes again what its call knew.
use Rattle.std.proofs.Common.{◌≡◌, ◌∙◌, refl, sym, ap, subst, ℕ, ◌⊎◌, inl, inr, Bool, true, false}
use Rattle.std.proofs.Common.{if◌then◌else◌, Option, Some, None, List, [], ◌∷◌, ◌++◌, All}
use Rattle.std.specs.Prelude.{IsSomeAnd}
use Rattle.std.proofs.lemmas.List.Elements.{All-nil, All-push, All-weaker}
use Rattle.disk.specs.declared.block.BlockNo.{BlockNo}
use Rattle.objects.specs.declared.addr.Addr.{Addr}
use Rattle.objects.specs.declared.mode.Mode.{Mode}
use Rattle.nfs_spec.specs.Model.Calls.{is_answered_stable}
use Rattle.nfs_types.specs.declared.reply.Reply.{Reply}
use Rattle.circ.specs.declared.log.outcomes.Seq.{Seq}
use Rattle.procs.proofs.FewAsked.{none_read, read_once}
use Rattle.procs.proofs.FewClaimed.{claimed_object, none_claimed, one_claimed_once}
use Rattle.procs.specs.Asks.{Asks, Claims, WereAskedOnce, WereClaimedOnce}
use Rattle.procs.specs.Outcome.{Outcome}
use Rattle.procs.specs.Planned.{IsPlanFor}
use Rattle.procs.specs.declared.next.Plan.{Plan}
use Rattle.procs.specs.declared.next.Plan.TheVariants as plan
use Rattle.inode.specs.Snap.{is_claimed, with_mode, with_read}
use Rattle.inode.specs.declared.snap.Snap.{Snap}
use Rattle.txn.specs.Claimed.{IsClaimedBy}
use Rattle.txn.specs.Commit.{IsReadBy}
use Rattle.txn.specs.Core.{CoreState}
use Rattle.txn.specs.CoreWindow.{PreservesReads}
use Rattle.txn.specs.Fetch.{Fetch}
use Rattle.txn.specs.Leaves.{taken_by, with_taken}
use Rattle.txn.specs.Object.{ObjectBytes}
use Rattle.txn.specs.Outcomes.{IsClaimed, IsCommit, IsWanted}
use Rattle.txn.specs.declared.outcomes.Claim.{Claim}
use Rattle.txn.specs.declared.outcomes.Claim.TheVariants as claim
use Rattle.txn.specs.declared.outcomes.Commit.{Commit}
use Rattle.txn.specs.declared.outcomes.Commit.TheVariants as commit
use Rattle.txn.specs.declared.outcomes.Want.{Want}
use Rattle.txn.specs.declared.outcomes.Want.TheVariants as want
use Rattle.txn_law.specs.Holds.{for_fetching, for_reading, for_writing, is_written}
use Rattle.txn_law.proofs.TakenBy.{is_hold_by}
use Rattle.txn_law.specs.LockAnswers.{IsFetched, IsHeld, IsTaken, IsWhole}
use Rattle.txn_law.specs.declared.hold.Hold.{Hold}
use Rattle.store_promise.specs.LockRequests.{is_barred}
use Rattle.store_promise.specs.Waiting.{IsLockRequest}
use Rattle.store_promise.specs.declared.lock_requests.LockRequest.{LockRequest}
use Rattle.store_promise.specs.declared.lock_requests.LockRequest.TheVariants as lock_request
use Rattle.store_promise.specs.declared.answers.Verdict.TheVariants as verdict
use Rattle.store_promise.specs.declared.events.Step.{Step}
use Rattle.store_workers.proofs.HowFar.{without_broken_reply, without_reply}
use Rattle.store_workers.proofs.LoneWorker.{has_of, has_so}
use Rattle.store_workers.proofs.StaysSingle.{all_exclusive, all_asked, all_claimed, all_in_mode, all_read, moved}
use Rattle.store_workers.proofs.StaysSingle.{new_exclusive, one_whole, same_taken}
use Rattle.store_workers.proofs.WorkCases.{Cases, IsRequested, by_cases}
use Rattle.store_workers.specs.Single.{HasExclusive, HasOfCall, HasTaken, HasTakenInPlan}
use Rattle.store_workers.specs.Unaffected.{IsLeftOf, NoneTakenBeyond}
use Rattle.store_workers.specs.Seen.{Seen, seen_in, seen_of, with_claim, with_object}
use Rattle.store_workers.specs.WorkerAnswers.{after_commit, begun_claimed, begun_wanted, phase_claimed}
use Rattle.store_workers.specs.WorkerAnswers.{phase_off, phase_wanted, seen_claimed, seen_held, seen_taken}
use Rattle.store_workers.specs.WorkerAnswers.{seen_wanted, answered_or_waiting, with_answer, with_entry}
use Rattle.store_workers.specs.WorkerSteps.{GoesOn, HasBegun, HasGivenBack, HasClaimed, HasCommitted, HasWanted}
use Rattle.store_workers.specs.WorkerSteps.{IsNext, IsReplySent, PreservesReadsOf, SawNothing, WorkerAndCore, Waits, none_begun, numbered}
use Rattle.store_workers.specs.WorkerSteps.{phase_given, planned_of, with_snap}
use Rattle.store_workers.specs.declared.workers.parts.Begun.{Begun}
use Rattle.store_workers.specs.declared.workers.parts.Job.{Job}
use Rattle.store_workers.specs.declared.workers.parts.Phase.{Phase}
use Rattle.store_workers.specs.declared.workers.parts.Phase.TheVariants.{Idle, Planning}
use Rattle.store_workers.specs.declared.workers.parts.Phase.TheVariants.{Reading, Read}
use Rattle.store_workers.specs.declared.workers.parts.Phase.TheVariants.{Again, Waiting}
use Rattle.store_workers.specs.declared.workers.parts.State.{State}

-- ---- one more is taken

-- it has what it had, and has taken this too
module _ (core mid : CoreState) (tx : ℕ) (seen : Seen) (addr : Addr) (taken : Hold) (at : taken.addr ≡ addr)
    (now : (a : Addr) → taken_by mid tx a ≡ with_taken taken (taken_by core) tx a)
    (blocks : mid.log.blocks ≡ core.log.blocks) (inodes : mid.inodes ≡ core.inodes)
    (reads : PreservesReads core mid tx) (asks : Asks seen.geometry addr) (has : HasOfCall tx core seen) where
  pub hold_more : HasOfCall tx mid seen
  hold_more = record {
    newest = has.newest;
    blocks = has.blocks ∙ sym blocks;
    inodes = has.inodes ∙ sym inodes;
    claims = has.claims;
    claimed = all_claimed core mid tx addr taken at now seen.claims has.claimed;
    were = has.were;
    read = All-weaker (IsReadBy core tx) (IsReadBy mid tx) (λ object is. reads object is) seen.objects has.read;
    exclusives = all_exclusive core mid tx addr taken at now seen.exclusives has.exclusives;
    asked = all_asked core mid tx addr taken at now (λ a. Asks seen.geometry a) has.asked asks;
  }

module _ (core mid : CoreState) (tx : ℕ) (seen : Seen) (addr : Addr) (mode : Mode) (asks : Asks seen.geometry addr)
    (reads : PreservesReads core mid tx) (has : HasOfCall tx core seen) where
  pub with_held : (bytes : List ℕ) → IsHeld core tx addr mode bytes mid → HasOfCall tx mid seen
  with_held bytes held =
      hold_more core mid tx seen addr (for_reading tx addr mode) refl
      (λ a. held.leaves.holds tx a) (ap (λ (c : CoreState). c.log.blocks) held.only)
      (ap (λ (c : CoreState). c.inodes) held.only) reads asks has

  -- it is read too, in this mode
  pub held_in_read_set : (bytes : List ℕ) → IsHeld core tx addr mode bytes mid
      → HasOfCall tx mid (record seen {
        objects = with_read addr bytes seen.objects;
        exclusives = with_mode addr mode seen.exclusives;
      })
  held_in_read_set bytes held =
      let more = with_held bytes held in record {
        newest = more.newest;
        blocks = more.blocks;
        inodes = more.inodes;
        claims = more.claims;
        claimed = more.claimed;
        were = read_once seen.geometry seen.objects addr bytes has.were asks;
        read = all_read (IsReadBy mid tx) addr bytes seen.objects more.read held.read;
        exclusives = all_in_mode (HasExclusive mid tx) addr mode seen.exclusives more.exclusives
            (new_exclusive core mid tx addr (for_reading tx addr mode) refl (λ a. held.leaves.holds tx a)
            (is_hold_by tx addr (for_reading tx addr mode) refl refl refl refl));
        asked = more.asked;
      }

  pub with_fetch : (io : Fetch) → IsFetched core tx addr mode io mid → HasOfCall tx mid seen
  with_fetch io fetched =
      hold_more core mid tx seen addr (for_fetching tx addr mode) refl
      (λ a. fetched.leaves.holds tx a) (ap (λ (c : CoreState). c.log.blocks) fetched.only)
      (ap (λ (c : CoreState). c.inodes) fetched.only) reads asks has

module _ (core mid : CoreState) (tx : ℕ) (seen : Seen) (addr : Addr) (asks : Asks seen.geometry addr)
    (reads : PreservesReads core mid tx) (has : HasOfCall tx core seen) where
  pub with_whole : IsTaken core tx addr mid → HasOfCall tx mid seen
  with_whole took =
      hold_more core mid tx seen addr (for_writing tx addr) refl
      (λ a. took.leaves.holds tx a) (ap (λ (c : CoreState). c.log.blocks) took.only)
      (ap (λ (c : CoreState). c.inodes) took.only) reads asks has

  -- its block is claimed too, where it wasn't
  pub with_claimed : (block : BlockNo) → Claims seen.geometry block → is_claimed block seen.claims ≡ false
      → IsWhole block addr → IsTaken core tx addr mid
      → HasOfCall tx mid (record seen { claims = seen.claims ++ block ∷ [] })
  with_claimed block may new_to_it whole took =
      let more = with_whole took in record {
        newest = more.newest;
        blocks = more.blocks;
        inodes = more.inodes;
        claims = one_claimed_once seen.geometry seen.claims block has.claims may new_to_it;
        claimed = All-push (IsClaimedBy mid tx) seen.claims block more.claimed
            (λ a is. ap (λ (a : Addr). is_written (taken_by mid tx a)) (one_whole block a addr is whole)
            ∙ took.written.held);
        were = more.were;
        read = more.read;
        exclusives = more.exclusives;
        asked = more.asked;
      }

-- ---- what is asked for

module _ (worker : State) where
  -- a lock request of the image, with what was read before; it is new to that where nothing is left to be taken again
  pub record IsRequestOf (one : LockRequest) (P : Seen → Type 0) : Type 0 where
    pub job : Job
    pub job_is : worker.work.job ≡ Some job
    pub snap : Snap
    pub snap_is : seen_in worker.work.planner ≡ Some (seen_of snap)
    pub is_lock_request : IsLockRequest snap.geometry one
    pub new_to_it : worker.known.left ≡ [] → P (seen_of snap)

  pub request_by : (one : LockRequest) (next : Plan) (P : Seen → Type 0)
      → ((snap : Snap) → IsPlanFor snap next → IsLockRequest snap.geometry one × P (seen_of snap))
      → IsLeftOf worker → IsRequested worker one next → IsRequestOf one P
  request_by one next P planned left_of request = by request.why
    where
      by : ((worker.known.left ≡ []) × IsNext worker next)
          ⊎ ((later : List LockRequest) × (worker.known.left ≡ one ∷ later)) → IsRequestOf one P
      by (inl is) = record {
        job = is.1.job;
        job_is = is.1.job_is;
        snap = is.1.snap;
        snap_is = is.1.snap_is;
        is_lock_request = (planned is.1.snap is.1.plan).0;
        new_to_it = λ none. (planned is.1.snap is.1.plan).1;
      }
      by (inr is) = record {
        job = request.job;
        job_is = request.job_is;
        snap = request.snap;
        snap_is = request.snap_is;
        is_lock_request = subst (λ (found : Option Seen). IsSomeAnd found (λ seen. IsLockRequest seen.geometry one))
            request.snap_is (left_of one is.0 is.1);
        new_to_it = λ none. absurd (let never : one ∷ is.0 ≡ [] = sym is.1 ∙ none in cc);
      }

-- ---- a step

module _ (old new : WorkerAndCore) (preserves : PreservesReadsOf old new) (beyond : NoneTakenBeyond old.core)
    (left_of : old.worker.phase ≡ Planning → IsLeftOf old.worker) where
  abbrev Stays : Phase → Option Step → Type 0
  Stays phase made = old.worker.phase ≡ phase → HasTakenInPlan phase old.worker old.core
      → HasTakenInPlan new.worker.phase new.worker new.core

  by_phase : (phase : Phase) → new.worker.phase ≡ phase → HasTakenInPlan phase new.worker new.core
      → HasTakenInPlan new.worker.phase new.worker new.core
  by_phase phase is plans = subst (λ p. HasTakenInPlan p new.worker new.core) (sym is) plans

  by_state : (state : State) → new.worker ≡ state → HasTakenInPlan state.phase state new.core
      → HasTakenInPlan new.worker.phase new.worker new.core
  by_state state is plans = subst (λ (s : State). HasTakenInPlan s.phase s new.core) (sym is) plans

  rests : (phase : Phase) → new ≡ old → Stays phase None
  rests phase is at plans = subst (λ (s : WorkerAndCore). HasTakenInPlan s.worker.phase s.worker s.core) (sym is)
      (subst (λ p. HasTakenInPlan p old.worker old.core) (sym at) plans)

  begins : (job : Job) (number : ℕ) → HasBegun job old number new
      → HasTakenInPlan new.worker.phase new.worker new.core
  begins job number has = by_phase Planning (ap (λ (s : State). s.phase) has.worker)
      (by (seen_in new.worker.work.planner) refl has.seen)
    where
      by : (found : Option Seen) → seen_in new.worker.work.planner ≡ found → IsSomeAnd found (SawNothing old.core)
          → HasTaken new.worker new.core
      by None at saw = absurd saw
      by (Some seen) at saw =
          has_so new.worker new.core (numbered old.core.boot number job) number seen
          (ap (λ (s : State). s.work.job) has.worker)
          (ap (λ (s : State). s.begun.tx) has.worker) at (record {
            newest = saw.version;
            blocks = saw.blocks ∙ sym (ap (λ (c : CoreState). c.log.blocks) has.core);
            inodes = saw.inodes ∙ sym (ap (λ (c : CoreState). c.inodes) has.core);
            claims = subst (λ (claims : List BlockNo). WereClaimedOnce seen.geometry claims)
                (sym saw.claims) (none_claimed seen.geometry);
            claimed = subst (λ (claims : List BlockNo). All (IsClaimedBy new.core number) claims)
                (sym saw.claims) (All-nil (IsClaimedBy new.core number));
            were = subst (λ (objects : List ObjectBytes). WereAskedOnce seen.geometry objects)
                (sym saw.objects) (none_read seen.geometry);
            read = subst (λ (objects : List ObjectBytes). All (IsReadBy new.core number) objects)
                (sym saw.objects) (All-nil (IsReadBy new.core number));
            exclusives = subst (λ (addrs : List Addr). All (HasExclusive new.core number) addrs) (sym saw.exclusives)
                (All-nil (HasExclusive new.core number));
            asked = λ addr hold is. absurd (nothing addr hold is);
          })
        where
          nothing : (addr : Addr) (hold : Hold) → taken_by new.core number addr ≡ Some hold → ⊥
          nothing addr hold is = beyond addr hold (ap (λ (n : ℕ). taken_by old.core n addr) (sym has.next)
              ∙ sym (ap (λ (c : CoreState). taken_by c number addr) has.core) ∙ is)

  -- ---- a lock request

  module _ (tx : ℕ) (tx_is : old.worker.begun.tx ≡ Some tx) (job : Job) (job_is : old.worker.work.job ≡ Some job)
      (seen : Seen) (seen_is : seen_in old.worker.work.planner ≡ Some seen) (new_job : new.worker.work.job ≡ Some job)
      (has : HasOfCall tx old.core seen) where
    -- it is told that it has its transaction still
    module _ (back : ℕ) (same : back ≡ tx) (got : new.worker.begun.tx ≡ Some back) where
      new_tx : new.worker.begun.tx ≡ Some tx
      new_tx = got ∙ ap (λ t. Some t) same

      reads : PreservesReads old.core new.core tx
      reads = preserves tx (λ _. new_tx)

      as_before : new.core ≡ old.core → seen_in new.worker.work.planner ≡ seen_in old.worker.work.planner
          → HasTaken new.worker new.core
      as_before core seen_same =
          has_so new.worker new.core job tx seen new_job new_tx (seen_same ∙ seen_is)
          (subst (λ (c : CoreState). HasOfCall tx c seen) (sym core) has)

      off : (request : LockRequest) → new.core ≡ old.core → seen_in new.worker.work.planner ≡ seen_in old.worker.work.planner
          → HasTakenInPlan (phase_off request old.worker.known) new.worker new.core
      off request core seen_same = by (is_barred request old.worker.known.taken)
        where
          by : (above : Bool) → HasTakenInPlan (if above then Again else Planning) new.worker new.core
          by true = tt
          by false = as_before core seen_same

      held : (addr : Addr) (mode : Mode) (bytes : List ℕ) → Asks seen.geometry addr
          → IsHeld old.core tx addr mode bytes new.core
          → seen_in new.worker.work.planner
          ≡ seen_held old.worker.known.left addr mode bytes (seen_in old.worker.work.planner)
          → HasTaken new.worker new.core
      held addr mode bytes asks is then_seen = by old.worker.known.left refl
        where
          by : (left : List LockRequest) → old.worker.known.left ≡ left → HasTaken new.worker new.core
          by [] none = has_so new.worker new.core job tx _ new_job new_tx
              (then_seen ∙ ap (λ l. seen_held l addr mode bytes (seen_in old.worker.work.planner)) none
              ∙ ap (with_object addr mode bytes) seen_is)
              (held_in_read_set old.core new.core tx seen addr mode asks reads has bytes is)
          by (next ∷ later) some = has_so new.worker new.core job tx seen new_job new_tx
              (then_seen ∙ ap (λ l. seen_held l addr mode bytes (seen_in old.worker.work.planner)) some ∙ seen_is)
              (with_held old.core new.core tx seen addr mode asks reads has bytes is)

      fetched : (addr : Addr) (mode : Mode) (io : Fetch) → Asks seen.geometry addr
          → IsFetched old.core tx addr mode io new.core
          → seen_in new.worker.work.planner ≡ seen_in old.worker.work.planner → HasTaken new.worker new.core
      fetched addr mode io asks is seen_same = has_so new.worker new.core job tx seen new_job new_tx
          (seen_same ∙ seen_is) (with_fetch old.core new.core tx seen addr mode asks reads has io is)

      claims : (block : BlockNo) (addr : Addr) → Claims seen.geometry block
          → (old.worker.known.left ≡ [] → is_claimed block seen.claims ≡ false) → IsWhole block addr
          → IsTaken old.core tx addr new.core
          → seen_in new.worker.work.planner
          ≡ seen_taken old.worker.known.left block (seen_in old.worker.work.planner)
          → HasTaken new.worker new.core
      claims block addr may new_to_it whole is then_seen = by old.worker.known.left refl
        where
          asks : Asks seen.geometry addr
          asks = claimed_object seen.geometry block addr may whole

          by : (left : List LockRequest) → old.worker.known.left ≡ left → HasTaken new.worker new.core
          by [] none = has_so new.worker new.core job tx _ new_job new_tx
              (then_seen ∙ ap (λ l. seen_taken l block (seen_in old.worker.work.planner)) none
              ∙ ap (with_claim block) seen_is)
              (with_claimed old.core new.core tx seen addr asks reads has block may (new_to_it none) whole is)
          by (next ∷ later) some = has_so new.worker new.core job tx seen new_job new_tx
              (then_seen ∙ ap (λ l. seen_taken l block (seen_in old.worker.work.planner)) some ∙ seen_is)
              (with_whole old.core new.core tx seen addr asks reads has is)

    wants : (addr : Addr) (mode : Mode) (answer : Want) → Asks seen.geometry addr
        → IsWanted old.core tx addr mode answer new.core
        → new.worker.begun ≡ begun_wanted answer
        → seen_in new.worker.work.planner
        ≡ seen_wanted old.worker.known.left addr mode answer (seen_in old.worker.work.planner)
        → HasTakenInPlan (phase_wanted addr mode answer old.worker.known) new.worker new.core
    wants addr mode (want.Held back bytes) asks is got then_seen =
        held back is.0 (ap (λ (b : Begun). b.tx) got) addr mode bytes asks is.2 then_seen
    wants addr mode (want.Fetch back io) asks is got then_seen =
        fetched back is.0 (ap (λ (b : Begun). b.tx) got) addr mode io asks is.2 then_seen
    wants addr mode (want.Busy back) asks is got then_seen =
        off back is.0 (ap (λ (b : Begun). b.tx) got) (lock_request.Object addr mode) is.2 then_seen
    wants addr mode (want.Loading back) asks is got then_seen =
        off back is.0 (ap (λ (b : Begun). b.tx) got) (lock_request.Object addr mode) is.2 then_seen
    wants addr mode (want.Outside back) asks is got then_seen = tt
    wants addr mode (want.NoMemory back error) asks is got then_seen = tt

    takes : (block : BlockNo) (addr : Addr) (answer : Claim) → Claims seen.geometry block
        → (old.worker.known.left ≡ [] → is_claimed block seen.claims ≡ false) → IsWhole block addr
        → IsClaimed old.core tx addr answer new.core
        → new.worker.begun ≡ begun_claimed answer
        → seen_in new.worker.work.planner
        ≡ seen_claimed old.worker.known.left block answer (seen_in old.worker.work.planner)
        → HasTakenInPlan (phase_claimed block answer old.worker.known) new.worker new.core
    takes block addr (claim.Held back) may new_to_it whole is got then_seen =
        claims back is.0 (ap (λ (b : Begun). b.tx) got) block addr may new_to_it whole is.2 then_seen
    takes block addr (claim.Busy back) may new_to_it whole is got then_seen =
        off back is.0 (ap (λ (b : Begun). b.tx) got) (lock_request.Claim block) is.2 then_seen
    takes block addr (claim.Loading back) may new_to_it whole is got then_seen =
        off back is.0 (ap (λ (b : Begun). b.tx) got) (lock_request.Claim block) is.2 then_seen
    takes block addr (claim.Outside back) may new_to_it whole is got then_seen = tt
    takes block addr (claim.NoMemory back error) may new_to_it whole is got then_seen = tt

  wanted_so : (tx : ℕ) (addr : Addr) (mode : Mode) (made : Step) → old.worker.begun.tx ≡ Some tx
      → IsRequested old.worker (lock_request.Object addr mode) (plan.Need addr mode) → HasWanted tx addr mode old made new
      → old.worker.phase ≡ Planning → HasTakenInPlan Planning old.worker old.core
      → HasTakenInPlan new.worker.phase new.worker new.core
  wanted_so tx addr mode made tx_is request has at plans =
      let is = request_by old.worker (lock_request.Object addr mode) (plan.Need addr mode)
      (λ seen. Unit {0}) (λ snap planned. (planned.1, tt)) (left_of at) request in
      by_phase _ (ap (λ (s : State). s.phase) has.worker)
      (wants tx tx_is is.job is.job_is (seen_of is.snap) is.snap_is
      (ap (λ (s : State). s.work.job) has.worker ∙ is.job_is)
      (has_of old.worker old.core is.job tx (seen_of is.snap) is.job_is tx_is is.snap_is plans)
      addr mode has.answer is.is_lock_request has.core (ap (λ (s : State). s.begun) has.worker) has.seen)

  claimed_so : (tx : ℕ) (block : BlockNo) (made : Step) → old.worker.begun.tx ≡ Some tx
      → IsRequested old.worker (lock_request.Claim block) (plan.Claim block) → HasClaimed tx block old made new
      → old.worker.phase ≡ Planning → HasTakenInPlan Planning old.worker old.core
      → HasTakenInPlan new.worker.phase new.worker new.core
  claimed_so tx block made tx_is request has at plans =
      let is = request_by old.worker (lock_request.Claim block) (plan.Claim block) (λ seen. is_claimed block seen.claims ≡ false)
      (λ snap planned. (planned.1, planned.0)) (left_of at) request in
      by_phase _ (ap (λ (s : State). s.phase) has.worker)
      (takes tx tx_is is.job is.job_is (seen_of is.snap) is.snap_is
      (ap (λ (s : State). s.work.job) has.worker ∙ is.job_is)
      (has_of old.worker old.core is.job tx (seen_of is.snap) is.job_is tx_is is.snap_is plans)
      block has.core.0 has.answer is.is_lock_request is.new_to_it has.core.1 has.core.2
      (ap (λ (s : State). s.begun) has.worker) has.seen)

  -- ---- a commit

  placed : (job : Job) (reply : Reply) (place : Seq) (base : State) (stable : Bool)
      → HasTakenInPlan (with_entry job reply (answered_or_waiting stable job reply place base)).phase
      (with_entry job reply (answered_or_waiting stable job reply place base)) new.core
  placed job reply place base true = tt
  placed job reply place base false = tt

  committed_so : (job : Job) (tx : ℕ) (done : Outcome) (made : Step) → old.worker.begun.tx ≡ Some tx
      → HasCommitted job tx done old made new → HasTakenInPlan Planning old.worker old.core
      → HasTakenInPlan new.worker.phase new.worker new.core
  committed_so job tx done made tx_is has plans = by has.answer has.core has.worker
    where
      base : State
      base = record (with_snap new.worker old.worker) { begun = none_begun }

      by : (answer : Commit Outcome) → IsCommit old.core tx (planned_of done) done answer new.core
          → new.worker ≡ after_commit job done.reply answer base
          → HasTakenInPlan new.worker.phase new.worker new.core
      by (commit.Committed receipt) core is =
          by_state _ is (placed job done.reply receipt.place base (is_answered_stable job.call))
      by (commit.Full back change) core is = by_phase Planning (ap (λ (s : State). s.phase) is)
          (same_taken old.worker new.worker old.core new.core (ap (λ (s : State). s.work.job) is)
          (ap (λ (s : State). s.begun.tx) is ∙ ap (λ (n : ℕ). Some n) core.0.transaction ∙ sym tx_is)
          has.seen (λ j t seen t_is of_call. subst (λ (c : CoreState). HasOfCall t c seen) (sym core.0.core) of_call)
          plans)
      by (commit.Foreign back change) core is = by_state _ is tt
      by (commit.NoMemory back change error) core is = by_state _ is tt
      by (commit.Broken back change) core is = by_state _ is tt
      by (commit.Spent back change) core is = by_state _ is tt

  -- ---- a fetch is given back, a place is waited for

  given_so : (ok : Bool) (io : Fetch) (made : Step) → HasGivenBack ok io old made new
      → HasTakenInPlan (Read ok) old.worker old.core → HasTakenInPlan new.worker.phase new.worker new.core
  given_so ok io made has plans = by_phase (phase_given ok) (ap (λ (s : State). s.phase) has.worker) (by ok)
    where
      by : (ok : Bool) → HasTakenInPlan (phase_given ok) new.worker new.core
      by true = same_taken old.worker new.worker old.core new.core (ap (λ (s : State). s.work.job) has.worker)
          (ap (λ (s : State). s.begun.tx) has.worker) (ap (λ (s : State). seen_in s.work.planner) has.worker)
          (λ job tx seen tx_is of_call. moved tx seen old.core new.core
          (ap (λ (c : CoreState). c.log.blocks) has.only) (ap (λ (c : CoreState). c.inodes) has.only)
          (λ addr. has.leaves.holds tx addr)
          (preserves tx (λ was. ap (λ (s : State). s.begun.tx) has.worker ∙ was)) of_call) plans
      by false = tt

  waited_so : (place : Seq) (made : Step) → Waits place old made new → old.worker.phase ≡ Waiting place
      → HasTakenInPlan new.worker.phase new.worker new.core
  waited_so place made has at = by has.settled old.core.log.broken has.is_reply_sent
    where
      heard : (base : State) (found : Option Reply) → IsSomeAnd found (λ reply. new.worker
          ≡ with_answer (verdict.Reply reply) (Some place) base)
          → HasTakenInPlan new.worker.phase new.worker new.core
      heard base None is = absurd is
      heard base (Some reply) is = by_state _ is tt

      by : (settled broken : Bool) → IsReplySent settled broken place old.worker new.worker
          → HasTakenInPlan new.worker.phase new.worker new.core
      by true broken is = heard (without_reply old.worker) old.worker.work.reply is
      by false true is = heard (without_broken_reply old.worker) old.worker.work.broken_reply is
      by false false is = by_phase (Waiting place) (ap (λ (s : State). s.phase) is ∙ at) tt

  cases : Cases old new Stays
  cases = record {
    idle = rests Idle;
    reading = rests Reading;
    begun = λ job number job_is rules has at plans. begins job number has;
    not_begun = λ job why job_is rules none core worker at plans. by_state _ worker tt;
    replied = λ job job_is rules core worker at plans. by_state _ worker tt;
    wanted = λ tx addr mode made tx_is next has at plans. wanted_so tx addr mode made tx_is next has at plans;
    claimed = λ tx block made tx_is next has at plans. claimed_so tx block made tx_is next has at plans;
    committed = λ job tx done made tx_is next none job_is has at plans.
        committed_so job tx done made tx_is has plans;
    lacked = λ tx made tx_is none has at plans. by_state _ has.worker tt;
    given = λ ok io made io_is has at plans. given_so ok io made has plans;
    refused = λ why job tx made job_is tx_is has at plans. by_state _ has.worker tt;
    left = λ tx made tx_is has at plans. by_state _ has.worker tt;
    waited = λ place made has at plans. waited_so place made has at;
  }

  pub plans_stay : (made : Option Step) → GoesOn old.worker.phase old made new
      → HasTakenInPlan old.worker.phase old.worker old.core → HasTakenInPlan new.worker.phase new.worker new.core
  plans_stay made goes plans = by_cases old new Stays cases old.worker.phase made goes refl plans
