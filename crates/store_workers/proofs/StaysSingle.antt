-- A worker that is alone in its store stays alone by each of its steps.
use Rattle.std.proofs.Common.{◌≡◌, ◌∙◌, refl, sym, ap, subst, true≢false, ℕ, Bool, true, false, not, ◌&&◌, ◌||◌, alloc_error}
use Rattle.std.proofs.Common.{inl, inr, if◌then◌else◌, cond, nat_eq, Option, Some, None, is_some, List, [], ◌∷◌, ◌++◌, All}
use Rattle.std.specs.Prelude.{IsSomeAnd, option_to_list}
use Rattle.std.specs.List.{list_any}
use Rattle.std.proofs.lemmas.Bool.{eqb-true}
use Rattle.std.proofs.lemmas.List.Elements.{All-contains, All-nil, All-push, All-weaker}
use Rattle.disk.specs.declared.block.BlockNo.{BlockNo}
use Rattle.objects.specs.Mode.{is_exclusive, upgraded}
use Rattle.objects.specs.declared.addr.Addr.{Addr}
use Rattle.objects.specs.declared.mode.Mode.{Mode}
use Rattle.objects.specs.declared.mode.Mode.TheVariants as modes
use Rattle.nfs_spec.specs.Model.Calls.{is_answered_stable}
use Rattle.nfs_types.specs.declared.reply.Reply.{Reply}
use Rattle.circ.specs.declared.log.outcomes.Seq.{Seq}
use Rattle.procs.proofs.FewAsked.{none_read, read_once}
use Rattle.procs.proofs.FewClaimed.{claimed_object, none_claimed, one_claimed_once}
use Rattle.procs.specs.Asks.{Asks, WereAskedOnce, WereClaimedOnce}
use Rattle.procs.specs.Outcome.{Outcome}
use Rattle.procs.specs.Planned.{IsPlanFor}
use Rattle.procs.specs.declared.next.Plan.{Plan}
use Rattle.procs.specs.declared.next.Plan.TheVariants as plan
use Rattle.inode.specs.Snap.{is_seen, with_mode, with_read}
use Rattle.inode.specs.declared.snap.Snap.{Snap}
use Rattle.txn.specs.Claimed.{IsClaimedBy}
use Rattle.txn.specs.Commit.{IsReadBy}
use Rattle.txn.specs.Core.{CoreState, with_refused}
use Rattle.txn.specs.CoreWindow.{PreservesReads}
use Rattle.txn.specs.Fetch.{Fetch}
use Rattle.txn.specs.Leaves.{Leaves, but_by, in_memory, is_fetching, taken_by, with_taken}
use Rattle.txn.specs.Object.{ObjectBytes}
use Rattle.txn.specs.Outcomes.{IsClaimed, IsCommit, IsWanted, unbegun}
use Rattle.txn.proofs.Answered.{unbegun_by}
use Rattle.txn.specs.WellFormed.{IsWellFormed}
use Rattle.txn.specs.declared.outcomes.Claim.{Claim}
use Rattle.txn.specs.declared.outcomes.Claim.TheVariants as claim
use Rattle.txn.specs.declared.outcomes.Commit.{Commit}
use Rattle.txn.specs.declared.outcomes.Commit.TheVariants as commit
use Rattle.txn.specs.declared.outcomes.Want.{Want}
use Rattle.txn.specs.declared.outcomes.Want.TheVariants as want
use Rattle.txn_law.specs.Holds.{for_fetching, for_reading, for_writing, is_hold_of, is_read, is_written, joined}
use Rattle.txn_law.specs.WellFormed.{IsOfOne}
use Rattle.txn_law.specs.LockAnswers.{IsFetched, IsHeld, IsTaken, IsWhole}
use Rattle.txn_law.specs.declared.hold.Hold.{Hold}
use Rattle.txn_law.proofs.Again as again
use Rattle.txn_law.proofs.Claims.{all_four, found_by}
use Rattle.txn_law.proofs.TakenBy.{is_hold_by}
use Rattle.txn.specs.Group.{blocks_of}
use Rattle.store_promise.specs.declared.answers.Verdict.{Verdict}
use Rattle.store_promise.specs.declared.answers.Verdict.TheVariants as verdict
use Rattle.store_promise.specs.declared.events.Cause.{Cause}
use Rattle.store_promise.specs.declared.events.Cause.TheVariants as cause
use Rattle.store_promise.specs.declared.events.Step.{Step}
use Rattle.store_promise.specs.declared.events.Step.TheVariants as step
use Rattle.store_workers.proofs.LeavesNothing.{leaves_nothing}
use Rattle.store_workers.proofs.LoneWorker.{has_of, has_so, never_deferred, no_fetch}
use Rattle.store_workers.proofs.StillFits.{still_single}
use Rattle.store_workers.proofs.StepKinds.{Beginning, IsAnsweredAtOnce, beginning, ending}
use Rattle.store_workers.proofs.StepKinds.{begun, refused, replied, lacked, committed}
use Rattle.store_workers.specs.Single.{HasExclusive, HasOfCall, HasTaken, IsSingleOut, LeavesNothing, HasTakenInPlan, StaysSingle}
use Rattle.store_workers.specs.Single.{is_full}
use Rattle.store_promise.specs.LockRequests.{is_barred}
use Rattle.store_promise.specs.declared.lock_requests.LockRequest.{LockRequest}
use Rattle.store_promise.specs.declared.lock_requests.LockRequest.TheVariants as lock_request
use Rattle.store_images.specs.Fetches.{FetchesOnly, is_fetch_of}
use Rattle.store_workers.specs.Phases.{has_fetch, has_transaction}
use Rattle.store_workers.specs.Seen.{Seen, seen_in, seen_of, with_claim, with_object}
use Rattle.store_workers.specs.WorkerAnswers.{after_commit, begun_claimed, begun_wanted, committing_of}
use Rattle.store_workers.specs.WorkerAnswers.{phase_claimed, phase_off, phase_wanted, seen_claimed}
use Rattle.store_workers.specs.WorkerAnswers.{seen_held, seen_taken, seen_wanted, answered_or_waiting}
use Rattle.store_workers.specs.WorkerAnswers.{with_answer, with_entry}
use Rattle.store_workers.specs.WorkerSteps.{GoesByNext, GoesOn, HasAborted, HasBegun, HasGivenBack, HasLacked}
use Rattle.store_workers.specs.WorkerSteps.{HasClaimed, HasLeft, HasRefused}
use Rattle.store_workers.specs.WorkerSteps.{HasWanted, IsNext, IsReplySent as IsHeard, PreservesReadsOf, SawNothing}
use Rattle.store_workers.specs.WorkerSteps.{WorkerAndCore, Waits}
use Rattle.store_workers.specs.WorkerSteps.{none_begun, numbered, phase_given, planned_of, with_snap}
use Rattle.store_workers.specs.declared.workers.parts.Begun.{Begun}
use Rattle.store_workers.specs.declared.workers.parts.Job.{Job}
use Rattle.store_workers.specs.declared.workers.parts.Phase.{Phase}
use Rattle.store_workers.specs.declared.workers.parts.Phase.TheVariants.{Idle, Called, Planning}
use Rattle.store_workers.specs.declared.workers.parts.Phase.TheVariants.{Reading, Read}
use Rattle.store_workers.specs.declared.workers.parts.Phase.TheVariants.{Refused, Again, Waiting}
use Rattle.store_workers.specs.declared.workers.parts.State.{State}

-- ---- what is kept

-- it has of its call what it had, where the core keeps what is taken and what is read
pub moved : (tx : ℕ) (seen : Seen) (core mid : CoreState) → mid.log.blocks ≡ core.log.blocks
    → mid.inodes ≡ core.inodes → ((addr : Addr) → taken_by mid tx addr ≡ taken_by core tx addr)
    → PreservesReads core mid tx → HasOfCall tx core seen → HasOfCall tx mid seen
moved tx seen core mid blocks inodes same reads has = record {
  newest = has.newest;
  blocks = has.blocks ∙ sym blocks;
  inodes = has.inodes ∙ sym inodes;
  claims = has.claims;
  claimed = All-weaker (IsClaimedBy core tx) (IsClaimedBy mid tx)
      (λ block is addr whole. ap (λ (o : Option Hold). is_written o) (same addr) ∙ is addr whole)
      seen.claims has.claimed;
  were = has.were;
  read = All-weaker (IsReadBy core tx) (IsReadBy mid tx) (λ object is. reads object is) seen.objects has.read;
  exclusives = All-weaker (HasExclusive core tx) (HasExclusive mid tx) (λ addr is. (is.0, same addr ∙ is.1, is.2)) seen.exclusives
      has.exclusives;
  asked = λ addr hold is. has.asked addr hold (sym (same addr) ∙ is);
}

-- a worker with the same call, transaction and reads has what it had
pub same_taken : (was now : State) (core mid : CoreState) → now.work.job ≡ was.work.job
    → now.begun.tx ≡ was.begun.tx → seen_in now.work.planner ≡ seen_in was.work.planner
    → ((job : Job) (tx : ℕ) (seen : Seen) → was.begun.tx ≡ Some tx → HasOfCall tx core seen
    → HasOfCall tx mid seen)
    → HasTaken was core → HasTaken now mid
same_taken was now core mid job tx seen preserves has =
    by was.work.job refl was.begun.tx refl (seen_in was.work.planner) refl has
  where
    by : (j : Option Job) → was.work.job ≡ j → (t : Option ℕ) → was.begun.tx ≡ t → (s : Option Seen)
        → seen_in was.work.planner ≡ s
        → IsSomeAnd j (λ j. IsSomeAnd t (λ t. IsSomeAnd s (λ s. HasOfCall t core s))) → HasTaken now mid
    by None j_is t t_is s s_is has = absurd has
    by (Some j) j_is None t_is s s_is has = absurd has
    by (Some j) j_is (Some t) t_is None s_is has = absurd has
    by (Some j) j_is (Some t) t_is (Some s) s_is has =
        has_so now mid j t s (job ∙ j_is) (tx ∙ t_is) (seen ∙ s_is) (preserves j t s t_is has)

-- after a step no fetch is pending but its own, and where no room was wanting, what is taken while it plans is
-- of its call
record StaysLeft (made : Option Step) (worker : State) (core : CoreState) : Type 0 where
  fetches : FetchesOnly worker.begun.io core
  plans : is_full made ≡ false → HasTakenInPlan worker.phase worker core

-- what was made is alone, by its phase and its fetch
single_by : (made : Option Step) (worker : State) (core : CoreState) (phase : Phase) (io : Option Fetch)
    → worker.phase ≡ phase → worker.begun.io ≡ io → FetchesOnly io core
    → (is_full made ≡ false → HasTakenInPlan phase worker core) → StaysLeft made worker core
single_by made worker core phase io phase_is io_is fetches plans = record {
  fetches = subst (λ (o : Option Fetch). FetchesOnly o core) (sym io_is) fetches;
  plans = λ has_space. subst (λ p. HasTakenInPlan p worker core) (sym phase_is) (plans has_space);
}

-- ---- a lock request

either : (mode_exclusive reads claims more also : Bool) → (mode_exclusive && (reads || claims)) ≡ true
    → ((reads || more) || (claims || also)) ≡ true
either false reads claims more also is = absurd (true≢false (sym is))
either true true claims more also is = refl
either true false false more also is = absurd (true≢false (sym is))
either true false true true also is = refl
either true false true false also is = refl

-- what is held for writing is held alone
exclusive_is : (mode : Mode) (held : Bool) → (is_exclusive mode && held) ≡ true → mode ≡ modes.Exclusive
exclusive_is modes.Exclusive held is = refl
exclusive_is modes.Shared held is = absurd (true≢false (sym is))

-- a mode that is raised
upgraded_so : (had request : Mode) → had ≡ modes.Exclusive → upgraded had request ≡ modes.Exclusive
upgraded_so had modes.Shared is = is
upgraded_so had modes.Exclusive is = refl

upgraded_exclusive : (had request : Mode) → request ≡ modes.Exclusive → upgraded had request ≡ modes.Exclusive
upgraded_exclusive had request is = ap (upgraded had) is

-- what is so of all that was read, and of one more, is so of these
pub all_read : (P : ObjectBytes → Type 0) (addr : Addr) (bytes : List ℕ) (objects : List ObjectBytes)
    → All P objects → P (record { addr = addr; bytes = bytes }) → All P (with_read addr bytes objects)
all_read P addr bytes objects were new = by (is_seen addr objects)
  where
    one : ObjectBytes
    one = record { addr = addr; bytes = bytes }

    by : (seen : Bool) → All P (if seen then objects else objects ++ one ∷ [])
    by true = were
    by false = All-push P objects one were new

-- so it is of what was asked for alone
pub all_in_mode : (P : Addr → Type 0) (addr : Addr) (mode : Mode) (exclusives : List Addr) → All P exclusives
    → (mode ≡ modes.Exclusive → P addr) → All P (with_mode addr mode exclusives)
all_in_mode P addr modes.Shared exclusives were new = were
all_in_mode P addr modes.Exclusive exclusives were new = All-push P exclusives addr were (new refl)

-- what is taken then: what was, and the address
module _ (core mid : CoreState) (tx : ℕ) (addr : Addr) (taken : Hold) (at : taken.addr ≡ addr)
    (now : (a : Addr) → taken_by mid tx a ≡ with_taken taken (taken_by core) tx a) where
  -- what was taken alone is so still
  exclusive_still : (a : Addr) → HasExclusive core tx a → HasExclusive mid tx a
  exclusive_still a (had, found, mode_exclusive) = by (is_hold_of tx a taken) refl
    where
      by : (mine : Bool) → is_hold_of tx a taken ≡ mine → HasExclusive mid tx a
      by true own = (
        joined (Some had) taken,
        now a ∙ ap (λ (b : Bool). cond b (Some (joined (taken_by core tx a) taken)) (taken_by core tx a)) own
            ∙ ap (λ (o : Option Hold). Some (joined o taken)) found,
        upgraded_so had.mode taken.mode mode_exclusive,
      )
      by false own = (
        had,
        now a ∙ ap (λ (b : Bool). cond b (Some (joined (taken_by core tx a) taken)) (taken_by core tx a)) own ∙ found,
        mode_exclusive,
      )

  pub all_exclusive : (addrs : List Addr) → All (HasExclusive core tx) addrs → All (HasExclusive mid tx) addrs
  all_exclusive addrs were = All-weaker (HasExclusive core tx) (HasExclusive mid tx) exclusive_still addrs were

  -- and what is taken alone now is
  pub new_exclusive : is_hold_of tx addr taken ≡ true → taken.mode ≡ modes.Exclusive → HasExclusive mid tx addr
  new_exclusive own mode_exclusive = by (taken_by core tx addr)
      (now addr ∙ ap (λ (b : Bool). cond b (Some (joined (taken_by core tx addr) taken)) (taken_by core tx addr)) own)
    where
      by : (had : Option Hold) → taken_by mid tx addr ≡ Some (joined had taken) → HasExclusive mid tx addr
      by None is = (taken, is, mode_exclusive)
      by (Some x) is = (joined (Some x) taken, is, upgraded_exclusive x.mode taken.mode mode_exclusive)

  pub all_asked : (P : Addr → Type 0) → ((a : Addr) (hold : Hold) → taken_by core tx a ≡ Some hold
      → P a) → P addr
      → (a : Addr) (hold : Hold) → taken_by mid tx a ≡ Some hold → P a
  all_asked P were new a hold is = by (is_hold_of tx a taken) refl (sym (now a) ∙ is)
    where
      by : (mine : Bool) → is_hold_of tx a taken ≡ mine
          → cond mine (Some (joined (taken_by core tx a) taken)) (taken_by core tx a) ≡ Some hold → P a
      by true mine is =
          let four = all_four (nat_eq taken.transaction tx) (nat_eq taken.addr.block.0 a.block.0)
          (nat_eq taken.addr.offset a.offset) (nat_eq taken.addr.len a.len) mine in
          subst P (sym at ∙ again.same_addr taken.addr a (eqb-true taken.addr.block.0 a.block.0 four.1)
          (eqb-true taken.addr.offset a.offset four.2) (eqb-true taken.addr.len a.len four.3)) new
      by false mine is = were a hold is

  -- what was held for writing is so still
  pub all_claimed : (claims : List BlockNo) → All (IsClaimedBy core tx) claims → All (IsClaimedBy mid tx) claims
  all_claimed claims are = All-weaker (IsClaimedBy core tx) (IsClaimedBy mid tx)
      (λ block is a whole. ap (λ (o : Option Hold). is_written o) (now a)
      ∙ by (taken_by core tx a) (is_hold_of tx a taken) (is a whole)) claims are
    where
      by : (had : Option Hold) (mine : Bool) → is_written had ≡ true
          → is_written (cond mine (Some (joined had taken)) had) ≡ true
      by had false is = is
      by None true is = absurd (true≢false (sym is))
      by (Some had) true is =
          ap (λ (m : Mode). is_exclusive m && ((had.is_read || taken.is_read)
          || (had.is_claimed || taken.is_claimed)))
          (upgraded_so had.mode taken.mode (exclusive_is had.mode (had.is_read || had.is_claimed) is))
          ∙ either (is_exclusive had.mode) had.is_read had.is_claimed taken.is_read taken.is_claimed is

module _ (core mid : CoreState) (tx : ℕ) (snap : Snap) (addr : Addr)
    (mode : Mode) (has : HasOfCall tx core (seen_of snap)) (is_plan : IsPlanFor snap (plan.Need addr mode))
    (reads : PreservesReads core mid tx) where
  pub read_one : (bytes : List ℕ) → IsHeld core tx addr mode bytes mid
      → HasOfCall tx mid (record (seen_of snap) {
        objects = with_read addr bytes snap.objects.items;
        exclusives = with_mode addr mode snap.exclusives.items;
      })
  read_one bytes held =
      let taken = for_reading tx addr mode in
      record {
        newest = has.newest;
        blocks = has.blocks ∙ sym (ap (λ (c : CoreState). c.log.blocks) held.only);
        inodes = has.inodes ∙ sym (ap (λ (c : CoreState). c.inodes) held.only);
        claims = has.claims;
        claimed = all_claimed core mid tx addr taken refl
            (λ a. held.leaves.holds tx a) snap.claims.items has.claimed;
        were = read_once snap.geometry snap.objects.items addr bytes has.were is_plan.1;
        read = all_read (IsReadBy mid tx) addr bytes snap.objects.items
            (All-weaker (IsReadBy core tx) (IsReadBy mid tx) (λ object is. reads object is)
            snap.objects.items has.read) held.read;
        exclusives = all_in_mode (HasExclusive mid tx) addr mode snap.exclusives.items
            (all_exclusive core mid tx addr taken refl (λ a. held.leaves.holds tx a) snap.exclusives.items has.exclusives)
            (new_exclusive core mid tx addr taken refl (λ a. held.leaves.holds tx a)
            (is_hold_by tx addr taken refl refl refl refl));
        asked = all_asked core mid tx addr taken refl (λ a. held.leaves.holds tx a)
            (λ a. Asks snap.geometry a) has.asked is_plan.1;
      }

  pub fetch_one : (io : Fetch) → IsFetched core tx addr mode io mid
      → HasOfCall tx mid (seen_of snap)
  fetch_one io fetched =
      let taken = for_fetching tx addr mode in
      record {
        newest = has.newest;
        blocks = has.blocks ∙ sym (ap (λ (c : CoreState). c.log.blocks) fetched.only);
        inodes = has.inodes ∙ sym (ap (λ (c : CoreState). c.inodes) fetched.only);
        claims = has.claims;
        claimed = all_claimed core mid tx addr taken refl
            (λ a. fetched.leaves.holds tx a) snap.claims.items has.claimed;
        were = has.were;
        read = All-weaker (IsReadBy core tx) (IsReadBy mid tx) (λ object is. reads object is) snap.objects.items
            has.read;
        exclusives = all_exclusive core mid tx addr taken refl (λ a. fetched.leaves.holds tx a) snap.exclusives.items has.exclusives;
        asked = all_asked core mid tx addr taken refl
            (λ a. fetched.leaves.holds tx a) (λ a. Asks snap.geometry a)
            has.asked is_plan.1;
      }

-- addresses of one whole block are one
pub one_whole : (block : BlockNo) (a b : Addr) → IsWhole block a → IsWhole block b → a ≡ b
one_whole block a b one other = again.same_addr a b
    (ap (λ (k : BlockNo). k.0) one.0 ∙ sym (ap (λ (k : BlockNo). k.0) other.0)) (one.1 ∙ sym other.1)
    (one.2 ∙ sym other.2)

-- a block more is claimed
claim_one : (core mid : CoreState) (tx : ℕ) (snap : Snap) (block : BlockNo) (addr : Addr)
    → HasOfCall tx core (seen_of snap) → IsPlanFor snap (plan.Claim block) → PreservesReads core mid tx
    → IsWhole block addr → IsTaken core tx addr mid
    → HasOfCall tx mid (record (seen_of snap) { claims = snap.claims.items ++ block ∷ [] })
claim_one core mid tx snap block addr has is_plan reads whole took =
    let taken = for_writing tx addr in
    record {
      newest = has.newest;
      blocks = has.blocks ∙ sym (ap (λ (c : CoreState). c.log.blocks) took.only);
      inodes = has.inodes ∙ sym (ap (λ (c : CoreState). c.inodes) took.only);
      claims = one_claimed_once snap.geometry snap.claims.items block has.claims is_plan.1 is_plan.0;
      claimed = All-push (IsClaimedBy mid tx) snap.claims.items block
          (all_claimed core mid tx addr taken refl
          (λ a. took.leaves.holds tx a) snap.claims.items has.claimed)
          (λ a is. ap (λ (a : Addr). is_written (taken_by mid tx a)) (one_whole block a addr is whole)
          ∙ took.written.held);
      were = has.were;
      read = All-weaker (IsReadBy core tx) (IsReadBy mid tx) (λ object is. reads object is) snap.objects.items
          has.read;
      exclusives = all_exclusive core mid tx addr taken refl (λ a. took.leaves.holds tx a) snap.exclusives.items has.exclusives;
      asked = all_asked core mid tx addr taken refl (λ a. took.leaves.holds tx a)
          (λ a. Asks snap.geometry a) has.asked (claimed_object snap.geometry block addr is_plan.1 whole);
    }

-- nothing is taken where no transaction is out
none_taken : (core : CoreState) (tx : ℕ) (addr : Addr) (hold : Hold) → IsWellFormed core → core.out ≡ []
    → taken_by core tx addr ≡ Some hold → ⊥
none_taken core tx addr hold well_formed out taken =
    let found = found_by (is_hold_of tx addr) core.holds hold taken in
    true≢false (sym (All-contains (IsOfOne core) core.holds hold well_formed.owned found.1).0
    ∙ ap (λ (o : List ℕ). list_any (λ other. nat_eq other hold.transaction) o) out)

-- ---- any step

module _ (old new : WorkerAndCore) (well_formed : IsWellFormed old.core) (single_out : IsSingleOut old.worker old.core)
    (fetches : FetchesOnly old.worker.begun.io old.core) (preserves : PreservesReadsOf old new) where
  -- the worker is answered, and has its fetch as before
  at_once_stays_left : (made : Option Step) (left : CoreState) → FetchesOnly old.worker.begun.io left
      → IsAnsweredAtOnce left old new → StaysLeft made new.worker new.core
  at_once_stays_left made left fetching proven = single_by made new.worker new.core Idle old.worker.begun.io
      (ap (λ (s : State). s.phase) proven.worker) (ap (λ (s : State). s.begun.io) proven.worker)
      (subst (λ (c : CoreState). FetchesOnly old.worker.begun.io c) (sym proven.core) fetching) (λ has_space. tt)

  begun_so : (made : Option Step) (job : Job) (number : ℕ) → old.worker.begun.tx ≡ None
      → FetchesOnly None old.core
      → HasBegun job old number new → StaysLeft made new.worker new.core
  begun_so made job number idle none has =
      single_by made new.worker new.core Planning None (ap (λ (s : State). s.phase) has.worker)
      (ap (λ (s : State). s.begun.io) has.worker)
      (subst (λ (c : CoreState). FetchesOnly None c) (sym has.core) none)
      (λ has_space. by (seen_in new.worker.work.planner) refl has.seen)
    where
      by : (found : Option Seen) → seen_in new.worker.work.planner ≡ found → IsSomeAnd found (SawNothing old.core)
          → HasTaken new.worker new.core
      by None at saw = absurd saw
      by (Some seen) at saw =
          has_so new.worker new.core (numbered old.core.boot number job) number seen
          (ap (λ (s : State). s.work.job) has.worker)
          (ap (λ (s : State). s.begun.tx) has.worker) at (record {
            newest = saw.version;
            blocks = saw.blocks ∙ sym (ap (λ (c : CoreState). c.log.blocks) has.core);
            inodes = saw.inodes ∙ sym (ap (λ (c : CoreState). c.inodes) has.core);
            claims = subst (λ (claims : List BlockNo). WereClaimedOnce seen.geometry claims)
                (sym saw.claims) (none_claimed seen.geometry);
            claimed = subst (λ (claims : List BlockNo). All (IsClaimedBy new.core number) claims)
                (sym saw.claims) (All-nil (IsClaimedBy new.core number));
            were = subst (λ (objects : List ObjectBytes). WereAskedOnce seen.geometry objects)
                (sym saw.objects) (none_read seen.geometry);
            read = subst (λ (objects : List ObjectBytes). All (IsReadBy new.core number) objects)
                (sym saw.objects) (All-nil (IsReadBy new.core number));
            exclusives = subst (λ (addrs : List Addr). All (HasExclusive new.core number) addrs) (sym saw.exclusives)
                (All-nil (HasExclusive new.core number));
            asked = λ addr hold is. absurd (nothing addr hold is);
          })
        where
          nothing : (addr : Addr) (hold : Hold) → taken_by new.core number addr ≡ Some hold → ⊥
          nothing addr hold is = none_taken old.core number addr hold well_formed
              (single_out ∙ ap (λ (o : Option ℕ). option_to_list o) idle)
              (sym (ap (λ (c : CoreState). taken_by c number addr) has.core) ∙ is)

  module _ (tx : ℕ) (tx_is : old.worker.begun.tx ≡ Some tx) (none : FetchesOnly None old.core) where
    -- what was aborted has no fetch, and nothing is planned
    aborted_so : (made : Option Step) (phase : Phase)
        → ((worker : State) (core : CoreState) → HasTakenInPlan phase worker core)
        → new.worker.phase ≡ phase → new.worker.begun.io ≡ None
        → Leaves new.core (but_by tx (taken_by old.core)) (is_fetching old.core) (in_memory old.core)
        → StaysLeft made new.worker new.core
    aborted_so made phase plans phase_is io_is leaves =
        single_by made new.worker new.core phase None phase_is io_is
        (λ block. leaves.fetches block ∙ none block) (λ has_space. plans new.worker new.core)

    module _ (job : Job) (snap : Snap) (job_is : old.worker.work.job ≡ Some job)
        (snap_is : seen_in old.worker.work.planner ≡ Some (seen_of snap))
        (has : HasOfCall tx old.core (seen_of snap)) (left : old.worker.known.left ≡ [])
      where
        -- who is kept off has what it had
        off_plans : (request : LockRequest) → HasTaken new.worker new.core
            → HasTakenInPlan (phase_off request old.worker.known) new.worker new.core
        off_plans request taken = by (is_barred request old.worker.known.taken)
          where
            by : (above : Bool) → HasTakenInPlan (if above then Again else Planning) new.worker new.core
            by true = tt
            by false = taken

        wanted_so : (addr : Addr) (mode : Mode) (made : Step) → IsPlanFor snap (plan.Need addr mode)
            → HasWanted tx addr mode old made new
            → StaysLeft (Some made) new.worker new.core
        wanted_so addr mode made is_plan wanted =
            by wanted.answer wanted.core (ap (λ (s : State). s.phase) wanted.worker)
            (ap (λ (s : State). s.begun) wanted.worker) wanted.seen
          where
            new_job : new.worker.work.job ≡ Some job
            new_job = ap (λ (s : State). s.work.job) wanted.worker ∙ job_is

            reads : new.worker.begun.tx ≡ Some tx → PreservesReads old.core new.core tx
            reads new_tx = preserves tx (λ _. new_tx)

            or_none : (b : Bool) → (b || false) ≡ b
            or_none true = refl
            or_none false = refl

            same_core : new.core ≡ old.core → new.worker.begun.tx ≡ Some tx
                → seen_in new.worker.work.planner ≡ seen_in old.worker.work.planner → HasTaken new.worker new.core
            same_core core new_tx seen =
                has_so new.worker new.core job tx (seen_of snap) new_job new_tx (seen ∙ snap_is)
                (subst (λ (c : CoreState). HasOfCall tx c (seen_of snap)) (sym core) has)

            still : new.core ≡ old.core → FetchesOnly None new.core
            still core = subst (λ (c : CoreState). FetchesOnly None c) (sym core) none

            still_none : new.core ≡ with_refused old.core → FetchesOnly None new.core
            still_none core = subst (λ (c : CoreState). FetchesOnly None c) (sym core) none

            by : (answer : Want) → IsWanted old.core tx addr mode answer new.core
                → new.worker.phase ≡ phase_wanted addr mode answer old.worker.known
                → new.worker.begun ≡ begun_wanted answer
                → seen_in new.worker.work.planner
                ≡ seen_wanted old.worker.known.left addr mode answer (seen_in old.worker.work.planner)
                → StaysLeft (Some made) new.worker new.core
            by (want.Held back bytes) is phase got seen =
                let new_tx : new.worker.begun.tx ≡ Some tx =
                ap (λ (b : Begun). b.tx) got ∙ ap (λ t. Some t) is.0 in
                single_by (Some made) new.worker new.core Planning None phase (ap (λ (b : Begun). b.io) got)
                (λ block. is.2.leaves.fetches block ∙ none block)
                (λ has_space. has_so new.worker new.core job tx _ new_job new_tx
                (seen ∙ ap (λ l. seen_held l addr mode bytes (seen_in old.worker.work.planner)) left
                ∙ ap (with_object addr mode bytes) snap_is)
                (read_one old.core new.core tx snap addr mode has is_plan (reads new_tx) bytes is.2))
            by (want.Fetch back io) is phase got seen =
                let new_tx : new.worker.begun.tx ≡ Some tx =
                ap (λ (b : Begun). b.tx) got ∙ ap (λ t. Some t) is.0 in
                single_by (Some made) new.worker new.core Reading (Some io) phase (ap (λ (b : Begun). b.io) got)
                (λ block. is.2.leaves.fetches block ∙ ap (λ b. nat_eq block.0 addr.block.0 || b) (none block)
                ∙ or_none (nat_eq block.0 addr.block.0)
                ∙ ap (λ (k : BlockNo). nat_eq block.0 k.0) (sym is.2.block))
                (λ has_space. has_so new.worker new.core job tx (seen_of snap) new_job new_tx (seen ∙ snap_is)
                (fetch_one old.core new.core tx snap addr mode has is_plan (reads new_tx) io is.2))
            by (want.Busy back) is phase got seen =
                single_by (Some made) new.worker new.core (phase_off (lock_request.Object addr mode) old.worker.known) None phase
                (ap (λ (b : Begun). b.io) got) (still is.2) (λ has_space. off_plans (lock_request.Object addr mode)
                (same_core is.2 (ap (λ (b : Begun). b.tx) got ∙ ap (λ t. Some t) is.0) seen))
            by (want.Loading back) is phase got seen =
                single_by (Some made) new.worker new.core (phase_off (lock_request.Object addr mode) old.worker.known) None phase
                (ap (λ (b : Begun). b.io) got) (still is.2) (λ has_space. off_plans (lock_request.Object addr mode)
                (same_core is.2 (ap (λ (b : Begun). b.tx) got ∙ ap (λ t. Some t) is.0) seen))
            by (want.Outside back) is phase got seen =
                single_by (Some made) new.worker new.core (phase_wanted addr mode (want.Outside back) old.worker.known) None phase
                (ap (λ (b : Begun). b.io) got) (still is.2) (λ has_space. tt)
            by (want.NoMemory back error) is phase got seen =
                single_by (Some made) new.worker new.core (phase_wanted addr mode (want.NoMemory back error) old.worker.known) None phase
                (ap (λ (b : Begun). b.io) got) (still_none is.2) (λ has_space. tt)

        claimed_so : (block : BlockNo) (made : Step) → IsPlanFor snap (plan.Claim block)
            → HasClaimed tx block old made new → StaysLeft (Some made) new.worker new.core
        claimed_so block made is_plan claims =
            by claims.answer claims.core.2 (ap (λ (s : State). s.phase) claims.worker)
            (ap (λ (s : State). s.begun) claims.worker) claims.seen
          where
            new_job : new.worker.work.job ≡ Some job
            new_job = ap (λ (s : State). s.work.job) claims.worker ∙ job_is

            same_core : new.core ≡ old.core → new.worker.begun.tx ≡ Some tx
                → seen_in new.worker.work.planner ≡ seen_in old.worker.work.planner → HasTaken new.worker new.core
            same_core core new_tx seen =
                has_so new.worker new.core job tx (seen_of snap) new_job new_tx (seen ∙ snap_is)
                (subst (λ (c : CoreState). HasOfCall tx c (seen_of snap)) (sym core) has)

            still : new.core ≡ old.core → FetchesOnly None new.core
            still core = subst (λ (c : CoreState). FetchesOnly None c) (sym core) none

            still_none : new.core ≡ with_refused old.core → FetchesOnly None new.core
            still_none core = subst (λ (c : CoreState). FetchesOnly None c) (sym core) none

            by : (answer : Claim) → IsClaimed old.core tx claims.core.0 answer new.core
                → new.worker.phase ≡ phase_claimed block answer old.worker.known
                → new.worker.begun ≡ begun_claimed answer
                → seen_in new.worker.work.planner
                ≡ seen_claimed old.worker.known.left block answer (seen_in old.worker.work.planner)
                → StaysLeft (Some made) new.worker new.core
            by (claim.Held back) is phase got seen =
                let new_tx : new.worker.begun.tx ≡ Some tx =
                ap (λ (b : Begun). b.tx) got ∙ ap (λ t. Some t) is.0 in
                single_by (Some made) new.worker new.core Planning None phase (ap (λ (b : Begun). b.io) got)
                (λ block. is.2.leaves.fetches block ∙ none block)
                (λ has_space. has_so new.worker new.core job tx _ new_job new_tx
                (seen ∙ ap (λ l. seen_taken l block (seen_in old.worker.work.planner)) left
                ∙ ap (with_claim block) snap_is)
                (claim_one old.core new.core tx snap block claims.core.0 has is_plan
                (preserves tx (λ _. new_tx)) claims.core.1 is.2))
            by (claim.Busy back) is phase got seen =
                single_by (Some made) new.worker new.core (phase_off (lock_request.Claim block) old.worker.known) None phase
                (ap (λ (b : Begun). b.io) got) (still is.2) (λ has_space. off_plans (lock_request.Claim block)
                (same_core is.2 (ap (λ (b : Begun). b.tx) got ∙ ap (λ t. Some t) is.0) seen))
            by (claim.Loading back) is phase got seen =
                single_by (Some made) new.worker new.core (phase_off (lock_request.Claim block) old.worker.known) None phase
                (ap (λ (b : Begun). b.io) got) (still is.2) (λ has_space. off_plans (lock_request.Claim block)
                (same_core is.2 (ap (λ (b : Begun). b.tx) got ∙ ap (λ t. Some t) is.0) seen))
            by (claim.Outside back) is phase got seen =
                single_by (Some made) new.worker new.core (phase_claimed block (claim.Outside back) old.worker.known) None phase
                (ap (λ (b : Begun). b.io) got) (still is.2) (λ has_space. tt)
            by (claim.NoMemory back error) is phase got seen =
                single_by (Some made) new.worker new.core (phase_claimed block (claim.NoMemory back error) old.worker.known) None phase
                (ap (λ (b : Begun). b.io) got) (still_none is.2) (λ has_space. tt)

    -- what came of a commit
    module _ (job : Job) (done : Outcome) where
      placed_so : (made : Option Step) (base : State) (place : Seq) (stable : Bool) → base.begun.io ≡ None
          → FetchesOnly None new.core
          → new.worker ≡ with_entry job done.reply (answered_or_waiting stable job done.reply place base)
          → StaysLeft made new.worker new.core
      placed_so made base place true io now is =
          single_by made new.worker new.core (Waiting place) None (ap (λ (s : State). s.phase) is)
          (ap (λ (s : State). s.begun.io) is ∙ io) now (λ has_space. tt)
      placed_so made base place false io now is =
          single_by made new.worker new.core Idle None (ap (λ (s : State). s.phase) is)
          (ap (λ (s : State). s.begun.io) is ∙ io) now (λ has_space. tt)

      committed_so : (made : Step) (base : State) (added : List BlockNo) (answer : Commit Outcome) → base.begun.io ≡ None
          → made ≡ step.Commit added (committing_of answer)
          → IsCommit old.core tx (planned_of done) done answer new.core
          → new.worker ≡ after_commit job done.reply answer base → StaysLeft (Some made) new.worker new.core
      committed_so made base added (commit.Committed receipt) io made_is core is =
          placed_so (Some made) base receipt.place (is_answered_stable job.call) io
          (λ block. core.leaves.fetches block ∙ none block) is
      committed_so made base added (commit.Full back same) io made_is core is =
          single_by (Some made) new.worker new.core Planning None (ap (λ (s : State). s.phase) is)
          (ap (λ (s : State). s.begun.io) is)
          (subst (λ (c : CoreState). FetchesOnly None c) (sym core.0.core) none)
          (λ has_space. absurd (true≢false (sym (ap (λ m. is_full (Some m)) made_is) ∙ has_space)))
      committed_so made base added (commit.Foreign back same) io made_is core is =
          single_by (Some made) new.worker new.core Again None (ap (λ (s : State). s.phase) is)
          (ap (λ (s : State). s.begun.io) is)
          (subst (λ (c : CoreState). FetchesOnly None c) (sym core.0.core) none) (λ has_space. tt)
      committed_so made base added (commit.NoMemory back same error) io made_is core is =
          single_by (Some made) new.worker new.core (Refused (cause.NoMemory alloc_error)) None
          (ap (λ (s : State). s.phase) is)
          (ap (λ (s : State). s.begun.io) is)
          (subst (λ (c : CoreState). FetchesOnly None c) (sym core.0.core) none) (λ has_space. tt)
      committed_so made base added (commit.Broken back same) io made_is core is =
          single_by (Some made) new.worker new.core (Refused cause.Io) None (ap (λ (s : State). s.phase) is)
          (ap (λ (s : State). s.begun.io) is)
          (subst (λ (c : CoreState). FetchesOnly None c) (sym core.0.core) none) (λ has_space. tt)
      committed_so made base added (commit.Spent back same) io made_is core is =
          single_by (Some made) new.worker new.core (Refused cause.Spent) None (ap (λ (s : State). s.phase) is)
          (ap (λ (s : State). s.begun.io) is)
          (subst (λ (c : CoreState). FetchesOnly None c) (sym core.0.core) none) (λ has_space. tt)

    lacked_so : (made : Step) → HasLacked tx old made new → StaysLeft (Some made) new.worker new.core
    lacked_so made has = aborted_so (Some made) Idle (λ worker core. tt)
        (ap (λ (s : State). s.phase) has.worker) (ap (λ (s : State). s.begun.io) has.worker) has.core.leaves

    planned_so : (made : Step) (next : Plan) → old.worker.known.left ≡ [] → IsNext old.worker next
        → HasTaken old.worker old.core
        → GoesByNext next tx old made new → StaysLeft (Some made) new.worker new.core
    planned_so made next left is taken goes = of_next next is.plan goes
      where
        has : HasOfCall tx old.core (seen_of is.snap)
        has = has_of old.worker old.core is.job tx (seen_of is.snap) is.job_is tx_is is.snap_is taken

        of_next : (next : Plan) → IsPlanFor is.snap next → GoesByNext next tx old made new
            → StaysLeft (Some made) new.worker new.core
        of_next (plan.Need addr mode) is_plan goes =
            wanted_so is.job is.snap is.job_is is.snap_is has left addr mode made is_plan goes
        of_next (plan.Claim block) is_plan goes =
            claimed_so is.job is.snap is.job_is is.snap_is has left block made is_plan goes
        of_next (plan.Done done) is_plan goes = elim (ending old new tx done made goes) [
          | lacked has_lacked ↦ lacked_so made has_lacked
          | committed job job_is has ↦
              committed_so job done made (record (with_snap new.worker old.worker) { begun = none_begun })
              (blocks_of done.written) has.answer refl has.made_is
              has.core has.worker
        ]
        of_next (plan.NoMemory error) is_plan goes = lacked_so made goes

  -- a fetch is given back
  given_so : (ok : Bool) (made : Step) (io : Fetch) → old.worker.begun.io ≡ Some io
      → HasTaken old.worker old.core
      → HasGivenBack ok io old made new → StaysLeft (Some made) new.worker new.core
  given_so ok made io io_is taken has =
      single_by (Some made) new.worker new.core (phase_given ok) None (ap (λ (s : State). s.phase) has.worker)
      (ap (λ (s : State). s.begun.io) has.worker) none (λ has_space. by ok)
    where
      not_both : (b : Bool) → (not b && b) ≡ false
      not_both true = refl
      not_both false = refl

      none : FetchesOnly None new.core
      none block = has.leaves.fetches block
          ∙ ap (λ b. not (nat_eq block.0 io.block.0) && b)
          (fetches block ∙ ap (λ (o : Option Fetch). is_fetch_of o block) io_is)
          ∙ not_both (nat_eq block.0 io.block.0)

      same : HasTaken new.worker new.core
      same = same_taken old.worker new.worker old.core new.core (ap (λ (s : State). s.work.job) has.worker)
          (ap (λ (s : State). s.begun.tx) has.worker) (ap (λ (s : State). seen_in s.work.planner) has.worker)
          (λ job tx seen tx_is of_call. moved tx seen old.core new.core
          (ap (λ (c : CoreState). c.log.blocks) has.only) (ap (λ (c : CoreState). c.inodes) has.only)
          (λ addr. has.leaves.holds tx addr)
          (preserves tx (λ was. ap (λ (s : State). s.begun.tx) has.worker ∙ was)) of_call) taken

      by : (ok : Bool) → HasTakenInPlan (phase_given ok) new.worker new.core
      by true = same
      by false = tt

  waited_so : (place : Seq) (made : Step) → old.worker.phase ≡ Waiting place → Waits place old made new
      → StaysLeft (Some made) new.worker new.core
  waited_so place made at has = by has.settled old.core.log.broken has.is_reply_sent
    where
      now : FetchesOnly old.worker.begun.io new.core
      now = subst (λ (c : CoreState). FetchesOnly old.worker.begun.io c) (sym has.core) fetches

      heard : (given_verdict : Verdict) (base : State) → base.begun.io ≡ old.worker.begun.io
          → new.worker ≡ with_answer given_verdict (Some place) base → StaysLeft (Some made) new.worker new.core
      heard given_verdict base io is = single_by (Some made) new.worker new.core Idle old.worker.begun.io
          (ap (λ (s : State). s.phase) is) (ap (λ (s : State). s.begun.io) is ∙ io) now (λ has_space. tt)

      reply : (o : Option Reply) (base : State) → base.begun.io ≡ old.worker.begun.io
          → IsSomeAnd o (λ reply. new.worker ≡ with_answer (verdict.Reply reply) (Some place) base)
          → StaysLeft (Some made) new.worker new.core
      reply None base io has = absurd has
      reply (Some r) base io has = heard (verdict.Reply r) base io has

      by : (settled broken : Bool) → IsHeard settled broken place old.worker new.worker
          → StaysLeft (Some made) new.worker new.core
      by true broken has = reply old.worker.work.reply
          (record old.worker { work = record old.worker.work { reply = None } }) refl has
      by false true has = reply old.worker.work.broken_reply
          (record old.worker { work = record old.worker.work { broken_reply = None } }) refl has
      by false false has = waits has
        where
          waits : new.worker ≡ old.worker → StaysLeft (Some made) new.worker new.core
          waits same = single_by (Some made) new.worker new.core (Waiting place) old.worker.begun.io
              (ap (λ (s : State). s.phase) same ∙ at) (ap (λ (s : State). s.begun.io) same) now (λ has_space. tt)

  refused_so : (why : Cause) (made : Step) → FetchesOnly None old.core → (job : Option Job) (tx : Option ℕ)
      → old.worker.begun.tx ≡ tx
      → IsSomeAnd job (λ job. IsSomeAnd tx (λ tx. HasRefused why job tx old made new))
      → StaysLeft (Some made) new.worker new.core
  refused_so why made none None tx tx_is has = absurd has
  refused_so why made none (Some job) None tx_is has = absurd has
  refused_so why made none (Some job) (Some tx) tx_is has =
      aborted_so tx tx_is none (Some made) Idle (λ worker core. tt) (ap (λ (s : State). s.phase) has.worker)
      (ap (λ (s : State). s.begun.io) has.worker) has.core.leaves

  left_so : (made : Step) → FetchesOnly None old.core → (tx : Option ℕ) → old.worker.begun.tx ≡ tx
      → IsSomeAnd tx (λ tx. HasLeft tx old made new) → StaysLeft (Some made) new.worker new.core
  left_so made none None tx_is has = absurd has
  left_so made none (Some tx) tx_is has =
      aborted_so tx tx_is none (Some made) Called (λ worker core. tt) (ap (λ (s : State). s.phase) has.worker)
      (ap (λ (s : State). s.begun.io) has.worker) has.core.leaves

  called_so : (made : Step) → old.worker.begun.tx ≡ None → FetchesOnly None old.core → Beginning old made new
      → StaysLeft (Some made) new.worker new.core
  called_so made idle none (begun job number job_is made_is has) = begun_so (Some made) job number idle none has
  called_so made idle none (refused why made_is proven) = at_once_stays_left (Some made) (unbegun why old.core)
      (unbegun_by (λ (c : CoreState). FetchesOnly old.worker.begun.io c) why old.core fetches fetches) proven
  called_so made idle none (replied made_is proven) = at_once_stays_left (Some made) old.core fetches proven

  read_so : (ok : Bool) (made : Step) (io : Option Fetch) → old.worker.begun.io ≡ io
      → HasTaken old.worker old.core
      → IsSomeAnd io (λ io. HasGivenBack ok io old made new) → StaysLeft (Some made) new.worker new.core
  read_so ok made None io_is taken has = absurd has
  read_so ok made (Some io) io_is taken has = given_so ok made io io_is taken has

  rests_so : (made : Option Step) (phase : Phase) → old.worker.phase ≡ phase
      → HasTakenInPlan phase old.worker old.core
      → new ≡ old → StaysLeft made new.worker new.core
  rests_so made phase at plans same = subst (λ (s : WorkerAndCore). StaysLeft made s.worker s.core) (sym same)
      (single_by made old.worker old.core phase old.worker.begun.io at refl fetches (λ has_space. plans))

  no_tx : (tx : Option ℕ) → is_some tx ≡ false → tx ≡ None
  no_tx None none = refl
  no_tx (Some tx) some = absurd (true≢false some)

  stays_left : (phase : Phase) (made : Option Step) → old.worker.phase ≡ phase
      → is_some old.worker.begun.tx ≡ has_transaction phase → is_some old.worker.begun.io ≡ has_fetch phase
      → HasTakenInPlan phase old.worker old.core → LeavesNothing phase old.worker.known → GoesOn phase old made new
      → StaysLeft made new.worker new.core
  stays_left Idle made at out fetch plans left has = rests_so made Idle at plans has.1
  stays_left Reading made at out fetch plans left has = rests_so made Reading at plans has.1
  stays_left Called (Some made) at out fetch plans left has =
      called_so made (no_tx old.worker.begun.tx out) (no_fetch old.worker.begun.io old.core fetch fetches)
      (beginning old new made has)
  stays_left Planning (Some made) at out fetch plans left (inl has) =
      planned_so has.tx has.tx_is (no_fetch old.worker.begun.io old.core fetch fetches) made has.next left
      has.next_is plans has.goes
  stays_left Planning (Some made) at out fetch plans left (inr has) =
      let never : has.next ∷ has.later ≡ [] = sym has.left ∙ left in cc
  stays_left (Read ok) (Some made) at out fetch plans left has = read_so ok made old.worker.begun.io refl plans has
  stays_left (Refused why) (Some made) at out fetch plans left has =
      refused_so why made (no_fetch old.worker.begun.io old.core fetch fetches) old.worker.work.job
      old.worker.begun.tx refl has
  stays_left Again (Some made) at out fetch plans left has =
      left_so made (no_fetch old.worker.begun.io old.core fetch fetches) old.worker.begun.tx refl has
  stays_left (Waiting place) (Some made) at out fetch plans left has = waited_so place made at has
  stays_left Called None at out fetch plans left has = absurd has
  stays_left Planning None at out fetch plans left has = absurd has
  stays_left (Read ok) None at out fetch plans left has = absurd has
  stays_left (Refused why) None at out fetch plans left has = absurd has
  stays_left Again None at out fetch plans left has = absurd has
  stays_left (Waiting place) None at out fetch plans left has = absurd has

  pub stays_single : (phase : Phase) (made : Option Step) → old.worker.phase ≡ phase
      → is_some old.worker.begun.tx ≡ has_transaction phase → is_some old.worker.begun.io ≡ has_fetch phase
      → HasTakenInPlan phase old.worker old.core → LeavesNothing phase old.worker.known → GoesOn phase old made new
      → StaysSingle made new.worker new.core
  stays_single phase made at out fetch plans nothing goes =
      let left : StaysLeft made new.worker new.core = stays_left phase made at out fetch plans nothing goes in
      record {
        out = still_single old new phase out single_out made goes;
        fetches = left.fetches;
        left = leaves_nothing old new phase made at nothing
            (never_deferred old new well_formed single_out fetches phase made fetch plans nothing goes) goes;
        plans = left.plans;
      }
