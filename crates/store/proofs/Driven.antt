-- Each round of a call that one thread drives leaves less of it.
use Rattle.std.proofs.Common.{arith, ◌≡◌, ◌∙◌, refl, sym, ap, subst, true≢false, ℕ, ◌+◌, ◌-◌, ◌*◌, ◌<◌, alloc_error}
use Rattle.std.proofs.Common.{◌≤◌, ◌⊎◌, inl, inr}
use Rattle.std.proofs.Common.{Bool, true, false, ◌||◌, if◌then◌else◌, nat_le, Option, Some, None}
use Rattle.std.proofs.Common.{is_some}
use Rattle.std.proofs.Common.{List, [], ◌∷◌, ◌++◌, length, Result, Ok, Err, is_ok, suc, IsTrue, ◌↔◌}
use Rattle.std.proofs.Common.{OnOk, OnErr}
use Rattle.std.specs.Prelude.{IsSomeAnd, MatchOption}
use Rattle.std.proofs.lemmas.Bool.Decides.{nat_tests}
use Rattle.std.proofs.lemmas.List.{length-append}
use Rattle.std.proofs.lemmas.Nat.{mul-le}
use Rattle.disk.specs.Device.{Device}
use Rattle.disk.specs.declared.block.BlockNo.{BlockNo}
use Rattle.disk.specs.declared.device.Failed.{Failed}
use Rattle.base.specs.declared.TheConstants.{CHANGED_BLOCKS}
use Rattle.objects.specs.declared.addr.Addr.{Addr}
use Rattle.objects.specs.declared.mode.Mode.{Mode}
use Rattle.nfs_spec.specs.Model.Calls.{is_answered_stable}
use Rattle.nfs_types.specs.declared.call.Call.{Call}
use Rattle.nfs_types.specs.declared.ctx.Ctx.{Ctx}
use Rattle.nfs_types.specs.declared.reply.Reply.{Reply}
use Rattle.circ.specs.Log.Log.{Log, settled_place}
use Rattle.circ.specs.declared.log.outcomes.Seq.{Seq}
use Rattle.procs.specs.MostAsked.{most_asked, most_claimed, times_asked}
use Rattle.procs.specs.Outcome.{Outcome}
use Rattle.procs.specs.Planned.{IsPlanFor}
use Rattle.procs.specs.declared.next.Plan.{Plan}
use Rattle.procs.specs.declared.next.Plan.TheVariants as plan
use Rattle.inode.specs.Snap.{with_mode, with_read}
use Rattle.inode.specs.declared.snap.Snap.{Snap}
use Rattle.procs.proofs.FewAsked.{asked_more, few_times, read_once}
use Rattle.procs.proofs.FewClaimed.{few_claimed, one_claimed_once}
use Rattle.txn.specs.Core.{CoreState}
use Rattle.txn.specs.Fetch.{Fetch}
use Rattle.txn.specs.Group.{blocks_of}
use Rattle.txn.specs.Outcomes.{IsClaimed, IsCommit, IsWanted, unbegun}
use Rattle.txn.specs.declared.outcomes.Claim.{Claim}
use Rattle.txn.specs.declared.outcomes.Claim.TheVariants as claim
use Rattle.txn.specs.declared.outcomes.Commit.{Commit}
use Rattle.txn.specs.declared.outcomes.Commit.TheVariants as commit
use Rattle.txn.specs.declared.outcomes.Want.{Want}
use Rattle.txn.specs.declared.outcomes.Want.TheVariants as want
use Rattle.txn_law.specs.LockAnswers.{IsFetched}
use Rattle.store_promise.specs.Verdicts.{refusal}
use Rattle.store_promise.specs.declared.answers.CallAnswer.{CallAnswer}
use Rattle.store_promise.specs.declared.answers.Verdict.{Verdict}
use Rattle.store_promise.specs.declared.answers.Verdict.TheVariants as verdict
use Rattle.store_promise.specs.declared.events.Cause.{Cause}
use Rattle.store_promise.specs.declared.events.Step.{Step}
use Rattle.store_promise.specs.declared.events.Step.TheVariants as step
use Rattle.store.proofs.AtHand.{at_most_all, fewer_away}
use Rattle.store_workers.proofs.LoneWorker.{has_of}
use Rattle.store.proofs.LogSpace.{no_log_space}
use Rattle.store_workers.proofs.StepKinds.{Beginning, IsAnsweredAtOnce, beginning, ending}
use Rattle.store_workers.proofs.StepKinds.{begun, refused, replied, lacked, committed}
use Rattle.store_promise.specs.declared.lock_requests.LockRequest.{LockRequest}
use Rattle.store_workers.specs.Single.{HasOfCall, HasTaken, LeavesNothing, HasTakenInPlan, is_full, is_deferred}
use Rattle.store_workers.specs.Knowing.{nothing_known}
use Rattle.store_images.specs.Fetches.{PreservesFetches}
use Rattle.store.specs.Driving.{HasGoneOn, HasAnswer, IsNearer, IsUnder, IsUnderWay}
use Rattle.store.specs.Driving.{away, count_of, has_log_space, is_at_hand}
use Rattle.store.specs.Driving.{left_in, most_taken, rounds_left, steps_left, untaken}
use Rattle.store.specs.Driving.{waits_for_log}
use Rattle.store.specs.Driving.{whole_round}
use Rattle.store_images.specs.Counts.{SameFrame}
use Rattle.store_images.specs.Opening.{IsSettled}
use Rattle.store_images.specs.Settling.{SameNumbers}
use Rattle.store_workers.specs.Seen.{Seen, seen_in, seen_of, with_claim, with_object}
use Rattle.store_workers.specs.WorkerAnswers.{after_commit, begun_wanted, claim_answer, committing_of}
use Rattle.store_workers.specs.WorkerAnswers.{phase_claimed, phase_wanted, seen_claimed, seen_wanted}
use Rattle.store_workers.specs.WorkerAnswers.{answered_or_waiting, want_answer, with_answer}
use Rattle.store_workers.specs.WorkerAnswers.{with_entry}
use Rattle.store_workers.specs.RunReports as run_reports
use Rattle.store_workers.specs.Worker.{with_call}
use Rattle.store_workers.specs.WorkerReads.{HasReadBlock}
use Rattle.store_workers.specs.WorkerSteps.{GoesByNext, GoesOn, HasBegun, HasLacked}
use Rattle.store_workers.specs.WorkerSteps.{IsNext, WorkerAndCore, Waits, IsReplySent as IsHeard, BeginsAgain, HasGivenBack}
use Rattle.store_workers.specs.WorkerSteps.{HasLeft, HasRefused}
use Rattle.store_workers.specs.WorkerSteps.{Refuses, none_begun, planned_of, worker_and_core, with_snap}
use Rattle.store_workers.specs.declared.workers.parts.Begun.{Begun}
use Rattle.store_workers.specs.declared.workers.parts.Job.{Job}
use Rattle.store_workers.specs.declared.workers.parts.Phase.{Phase}
use Rattle.store_workers.specs.declared.workers.parts.Phase.TheVariants.{Idle, Called, Planning}
use Rattle.store_workers.specs.declared.workers.parts.Phase.TheVariants.{Reading, Read}
use Rattle.store_workers.specs.declared.workers.parts.Phase.TheVariants.{Refused, Again, Waiting}
use Rattle.store_workers.specs.declared.workers.parts.State.{State}
use Rattle.store_workers.specs.declared.workers.parts.Work.{Work}

-- ---- numbers

-- what a transaction takes is less than a whole round
round_less : (rounds most blocks unread away : ℕ) → unread ≤ most → away ≤ blocks
    → rounds + (3 + (unread * (blocks + 1) + away)) < rounds + (most * (blocks + 1) + blocks + 4)
round_less rounds most blocks unread away asked there =
    let reads = mul-le unread (blocks + 1) most (blocks + 1) asked (grind (arith)) in
    more (unread * (blocks + 1)) (most * (blocks + 1)) reads
  where
    more : (some all : ℕ) → some ≤ all → rounds + (3 + (some + away)) < rounds + (all + blocks + 4)
    more some all few = grind (arith)

-- an object that was read leaves fewer
read_less : (most count then' blocks away was rounds : ℕ) → count < then' → then' ≤ most → away ≤ blocks
    → rounds + (3 + ((most - then') * (blocks + 1) + away)) < rounds +
    (3 + ((most - count) * (blocks + 1) + was))
read_less most count then' blocks away was rounds fewer few within =
    let extra = most - count - suc (most - then') in
    let one : most - count ≡ suc (most - then') + extra = omega (arith, fewer, few) in
    subst (λ n. rounds + (3 + ((most - then') * (blocks + 1) + away)) < rounds +
    (3 + (n * (blocks + 1) + was)))
    (sym one) (more (most - then') extra blocks within)
  where
    more : (left extra all : ℕ) → away ≤ all → rounds + (3 + (left * (all + 1) + away)) < rounds +
        (3 + ((suc left + extra) * (all + 1) + was))
    more left extra all there =
        let product : (suc left + extra) * (all + 1) ≡ all + 1 + left * (all + 1) + extra * (all + 1) = grind (arith) in
        grind (arith)

-- ---- what a round comes to

nearer : (most : ℕ) (state : State) (core : CoreState) (phase : Phase) → state.phase ≡ phase
    → IsUnder phase core → left_in phase state.work core < most → HasGoneOn most state core
nearer most state core phase is under less = inr (record {
  under_way = subst (λ p. IsUnder p core) (sym is) under;
  less = subst (λ p. left_in p state.work core < most) (sym is) less;
})

answered : (most : ℕ) (state old : State) (core : CoreState) (given_verdict : Verdict) (place : Option Seq)
    → state ≡ with_answer given_verdict place old → HasGoneOn most state core
answered most state old core given_verdict place is = inl (record {
  idle = ap (λ (s : State). s.phase) is;
  there = ap (λ (s : State). is_some s.work.answer) is;
})

-- a read is due, of a block that isn't at hand
pub record IsToRead (old new : WorkerAndCore) : Type 0 where
  pub phase : new.worker.phase ≡ Reading
  pub tx : ℕ
  pub addr : Addr
  pub mode : Mode
  pub io : Fetch
  pub io_is : new.worker.begun.io ≡ Some io
  pub fetched : IsFetched old.core tx addr mode io new.core
  pub within : addr.block.0 < old.core.log.blocks
  pub job : new.worker.work.job ≡ old.worker.work.job
  pub seen : seen_in new.worker.work.planner ≡ seen_in old.worker.work.planner
  pub entry : new.worker.work.entry ≡ old.worker.work.entry
  pub answer : new.worker.work.answer ≡ old.worker.work.answer

-- a commit was refused for want of room: the call begins again once there is some
pub record IsFull (most : ℕ) (new : WorkerAndCore) : Type 0 where
  pub phase : new.worker.phase ≡ Planning
  pub less : whole_round new.core.log.blocks + 1 < most

-- it waits for its place, which was taken
pub record IsToSettle (old new : WorkerAndCore) (place : Seq) : Type 0 where
  pub same : new.worker ≡ old.worker
  pub unsettled : nat_le place.0 (settled_place old.core.log) ≡ false
  pub sound : old.core.log.broken ≡ false
  pub within : place.0 ≤ new.core.log.places

-- what a step comes to, before what it waits for
pub data Came (phase : Phase) (old : WorkerAndCore) (made : Option Step) (new : WorkerAndCore) : Type 0 where
  gone : HasGoneOn (left_in phase old.worker.work old.core) new.worker new.core
      → is_full made ≡ false → waits_for_log made ≡ false → Came phase old made new
  answered_now : HasAnswer new.worker → is_full made ≡ false → Came phase old made new
  reads : IsToRead old new → phase ≡ Planning → is_full made ≡ false → waits_for_log made ≡ false
      → Came phase old made new
  full : IsFull (left_in phase old.worker.work old.core) new → is_full made ≡ true → waits_for_log made ≡ true
      → Came phase old made new
  waits : (place : Seq) → phase ≡ Waiting place → IsToSettle old new place → is_full made ≡ false
      → waits_for_log made ≡ true → Came phase old made new

-- where it goes on without the log
goes_by : (phase : Phase) (old : WorkerAndCore) (made what : Step) (new : WorkerAndCore)
    → HasGoneOn (left_in phase old.worker.work old.core) new.worker new.core → made ≡ what
    → is_full (Some what) ≡ false → waits_for_log (Some what) ≡ false → Came phase old (Some made) new
goes_by phase old made what new on is unkept none =
    gone on (ap (λ m. is_full (Some m)) is ∙ unkept) (ap (λ m. waits_for_log (Some m)) is ∙ none)

-- ---- what was read

untaken_is : (work : Work) (seen : Seen) (blocks : ℕ) → seen_in work.planner ≡ Some seen
    → untaken work blocks ≡ most_taken blocks - (times_asked seen.objects seen.exclusives + length seen.claims)
untaken_is work seen blocks seen_is = ap (λ (o : Option Seen). most_taken blocks - count_of o) seen_is

untaken_within : (work : Work) (blocks : ℕ) → untaken work blocks ≤ most_taken blocks
untaken_within work blocks = within (most_taken blocks) (count_of (seen_in work.planner))
  where
    within : (a b : ℕ) → a - b ≤ a
    within a b = omega arith

all_taken : (times claims blocks : ℕ) → times ≤ 2 * most_asked blocks → claims ≤ most_claimed blocks
    → times + claims ≤ most_taken blocks
unfolding most_taken
all_taken times claims blocks few fewer = omega (arith, few, fewer)

-- with one more that was taken less is left
less_taken : (old new : WorkerAndCore) (snap : Snap) (now_seen : Seen)
    → seen_in old.worker.work.planner ≡ Some (seen_of snap) → seen_in new.worker.work.planner ≡ Some now_seen
    → new.core.log ≡ old.core.log
    → count_of (Some (seen_of snap)) < count_of (Some now_seen)
    → count_of (Some now_seen) ≤ most_taken old.core.log.blocks
    → left_in Planning new.worker.work new.core < left_in Planning old.worker.work old.core
less_taken old new snap now_seen snap_is seen log more within =
    let now : untaken new.worker.work b ≡ most_taken b - then' = untaken_is new.worker.work now_seen b seen in
    let was = untaken_is old.worker.work (seen_of snap) b snap_is in
    let fewer = read_less (most_taken b) count then' b (away new.core) (away old.core)
    (rounds_left old.core.log) more within
    (subst (λ n. away new.core ≤ n) blocks (at_most_all (is_at_hand new.core) new.core.log.blocks)) in
    subst (λ (l : Log). rounds_left l
    + (3 + (untaken new.worker.work l.blocks * (l.blocks + 1) + away new.core)) < left) (sym log)
    (subst (λ u. rounds_left old.core.log + (3 + (u * (b + 1) + away new.core)) < left) (sym now)
    (subst (λ u. rounds_left old.core.log + (3 + ((most_taken b - then') * (b + 1) + away new.core))
    < rounds_left old.core.log + (3 + (u * (b + 1) + away old.core))) (sym was) fewer))
  where
    blocks : new.core.log.blocks ≡ old.core.log.blocks
    blocks = ap (λ (l : Log). l.blocks) log

    b : ℕ
    b = old.core.log.blocks

    count : ℕ
    count = count_of (Some (seen_of snap))

    then' : ℕ
    then' = count_of (Some now_seen)

    left : ℕ
    left = left_in Planning old.worker.work old.core

-- ---- a transaction is begun

begun_so : (old new : WorkerAndCore) (job : Job) (number : ℕ) → HasBegun job old number new
    → HasGoneOn (left_in Called old.worker.work old.core) new.worker new.core
begun_so old new job number has =
    nearer (left_in Called old.worker.work old.core) new.worker new.core Planning
    (ap (λ (s : State). s.phase) has.worker) tt
    (subst (λ (l : Log). rounds_left l + (3 + (untaken new.worker.work l.blocks * (l.blocks + 1) + away new.core))
    < left_in Called old.worker.work old.core) (sym log) fewer)
  where
    log : new.core.log ≡ old.core.log
    log = ap (λ (c : CoreState). c.log) has.core

    fewer : rounds_left old.core.log
        + (3 + (untaken new.worker.work old.core.log.blocks * (old.core.log.blocks + 1) + away new.core))
        < left_in Called old.worker.work old.core
    fewer = round_less (rounds_left old.core.log) (most_taken old.core.log.blocks) old.core.log.blocks
        (untaken new.worker.work old.core.log.blocks) (away new.core)
        (untaken_within new.worker.work old.core.log.blocks)
        (subst (λ n. away new.core ≤ n) (ap (λ (l : Log). l.blocks) log)
        (at_most_all (is_at_hand new.core) new.core.log.blocks))

at_once_holds : (kept : CoreState) (old new : WorkerAndCore) → IsAnsweredAtOnce kept old new
    → HasGoneOn (left_in Called old.worker.work old.core) new.worker new.core
at_once_holds kept old new is =
    answered (left_in Called old.worker.work old.core) new.worker old.worker new.core is.heard None is.worker

called : (old new : WorkerAndCore) (made : Step) → Beginning old made new → Came Called old (Some made) new
called old new made (begun job number job_is made_is has) =
    goes_by Called old made (step.Begun (Ok number)) new (begun_so old new job number has)
    made_is refl refl
called old new made (refused why made_is is) =
    goes_by Called old made (step.Begun (Err why)) new (at_once_holds (unbegun why old.core) old new is)
    made_is refl refl
called old new made (replied made_is is) =
    goes_by Called old made step.Replied new (at_once_holds old.core old new is) made_is refl refl

-- ---- a lock request

module _ (old new : WorkerAndCore) (addr : Addr) (mode : Mode) (job : Job) (tx : ℕ) (snap : Snap)
    (job_is : old.worker.work.job ≡ Some job)
    (snap_is : seen_in old.worker.work.planner ≡ Some (seen_of snap))
    (has : HasOfCall tx old.core (seen_of snap))
    (is_plan : IsPlanFor snap (plan.Need addr mode))
    (same_job : new.worker.work.job ≡ old.worker.work.job) where
  abbrev left : ℕ
  left = left_in Planning old.worker.work old.core

  held : (bytes : List ℕ) → new.worker.phase ≡ Planning → new.core.log ≡ old.core.log
      → seen_in new.worker.work.planner ≡ with_object addr mode bytes (seen_in old.worker.work.planner)
      → HasGoneOn left new.worker new.core
  held bytes phase log seen = nearer left new.worker new.core Planning phase tt less
    where
      now_seen : Seen
      now_seen = record (seen_of snap) {
        objects = with_read addr bytes snap.objects.items;
        exclusives = with_mode addr mode snap.exclusives.items;
      }

      times : ℕ
      times = times_asked now_seen.objects now_seen.exclusives

      more : count_of (Some (seen_of snap)) < count_of (Some now_seen)
      more = let often = asked_more addr mode bytes snap.objects.items snap.exclusives.items is_plan.0 in omega (arith, often)

      within : count_of (Some now_seen) ≤ most_taken old.core.log.blocks
      within =
          let most = few_times snap.geometry now_seen.objects now_seen.exclusives
          (read_once snap.geometry snap.objects.items addr bytes has.were is_plan.1) in
          let fewer = few_claimed snap.geometry snap.claims.items has.claims in
          let same = has.blocks in
          all_taken times (length snap.claims.items) old.core.log.blocks
          (omega (arith, most, same)) (omega (arith, fewer, same))

      less : left_in Planning new.worker.work new.core < left
      less = less_taken old new snap now_seen snap_is (seen ∙ ap (with_object addr mode bytes) snap_is) log more within

  wanted : (made : Step) → is_deferred (Some made) ≡ false → (answer : Want)
      → made ≡ step.Wanted addr mode (want_answer answer)
      → IsWanted old.core tx addr mode answer new.core → new.worker.phase ≡ phase_wanted addr mode answer old.worker.known
      → new.worker.begun ≡ begun_wanted answer
      → seen_in new.worker.work.planner ≡ seen_wanted [] addr mode answer (seen_in old.worker.work.planner)
      → new.worker.work.entry ≡ old.worker.work.entry → new.worker.work.answer ≡ old.worker.work.answer
      → Came Planning old (Some made) new
  wanted made free (want.Held back bytes) made_is core phase got seen entry answer =
      goes_by Planning old made _ new (held bytes phase (ap (λ (c : CoreState). c.log) core.2.only) seen)
      made_is refl refl
  wanted made free (want.Fetch back io) made_is core phase got seen entry answer =
      reads (record {
        phase = phase;
        tx = tx;
        addr = addr;
        mode = mode;
        io = io;
        io_is = ap (λ (b : Begun). b.io) got;
        fetched = core.2;
        within = core.1.inside.home.1;
        job = same_job;
        seen = seen;
        entry = entry;
        answer = answer;
      }) refl (ap (λ m. is_full (Some m)) made_is) (ap (λ m. waits_for_log (Some m)) made_is)
  wanted made free (want.Busy back) made_is core phase got seen entry answer =
      absurd (true≢false (sym (ap (λ m. is_deferred (Some m)) made_is) ∙ free))
  wanted made free (want.Loading back) made_is core phase got seen entry answer =
      absurd (true≢false (sym (ap (λ m. is_deferred (Some m)) made_is) ∙ free))
  wanted made free (want.Outside back) made_is core phase got seen entry answer =
      goes_by Planning old made _ new (nearer left new.worker new.core _ phase tt (grind (arith)))
      made_is refl refl
  wanted made free (want.NoMemory back error) made_is core phase got seen entry answer =
      goes_by Planning old made _ new (nearer left new.worker new.core _ phase tt (grind (arith)))
      made_is refl refl

-- ---- a lock request to claim

module _ (old new : WorkerAndCore) (block : BlockNo) (addr : Addr) (tx : ℕ) (snap : Snap)
    (snap_is : seen_in old.worker.work.planner ≡ Some (seen_of snap))
    (has : HasOfCall tx old.core (seen_of snap))
    (is_plan : IsPlanFor snap (plan.Claim block)) where
  abbrev left_to_claim : ℕ
  left_to_claim = left_in Planning old.worker.work old.core

  claim_held : new.worker.phase ≡ Planning → new.core.log ≡ old.core.log
      → seen_in new.worker.work.planner ≡ with_claim block (seen_in old.worker.work.planner)
      → HasGoneOn left_to_claim new.worker new.core
  claim_held phase log seen = nearer left_to_claim new.worker new.core Planning phase tt
      (less_taken old new snap now_seen snap_is (seen ∙ ap (with_claim block) snap_is) log more within)
    where
      now_seen : Seen
      now_seen = record (seen_of snap) { claims = snap.claims.items ++ block ∷ [] }

      more : count_of (Some (seen_of snap)) < count_of (Some now_seen)
      more = let longer = length-append snap.claims.items (block ∷ []) in omega (arith, longer)

      within : count_of (Some now_seen) ≤ most_taken old.core.log.blocks
      within =
          let most = few_times snap.geometry snap.objects.items snap.exclusives.items has.were in
          let fewer = few_claimed snap.geometry now_seen.claims
          (one_claimed_once snap.geometry snap.claims.items block has.claims is_plan.1 is_plan.0) in
          let same = has.blocks in
          all_taken (times_asked snap.objects.items snap.exclusives.items) (length now_seen.claims) old.core.log.blocks
          (omega (arith, most, same)) (omega (arith, fewer, same))

  claimed : (made : Step) → is_deferred (Some made) ≡ false → (answer : Claim)
      → made ≡ step.Claimed block (claim_answer answer)
      → IsClaimed old.core tx addr answer new.core → new.worker.phase ≡ phase_claimed block answer old.worker.known
      → seen_in new.worker.work.planner ≡ seen_claimed [] block answer (seen_in old.worker.work.planner)
      → Came Planning old (Some made) new
  claimed made free (claim.Held back) made_is core phase seen =
      goes_by Planning old made _ new (claim_held phase (ap (λ (c : CoreState). c.log) core.2.only) seen)
      made_is refl refl
  claimed made free (claim.Busy back) made_is core phase seen =
      absurd (true≢false (sym (ap (λ m. is_deferred (Some m)) made_is) ∙ free))
  claimed made free (claim.Loading back) made_is core phase seen =
      absurd (true≢false (sym (ap (λ m. is_deferred (Some m)) made_is) ∙ free))
  claimed made free (claim.Outside back) made_is core phase seen =
      goes_by Planning old made _ new (nearer left_to_claim new.worker new.core _ phase tt (grind (arith)))
      made_is refl refl
  claimed made free (claim.NoMemory back error) made_is core phase seen =
      goes_by Planning old made _ new (nearer left_to_claim new.worker new.core _ phase tt (grind (arith)))
      made_is refl refl

-- ---- a commit

module _ (old new : WorkerAndCore) (tx : ℕ) (job : Job) (done : Outcome) (job_is : old.worker.work.job ≡ Some job)
    (little : length (blocks_of done.written) ≤ CHANGED_BLOCKS) where
  abbrev left_then : ℕ
  left_then = left_in Planning old.worker.work old.core

  placed : (base : State) (place : Seq) (stable : Bool) → place.0 ≤ new.core.log.places
      → new.worker ≡ with_entry job done.reply (answered_or_waiting stable job done.reply place base)
      → HasGoneOn left_then new.worker new.core
  placed base place true within is =
      nearer left_then new.worker new.core (Waiting place) (ap (λ (s : State). s.phase) is) within
      (by (new.core.log.broken || nat_le place.0 (settled_place new.core.log)))
    where
      by : (soon : Bool) → (if soon then 1 else 2) < left_then
      by true = grind (arith)
      by false = grind (arith)
  placed base place false within is = inl (record {
    idle = ap (λ (s : State). s.phase) is;
    there = ap (λ (s : State). is_some s.work.answer) is;
  })

  full_so : new.worker.phase ≡ Planning → new.worker.work.job ≡ old.worker.work.job → new.core ≡ old.core
      → has_log_space old.core.log ≡ false → IsFull left_then new
  full_so phase same core none = record {
    phase = phase;
    less = subst (λ (c : CoreState). whole_round c.log.blocks + 1 < left_then) (sym core)
        (subst (λ r. whole_round old.core.log.blocks + 1
        < r + (3 + (untaken old.worker.work old.core.log.blocks * (old.core.log.blocks + 1) + away old.core)))
        (sym (ap (λ b. if b then 0 else whole_round old.core.log.blocks) none))
        (grind (arith)));
  }

  refused_so : (made : Step) (why : Cause) (added : List BlockNo) (answer : Commit Outcome)
      → made ≡ step.Commit added (committing_of answer)
      → is_full (Some (step.Commit added (committing_of answer))) ≡ false
      → waits_for_log (Some (step.Commit added (committing_of answer))) ≡ false
      → new.worker.phase ≡ Refused why → Came Planning old (Some made) new
  refused_so made why added answer made_is unkept none phase =
      goes_by Planning old made (step.Commit added (committing_of answer)) new
      (nearer left_then new.worker new.core (Refused why) phase tt (grind (arith))) made_is unkept none

  committed_so : (made : Step) (base : State) (answer : Commit Outcome) (added : List BlockNo)
      → base.work.job ≡ old.worker.work.job → is_deferred (Some made) ≡ false
      → made ≡ step.Commit added (committing_of answer)
      → IsCommit old.core tx (planned_of done) done answer new.core
      → new.worker ≡ after_commit job done.reply answer base → Came Planning old (Some made) new
  committed_so made base (commit.Committed receipt) added same free made_is core worker =
      goes_by Planning old made _ new
      (placed base receipt.place (is_answered_stable job.call) (grind (arith, core.next, core.places)) worker)
      made_is refl refl
  committed_so made base (commit.Full back change) added same free made_is core worker =
      full (full_so (ap (λ (s : State). s.phase) worker)
      (ap (λ (s : State). s.work.job) worker ∙ same) core.0.core
      (no_log_space old.core tx (planned_of done) core.1 little)) (ap (λ m. is_full (Some m)) made_is)
      (ap (λ m. waits_for_log (Some m)) made_is)
  committed_so made base (commit.Foreign back change) added same free made_is core worker =
      absurd (true≢false (sym (ap (λ m. is_deferred (Some m)) made_is) ∙ free))
  committed_so made base (commit.NoMemory back change error) added same free made_is core worker =
      refused_so made _ added (commit.NoMemory back change error) made_is refl refl
      (ap (λ (s : State). s.phase) worker)
  committed_so made base (commit.Broken back change) added same free made_is core worker =
      refused_so made _ added (commit.Broken back change) made_is refl refl (ap (λ (s : State). s.phase) worker)
  committed_so made base (commit.Spent back change) added same free made_is core worker =
      refused_so made _ added (commit.Spent back change) made_is refl refl (ap (λ (s : State). s.phase) worker)

lacked_so : (old new : WorkerAndCore) (tx : ℕ) (made : Step) → HasLacked tx old made new
    → Came Planning old (Some made) new
lacked_so old new tx made has =
    goes_by Planning old made _ new (answered (left_in Planning old.worker.work old.core) new.worker
    (record (with_snap new.worker old.worker) { begun = none_begun }) new.core (verdict.NoMemory alloc_error) None has.worker)
    has.made_is refl refl

goes : (old new : WorkerAndCore) (tx : ℕ) (made : Step) (next : Plan) → old.worker.begun.tx ≡ Some tx
    → old.worker.known.left ≡ [] → IsNext old.worker next
    → HasTaken old.worker old.core → is_deferred (Some made) ≡ false → GoesByNext next tx old made new
    → Came Planning old (Some made) new
goes old new tx made next tx_is none is taken free goes_so = of_next next is.plan goes_so
  where
    of_next : (next : Plan) → IsPlanFor is.snap next → GoesByNext next tx old made new
        → Came Planning old (Some made) new
    of_next (plan.Need addr mode) planned lock_answer =
        wanted old new addr mode is.job tx is.snap is.job_is is.snap_is
        (has_of old.worker old.core is.job tx (seen_of is.snap) is.job_is tx_is is.snap_is taken) planned
        (ap (λ (s : State). s.work.job) lock_answer.worker) made free lock_answer.answer lock_answer.made_is lock_answer.core
        (ap (λ (s : State). s.phase) lock_answer.worker) (ap (λ (s : State). s.begun) lock_answer.worker)
        (lock_answer.seen ∙ ap (λ (left : List LockRequest). seen_wanted left addr mode lock_answer.answer (seen_in old.worker.work.planner)) none)
        (ap (λ (s : State). s.work.entry) lock_answer.worker) (ap (λ (s : State). s.work.answer) lock_answer.worker)
    of_next (plan.Claim block) planned lock_answer =
        claimed old new block lock_answer.core.0 tx is.snap is.snap_is
        (has_of old.worker old.core is.job tx (seen_of is.snap) is.job_is tx_is is.snap_is taken) planned
        made free lock_answer.answer lock_answer.made_is lock_answer.core.2 (ap (λ (s : State). s.phase) lock_answer.worker)
        (lock_answer.seen ∙ ap (λ (left : List LockRequest). seen_claimed left block lock_answer.answer (seen_in old.worker.work.planner)) none)
    of_next (plan.Done done) planned end = elim (ending old new tx done made end) [
      | lacked has ↦ lacked_so old new tx made has
      | committed job job_is has ↦
          committed_so old new tx job done job_is
          planned.1 made (record (with_snap new.worker old.worker) { begun = none_begun }) has.answer _ refl
          free has.made_is has.core has.worker
    ]
    of_next (plan.NoMemory error) planned lack = lacked_so old new tx made lack

-- ---- any step

waited : (old new : WorkerAndCore) (place : Seq) (made : Step) → place.0 ≤ old.core.log.places → Waits place old made new
    → Came (Waiting place) old (Some made) new
waited old new place made within has =
    by has.settled has.settled_is has.made_is old.core.log.broken refl has.is_reply_sent
  where
    never_full : (settled : Bool) → made ≡ step.Stable place settled → is_full (Some made) ≡ false
    never_full settled is = ap (λ m. is_full (Some m)) is

    at_once_holds : (heard : Verdict) (base : State) → new.worker ≡ with_answer heard (Some place) base
        → HasAnswer new.worker
    at_once_holds heard base is = record {
      idle = ap (λ (s : State). s.phase) is;
      there = ap (λ (s : State). is_some s.work.answer) is;
    }

    reply : (o : Option Reply) (base : State)
        → IsSomeAnd o (λ reply. new.worker ≡ with_answer (verdict.Reply reply) (Some place) base)
        → HasAnswer new.worker
    reply None base has = absurd has
    reply (Some r) base has = at_once_holds (verdict.Reply r) base has

    by : (settled : Bool) → (IsTrue settled ↔ (place.0 ≤ settled_place old.core.log))
        → made ≡ step.Stable place settled
        → (broken : Bool) → old.core.log.broken ≡ broken → IsHeard settled broken place old.worker new.worker
        → Came (Waiting place) old (Some made) new
    by true is made_is broken at has = answered_now (reply old.worker.work.reply
        (record old.worker { work = record old.worker.work { reply = None } }) has) (never_full true made_is)
    by false is made_is true at has = answered_now (reply old.worker.work.broken_reply
        (record old.worker { work = record old.worker.work { broken_reply = None } }) has)
        (never_full false made_is)
    by false is made_is false at same =
        waits place refl (record {
          same = same;
          unsettled = unsettled (nat_le place.0 (settled_place old.core.log)) refl;
          sound = at;
          within = subst (λ (c : CoreState). place.0 ≤ c.log.places) (sym has.core) within;
        }) (never_full false made_is) (ap (λ m. waits_for_log (Some m)) made_is)
      where
        unsettled : (there : Bool) → nat_le place.0 (settled_place old.core.log) ≡ there → there ≡ false
        unsettled false test = refl
        unsettled true test =
            let here : place.0 ≤ settled_place old.core.log = grind (arith, nat_tests) in
            absurd (true≢false (sym (is.1 here)))

refuses : (old new : WorkerAndCore) (why : Cause) (made : Step) → Refuses why old made new
    → Came (Refused why) old (Some made) new
refuses old new why made has = by_job old.worker.work.job old.worker.begun.tx has
  where
    by_job : (found : Option Job) (tx : Option ℕ)
        → IsSomeAnd found (λ job. IsSomeAnd tx (λ tx. HasRefused why job tx old made new))
        → Came (Refused why) old (Some made) new
    by_job None tx has = absurd has
    by_job (Some job) None has = absurd has
    by_job (Some job) (Some tx) has =
        goes_by (Refused why) old made _ new
        (answered (left_in (Refused why) old.worker.work old.core) new.worker
        (record old.worker { begun = none_begun }) new.core (refusal job.call why) None has.worker)
        has.made_is refl refl

again : (old new : WorkerAndCore) (made : Step) → BeginsAgain old made new → Came Again old (Some made) new
again old new made has = by old.worker.begun.tx has
  where
    by : (tx : Option ℕ) → IsSomeAnd tx (λ tx. HasLeft tx old made new) → Came Again old (Some made) new
    by None has = absurd has
    by (Some tx) has =
        goes_by Again old made _ new (nearer (left_in Again old.worker.work old.core) new.worker new.core Called
        (ap (λ (s : State). s.phase) has.worker) tt less) has.made_is refl refl
      where
        log : new.core.log ≡ old.core.log
        log = ap (λ (c : CoreState). c.log) has.core.only

        less : left_in Called new.worker.work new.core < left_in Again old.worker.work old.core
        less = subst (λ (l : Log). rounds_left l + whole_round l.blocks < left_in Again old.worker.work old.core)
            (sym log) (grind (arith))

pub stepped : (phase : Phase) (old new : WorkerAndCore) (made : Option Step) → IsUnder phase old.core
    → HasTakenInPlan phase old.worker old.core → LeavesNothing phase old.worker.known → is_deferred made ≡ false
    → GoesOn phase old made new → Came phase old made new
stepped Idle old new made under plans left free has = absurd under
stepped Reading old new made under plans left free has = absurd under
stepped (Read ok) old new made under plans left free has = absurd under
stepped Called old new (Some made) under plans left free has = called old new made (beginning old new made has)
stepped Planning old new (Some made) under plans left free (inl has) =
    goes old new has.tx made has.next has.tx_is has.none has.next_is plans free has.goes
stepped Planning old new (Some made) under plans left free (inr has) =
    let never : has.next ∷ has.later ≡ [] = sym has.left ∙ left in cc
stepped (Refused why) old new (Some made) under plans left free has = refuses old new why made has
stepped Again old new (Some made) under plans left free has = again old new made has
stepped (Waiting place) old new (Some made) under plans left free has = waited old new place made under has
stepped Called old new None under plans left free has = absurd has
stepped Planning old new None under plans left free has = absurd has
stepped (Refused why) old new None under plans left free has = absurd has
stepped Again old new None under plans left free has = absurd has
stepped (Waiting place) old new None under plans left free has = absurd has

-- ---- a read, given back

given : (old mid new : WorkerAndCore) (is : IsToRead old mid) (read : State) (back : Fetch) (made : Step)
    → back.block ≡ is.io.block → read.work ≡ mid.worker.work → (ok : Bool)
    → HasGivenBack ok back (worker_and_core read mid.core) made new
    → HasGoneOn (left_in Planning old.worker.work old.core) new.worker new.core
given old mid new is read back made same work false has =
    nearer (left_in Planning old.worker.work old.core) new.worker new.core _
    (ap (λ (s : State). s.phase) has.worker) tt (grind (arith))
given old mid new is read back made same work true has =
    nearer left new.worker new.core Planning (ap (λ (s : State). s.phase) has.worker) tt less
  where
    left : ℕ
    left = left_in Planning old.worker.work old.core

    seen : seen_in new.worker.work.planner ≡ seen_in old.worker.work.planner
    seen = ap (λ (s : State). seen_in s.work.planner) has.worker ∙ ap (λ (w : Work). seen_in w.planner) work ∙ is.seen

    log : new.core.log ≡ old.core.log
    log = ap (λ (c : CoreState). c.log) has.only ∙ ap (λ (c : CoreState). c.log) is.fetched.only

    blocks : new.core.log.blocks ≡ old.core.log.blocks
    blocks = ap (λ (l : Log). l.blocks) log

    count : Option Seen → Log → ℕ
    count s l = rounds_left l + (3 + ((most_taken l.blocks - count_of s) * (l.blocks + 1) + away new.core))

    now : left_in Planning new.worker.work new.core ≡ count (seen_in old.worker.work.planner) old.core.log
    now = ap (λ s. count s new.core.log) seen ∙ ap (λ l. count (seen_in old.worker.work.planner) l) log

    less : left_in Planning new.worker.work new.core < left
    less =
        let fewer = fewer_away old.core mid.core new.core is.tx is.addr is.mode is.io back is.fetched same
        has.leaves blocks is.within in
        subst (λ n. n < left) (sym now) (grind (arith))

pub given_on : (old mid new : WorkerAndCore) (is : IsToRead old mid) (read : State) (back : Fetch) (ok : Bool)
    (made : Option Step) → back.block ≡ is.io.block → read.work ≡ mid.worker.work → read.phase ≡ Read ok
    → read.begun.io ≡ Some back → GoesOn read.phase (worker_and_core read mid.core) made new
    → HasGoneOn (left_in Planning old.worker.work old.core) new.worker new.core
given_on old mid new is read back ok made same work phase io later =
    by made (subst (λ p. GoesOn p (worker_and_core read mid.core) made new) phase later)
  where
    by : (made : Option Step) → GoesOn (Read ok) (worker_and_core read mid.core) made new
        → HasGoneOn (left_in Planning old.worker.work old.core) new.worker new.core
    by None has = absurd has
    by (Some made) has = given old mid new is read back made same work ok
        (subst (λ (o : Option Fetch). IsSomeAnd o
        (λ io. HasGivenBack ok io (worker_and_core read mid.core) made new)) io has)

pub read_on : (old mid : WorkerAndCore) (is : IsToRead old mid) (preserves : Type 0) (before after : Device) (step_seen : Step)
    (read : State) (made : Option Step) (new : WorkerAndCore) → HasReadBlock preserves before mid.worker step_seen after read
    → GoesOn read.phase (worker_and_core read mid.core) made new
    → HasGoneOn (left_in Planning old.worker.work old.core) new.worker new.core
read_on old mid is preserves before after heard read made new has later =
    given_on old mid new is read (record { block = has.io.block; content = has.content })
    (is_ok has.answer) made
    (ap (λ (f : Fetch). f.block) same) (ap (λ (s : State). s.work) has.worker)
    (ap (λ (s : State). s.phase) has.worker)
    (ap (λ (s : State). s.begun.io) has.worker) later
  where
    one : (a b : Fetch) → Some a ≡ Some b → a ≡ b
    one a b e = cc

    same : has.io ≡ is.io
    same = one has.io is.io (sym has.io_is ∙ is.io_is)

-- ---- what it waits for

-- a worker that has answered its call has no read due
no_read : (most : ℕ) (state : State) (core : CoreState) → state.phase ≡ Reading → HasGoneOn most state core → ⊥
no_read most state core at (inl heard) = absurd (idle_reading (sym heard.idle ∙ at))
  where
    idle_reading : Idle ≡ Reading → ⊥
    idle_reading e = cc
no_read most state core at (inr on) = subst (λ p. IsUnder p core) at on.under_way

not_both : (b : Bool) → b ≡ true → b ≡ false → ⊥
not_both b so_it_is unkept = true≢false (sym so_it_is ∙ unkept)

-- the log was settled, or is broken
pub settled_or : (core : CoreState) (result : Result Unit Failed) → OnOk result (IsSettled core)
    → OnErr result (core.log.broken ≡ true) → (settled_place core.log ≡ core.log.places)
    ⊎ (core.log.broken ≡ true)
settled_or core (Ok u) settled broken = inl settled.settled
settled_or core (Err e) settled broken = inr broken

-- what the log has after that, where the step waited for it and where not
pub record AfterLog (waited : Bool) (mid core : CoreState) : Type 0 where
  pub blocks : core.log.blocks ≡ mid.log.blocks
  pub places : core.log.places ≡ mid.log.places
  pub out : core.out ≡ mid.out
  pub fetches : PreservesFetches mid core
  pub same : waited ≡ false → core ≡ mid
  pub done : waited ≡ true → (settled_place core.log ≡ core.log.places) ⊎ (core.log.broken ≡ true)

pub after_settling : (waited : Bool) (mid core new : CoreState) (result : Result Unit Failed) → waited ≡ true
    → core ≡ new → SameFrame mid new → SameNumbers mid new → new.out ≡ mid.out → PreservesFetches mid new
    → OnOk result (IsSettled new) → OnErr result (new.log.broken ≡ true) → AfterLog waited mid core
after_settling waited mid core new result was is frame numbers out fetches settled broken =
    subst (λ c. AfterLog waited mid c) (sym is) (record {
      blocks = frame.blocks;
      places = numbers.places;
      out = out;
      fetches = fetches;
      same = λ other. absurd (not_both waited was other);
      done = λ _. settled_or new result settled broken;
    })

pub after_none : (waited : Bool) (mid core : CoreState) → waited ≡ false → core ≡ mid → AfterLog waited mid core
after_none waited mid core was is = subst (λ c. AfterLog waited mid c) (sym is) (record {
  blocks = refl;
  places = refl;
  out = refl;
  fetches = λ block. refl;
  same = λ _. refl;
  done = λ other. absurd (not_both waited other was);
})

module _ (phase : Phase) (old : WorkerAndCore) (made : Option Step) (mid : WorkerAndCore) (at : old.worker.phase ≡ phase)
    (came : Came phase old made mid) where
  abbrev most : ℕ
  most = left_in phase old.worker.work old.core

  pub rests : is_full made ≡ false → waits_for_log made ≡ false → (mid.worker.phase ≡ Reading → ⊥)
      → HasGoneOn most mid.worker mid.core
  rests off log idle = by came
    where
      by : Came phase old made mid → HasGoneOn most mid.worker mid.core
      by (gone on unkept none) = on
      by (answered_now is unkept) = inl is
      by (reads is planning unkept none) = absurd (idle is.phase)
      by (full is so_it_is log_is) = absurd (not_both (is_full made) so_it_is off)
      by (waits place is so unkept so_it_is) = absurd (not_both (waits_for_log made) so_it_is log)

  pub reads_on : is_full made ≡ false → mid.worker.phase ≡ Reading → (core : CoreState)
      → (waits_for_log made ≡ false → core ≡ mid.core) → (preserves : Type 0) (before after : Device) (step : Step)
      (read : State) (last : Option Step) (new : WorkerAndCore) → HasReadBlock preserves before mid.worker step after read
      → GoesOn read.phase (worker_and_core read core) last new → HasGoneOn most new.worker new.core
  reads_on off reading core same preserves before after step read last new has later = by came
    where
      by : Came phase old made mid → HasGoneOn most new.worker new.core
      by (gone on unkept none) = absurd (no_read most mid.worker mid.core reading on)
      by (answered_now is unkept) = absurd (no_read most mid.worker mid.core reading (inl is))
      by (reads is planning unkept none) =
          subst (λ p. HasGoneOn (left_in p old.worker.work old.core) new.worker new.core) (sym planning)
          (read_on old mid is preserves before after step read last new has
          (subst (λ c. GoesOn read.phase (worker_and_core read c) last new) (same none) later))
      by (full is so_it_is log_is) = absurd (not_both (is_full made) so_it_is off)
      by (waits place is so unkept so_it_is) =
          absurd (waiting (sym is ∙ sym at ∙ sym (ap (λ (s : State). s.phase) so.same) ∙ reading))
        where
          waiting : Waiting place ≡ Reading → ⊥
          waiting e = cc

  -- what lies ready is what did, where a read is due
  pub nothing_new : is_full made ≡ false → mid.worker.phase ≡ Reading
      → (mid.worker.work.entry ≡ old.worker.work.entry) × (mid.worker.work.answer ≡ old.worker.work.answer)
  nothing_new off reading = by came
    where
      by : Came phase old made mid
          → (mid.worker.work.entry ≡ old.worker.work.entry) × (mid.worker.work.answer ≡ old.worker.work.answer)
      by (gone on unkept none) = absurd (no_read most mid.worker mid.core reading on)
      by (answered_now is unkept) = absurd (no_read most mid.worker mid.core reading (inl is))
      by (reads is planning unkept none) = (is.entry, is.answer)
      by (full is so_it_is log_is) = absurd (not_both (is_full made) so_it_is off)
      by (waits place is so unkept so_it_is) =
          absurd (waiting (sym is ∙ sym at ∙ sym (ap (λ (s : State). s.phase) so.same) ∙ reading))
        where
          waiting : Waiting place ≡ Reading → ⊥
          waiting e = cc

  pub begins_again : is_full made ≡ true → (state : State) (core : CoreState)
      → (mid.worker.phase ≡ Planning → state ≡ record mid.worker { phase = Again; known = nothing_known })
      → has_log_space core.log ≡ true → core.log.blocks ≡ mid.core.log.blocks → HasGoneOn most state core
  begins_again off state core set has_space blocks = by came
    where
      by : Came phase old made mid → HasGoneOn most state core
      by (gone on unkept none) = absurd (not_both (is_full made) off unkept)
      by (answered_now is unkept) = absurd (not_both (is_full made) off unkept)
      by (reads is planning unkept none) = absurd (not_both (is_full made) off unkept)
      by (waits place is so unkept so_it_is) = absurd (not_both (is_full made) off unkept)
      by (full is so_it_is log_is) =
          nearer most state core Again (ap (λ (s : State). s.phase) (set is.phase)) tt
          (subst (λ n. n < most) (sym now) is.less)
        where
          whole : whole_round core.log.blocks ≡ whole_round mid.core.log.blocks
          whole = ap whole_round blocks

          now : left_in Again state.work core ≡ whole_round mid.core.log.blocks + 1
          now = ap (λ b. (if b then 0 else whole_round core.log.blocks) + (whole_round core.log.blocks + 1)) has_space
              ∙ none_more (whole_round core.log.blocks) (whole_round mid.core.log.blocks) whole
            where
              none_more : (a b : ℕ) → a ≡ b → 0 + (a + 1) ≡ b + 1
              none_more a b same = grind (arith)

  -- it waits for the log and plans, once it was refused for want of room
  pub full_waits : is_full made ≡ true → waits_for_log made ≡ true
  full_waits off = by came
    where
      by : Came phase old made mid → waits_for_log made ≡ true
      by (gone on unkept none) = absurd (not_both (is_full made) off unkept)
      by (answered_now is unkept) = absurd (not_both (is_full made) off unkept)
      by (reads is planning unkept none) = absurd (not_both (is_full made) off unkept)
      by (waits place is so unkept so_it_is) = absurd (not_both (is_full made) off unkept)
      by (full is so_it_is log_is) = log_is

  pub full_plans : is_full made ≡ true → mid.worker.phase ≡ Planning
  full_plans off = by came
    where
      by : Came phase old made mid → mid.worker.phase ≡ Planning
      by (gone on unkept none) = absurd (not_both (is_full made) off unkept)
      by (answered_now is unkept) = absurd (not_both (is_full made) off unkept)
      by (reads is planning unkept none) = absurd (not_both (is_full made) off unkept)
      by (waits place is so unkept so_it_is) = absurd (not_both (is_full made) off unkept)
      by (full is so_it_is log_is) = is.phase

  -- and nothing where it waits for its place
  pub waits_unplanned : is_full made ≡ false → waits_for_log made ≡ true → (worker : State) (core : CoreState)
      → HasTakenInPlan mid.worker.phase worker core
  waits_unplanned off log worker core = by came
    where
      by : Came phase old made mid → HasTakenInPlan mid.worker.phase worker core
      by (gone on unkept none) = absurd (not_both (waits_for_log made) log none)
      by (answered_now is unkept) = subst (λ p. HasTakenInPlan p worker core) (sym is.idle) tt
      by (reads is planning unkept none) = absurd (not_both (waits_for_log made) log none)
      by (full is so_it_is log_is) = absurd (not_both (is_full made) so_it_is off)
      by (waits place is so unkept so_it_is) =
          subst (λ p. HasTakenInPlan p worker core) (sym (ap (λ (s : State). s.phase) so.same ∙ at ∙ is)) tt

  pub settles : is_full made ≡ false → waits_for_log made ≡ true → (core : CoreState)
      → core.log.places ≡ mid.core.log.places
      → (settled_place core.log ≡ core.log.places) ⊎ (core.log.broken ≡ true) → HasGoneOn most mid.worker core
  settles off log core places done = by came
    where
      by : Came phase old made mid → HasGoneOn most mid.worker core
      by (gone on unkept none) = absurd (not_both (waits_for_log made) log none)
      by (answered_now is unkept) = inl is
      by (reads is planning unkept none) = absurd (not_both (waits_for_log made) log none)
      by (full is so_it_is log_is) = absurd (not_both (is_full made) so_it_is off)
      by (waits place is so unkept so_it_is) =
          nearer most mid.worker core (Waiting place) (ap (λ (s : State). s.phase) so.same ∙ at ∙ is)
          (subst (λ n. place.0 ≤ n) (sym places) so.within) less
        where
          one : (core.log.broken || nat_le place.0 (settled_place core.log)) ≡ true
          one = from done
            where
              from : (settled_place core.log ≡ core.log.places) ⊎ (core.log.broken ≡ true)
                  → (core.log.broken || nat_le place.0 (settled_place core.log)) ≡ true
              from (inr broken) = ap (λ b. b || nat_le place.0 (settled_place core.log)) broken
              from (inl settled) = or_true core.log.broken (nat_le place.0 (settled_place core.log))
                  (there place.0 (settled_place core.log) (subst (λ n. place.0 ≤ n)
                  (sym (settled ∙ places)) so.within))
                where
                  there : (a b : ℕ) → a ≤ b → nat_le a b ≡ true
                  there a b le = grind (arith, nat_tests)

                  or_true : (a b : Bool) → b ≡ true → (a || b) ≡ true
                  or_true true b is = refl
                  or_true false b is = is

          two : left_in (Waiting place) old.worker.work old.core ≡ 2
          two = ap (λ b. if b || nat_le place.0 (settled_place old.core.log) then 1 else 2) so.sound
              ∙ ap (λ b. if b then 1 else 2) so.unsettled

          less : left_in (Waiting place) mid.worker.work core < most
          less = subst (λ n. left_in (Waiting place) mid.worker.work core < n)
              (sym (ap (λ p. left_in p old.worker.work old.core) is ∙ two))
              (subst (λ n. n < 2) (sym (ap (λ b. if b then 1 else 2) one)) (grind (arith)))

  pub ends_round : is_full made ≡ false → (mid.worker.phase ≡ Reading → ⊥) → (core : CoreState)
      → AfterLog (waits_for_log made) mid.core core → HasGoneOn most mid.worker core
  ends_round off idle core log = by (waits_for_log made) refl
    where
      by : (waited : Bool) → waits_for_log made ≡ waited → HasGoneOn most mid.worker core
      by true is = settles off is core log.places (log.done is)
      by false is = subst (λ c. HasGoneOn most mid.worker c) (sym (log.same is)) (rests off is idle)

-- a read was made, or none was due
pub was_made : (o : Option Step) (none : Type 0) (some : Step → Type 0) → is_some o ≡ true
    → MatchOption o none some
    → (made : Step) × some made
was_made None none some is has = absurd (true≢false (sym is))
was_made (Some made) none some is has = (made, has)

pub none_made : (o : Option Step) (none : Type 0) (some : Step → Type 0) → is_some o ≡ false
    → MatchOption o none some
    → none
none_made None none some is has = has
none_made (Some made) none some is has = absurd (true≢false is)

left_same : (phase : Phase) (work : Work) (core : CoreState)
    → left_in phase (record work { entry = None; answer = None }) core ≡ left_in phase work core
left_same Idle work core = refl
left_same Called work core = refl
left_same Planning work core = refl
left_same Reading work core = refl
left_same (Read ok) work core = refl
left_same (Refused why) work core = refl
left_same Again work core = refl
left_same (Waiting place) work core = refl

goes_round : (bound : ℕ) (mid new : State) (core : CoreState) (result : Option CallAnswer)
    → HasGoneOn bound mid core
    → result ≡ mid.work.answer → result ≡ None → new ≡ run_reports.reported mid → IsNearer bound new core
goes_round bound mid new core result (inl heard) is none same =
    absurd (true≢false (sym heard.there ∙ ap (λ (o : Option CallAnswer). is_some o) (sym is ∙ none)))
goes_round bound mid new core result (inr on) is none same =
    subst (λ (s : State). IsNearer bound s core) (sym same) (record {
      under_way = on.under_way;
      less = subst (λ n. n < bound) (sym (left_same mid.phase mid.work core)) on.less;
    })

pub still_under_way : (bound : ℕ) (mid new : State) (core : CoreState) (result : Option CallAnswer)
    → HasGoneOn bound mid core → result ≡ mid.work.answer → result ≡ None → new ≡ run_reports.reported mid
    → IsUnderWay new core
still_under_way bound mid new core result on is none same =
    (goes_round bound mid new core result on is none same).under_way

pub less_is_left : (bound : ℕ) (mid new : State) (core : CoreState) (result : Option CallAnswer)
    → HasGoneOn bound mid core → result ≡ mid.work.answer → result ≡ None → new ≡ run_reports.reported mid
    → steps_left new core < bound
less_is_left bound mid new core result on is none same =
    (goes_round bound mid new core result on is none same).less

-- a call that was taken is under way
pub starts : (state old : State) (core : CoreState) (ctx : Ctx) (call : Call) → state ≡ with_call ctx call old
    → IsUnderWay state core
starts state old core ctx call is = subst (λ (s : State). IsUnderWay s core) (sym is) tt
