-- How far a worker is after its steps is what these tell.
use Rattle.std.proofs.Common.{◌≡◌, ◌∙◌, refl, sym, ap, subst, ℕ, ◌⊎◌, inl, inr, Bool, true, false, alloc_error}
use Rattle.std.proofs.Common.{Option, Some, None, Ok, Err, List, [], ◌∷◌, if◌then◌else◌}
use Rattle.std.specs.Prelude.{IsSomeAnd, map}
use Rattle.disk.specs.declared.block.BlockNo.{BlockNo}
use Rattle.objects.specs.declared.addr.Addr.{Addr}
use Rattle.objects.specs.declared.mode.Mode.{Mode}
use Rattle.inode.specs.Snap.{AreSeen}
use Rattle.nfs_spec.specs.Model.Entry.{Entry}
use Rattle.nfs_spec.specs.Model.Calls.{is_answered_stable}
use Rattle.nfs_types.specs.declared.reply.Reply.{Reply}
use Rattle.circ.specs.declared.log.outcomes.Seq.{Seq}
use Rattle.procs.specs.Outcome.{Outcome}
use Rattle.procs.specs.declared.next.Plan.TheVariants as plan
use Rattle.txn.specs.Core.{CoreState}
use Rattle.txn.specs.Fetch.{Fetch}
use Rattle.txn.specs.Group.{blocks_of}
use Rattle.txn.specs.Object.{ObjectBytes}
use Rattle.txn.specs.Outcomes.{IsClaimed, IsCommit, IsWanted}
use Rattle.txn.specs.declared.outcomes.Claim.{Claim}
use Rattle.txn.specs.declared.outcomes.Claim.TheVariants as claim
use Rattle.txn.specs.declared.outcomes.Commit.{Commit}
use Rattle.txn.specs.declared.outcomes.Commit.TheVariants as commit
use Rattle.txn.specs.declared.outcomes.Want.{Want}
use Rattle.txn.specs.declared.outcomes.Want.TheVariants as want
use Rattle.store_promise.specs.LockRequests.{is_barred}
use Rattle.store_promise.specs.declared.lock_requests.LockRequest.{LockRequest}
use Rattle.store_promise.specs.declared.lock_requests.LockRequest.TheVariants as lock_request
use Rattle.store_promise.specs.Progress.{Progress}
use Rattle.store_promise.specs.Progress as run_progress
use Rattle.store_promise.specs.declared.answers.Verdict.TheVariants as verdict
use Rattle.store_promise.specs.declared.events.Committing.TheVariants as committing
use Rattle.store_promise.specs.declared.events.Ending.TheVariants as ending
use Rattle.store_promise.specs.declared.events.Cause.TheVariants as cause
use Rattle.store_promise.specs.declared.events.Step.{Step}
use Rattle.store_promise.specs.declared.events.Step.TheVariants as step
use Rattle.store_workers.proofs.HeldAs.{are_seen, as_object_read, read_set_with_is}
use Rattle.store_workers.proofs.WorkCases.{Cases, IsRequested, by_cases}
use Rattle.store_workers.specs.Asked.{Asking}
use Rattle.store_workers.specs.Knowing.{Knowing, known_in, with_lock_request, with_off, without_off}
use Rattle.store_workers.specs.Seen.{Seen, seen_in, seen_of}
use Rattle.store_workers.specs.Stages.{IsWorkerAt, StandsAt, taken_as}
use Rattle.store_workers.specs.Stages.{at_fetch, at_stage, begun_of, claimed_in, handed, held_in}
use Rattle.store_workers.specs.Stages.{progress_in, progress_of}
use Rattle.store_workers.specs.WorkTells.{progress_after}
use Rattle.store_workers.specs.WorkerAnswers.{after_commit, asked_wanted, begun_claimed}
use Rattle.store_workers.specs.WorkerAnswers.{begun_wanted, claim_answer}
use Rattle.store_workers.specs.WorkerAnswers.{committing_of, known_claimed, known_off, known_wanted}
use Rattle.store_workers.specs.WorkerAnswers.{phase_claimed, phase_off, phase_wanted, seen_claimed, seen_held}
use Rattle.store_workers.specs.WorkerAnswers.{seen_taken, seen_wanted, answered_or_waiting}
use Rattle.store_workers.specs.WorkerAnswers.{want_answer, with_answer, with_entry}
use Rattle.store_workers.specs.WorkerSteps.{GoesOn, HasBegun, HasClaimed, HasCommitted, HasGivenBack}
use Rattle.store_workers.specs.WorkerSteps.{HasLacked, HasLeft}
use Rattle.store_workers.specs.WorkerSteps.{HasWanted, IsNext, IsReplySent, SawNothing, WorkerAndCore, Waits}
use Rattle.store_workers.specs.WorkerSteps.{given_step, none_begun}
use Rattle.store_workers.specs.WorkerSteps.{phase_given, with_snap}
use Rattle.store_workers.specs.declared.workers.parts.Job.{Job}
use Rattle.store_workers.specs.declared.workers.parts.Phase.{Phase}
use Rattle.store_workers.specs.declared.workers.parts.Phase.TheVariants.{Idle, Called, Planning}
use Rattle.store_workers.specs.declared.workers.parts.Phase.TheVariants.{Reading, Read}
use Rattle.store_workers.specs.declared.workers.parts.Phase.TheVariants.{Refused, Again, Waiting}
use Rattle.store_workers.specs.declared.workers.parts.State.{State}

-- how far a worker is, by parts of its state
abbrev progress_as : Phase → Option Job → Option ℕ → Option Seen → Asking → Knowing → Progress
progress_as phase job tx seen asked knowing = progress_in phase job (begun_of tx seen knowing) asked knowing

-- ---- by parts of the state

nothing_read : (core : CoreState) (job : run_progress.Job) (number : ℕ) (known : List LockRequest) (seen : Option Seen)
    → IsSomeAnd seen (SawNothing core)
    → run_progress.At job (run_progress.Planning (record {
      number = number;
      held = held_in seen;
      claimed = claimed_in seen;
      taken = [];
      left = known;
    }))
    ≡ run_progress.At job (run_progress.Planning (run_progress.fresh number known))
nothing_read core job number known None saw = absurd saw
nothing_read core job number known (Some seen) saw =
    ap (λ (objects : List ObjectBytes). run_progress.At job (run_progress.Planning (record {
      number = number;
      held = map (as_object_read seen.exclusives) objects;
      claimed = seen.claims;
      taken = [];
      left = known;
    }))) saw.objects ∙ ap (λ (claims : List BlockNo). run_progress.At job (run_progress.Planning (record {
      number = number;
      held = [];
      claimed = claims;
      taken = [];
      left = known;
    }))) saw.claims

module _ (broken : Bool) (job : Job) (tx : ℕ) (seen : Seen) (asked : Asking) (knowing : Knowing) (has_space : Bool)
  where
    abbrev its : run_progress.Begun
    its = begun_of (Some tx) (Some seen) knowing

    -- what it knows, whatever room there is
    abbrev knows : Knowing
    knows = record knowing { has_space = has_space }

    held_by : (addr : Addr) (mode : Mode) (bytes : List ℕ) (left : List LockRequest) → AreSeen seen.exclusives seen.objects
        → begun_of (Some tx) (seen_held left addr mode bytes (Some seen)) (with_lock_request (lock_request.Object addr mode) knows)
        ≡ run_progress.object_read_by left (run_progress.with_taken its (lock_request.Object addr mode)) (taken_as mode addr)
    held_by addr mode bytes [] are =
        ap (λ (held : List run_progress.Taken). record (run_progress.with_taken its (lock_request.Object addr mode)) { held = held })
        (read_set_with_is addr mode bytes seen.exclusives seen.objects are)
    held_by addr mode bytes (next ∷ later) are = refl

    claimed_by : (block : BlockNo) (left : List LockRequest)
        → begun_of (Some tx) (seen_taken left block (Some seen)) (with_lock_request (lock_request.Claim block) knows)
        ≡ run_progress.claimed_by left (run_progress.with_taken its (lock_request.Claim block)) block
    claimed_by block [] = refl
    claimed_by block (next ∷ later) = refl

    -- who is kept off waits, or begins again
    off : (request : LockRequest) → progress_as (phase_off request knowing) (Some job) (Some tx) (Some seen) asked
        (known_off request knows)
        ≡ run_progress.At (handed job) (run_progress.deferred its request)
    off request = by (is_barred request knowing.taken)
      where
        by : (above : Bool) → progress_as (if above then Again else Planning) (Some job) (Some tx) (Some seen) asked
            (if above then with_off request knows else knows)
            ≡ run_progress.At (handed job) (if above then run_progress.Again its (Some request) else run_progress.Planning its)
        by true = refl
        by false = refl

    back_is : (back : ℕ) → back ≡ tx → (phase : Phase) (read : Option Seen) (request : Asking) (then' : Knowing)
        → progress_as phase (Some job) (Some back) read request then' ≡ progress_as phase (Some job)
        (Some tx) read request then'
    back_is back is phase read request then' =
        ap (λ b. progress_as phase (Some job) (Some b) read request then') is

    pub wanted_progresses : (old new : CoreState) (addr : Addr) (mode : Mode) (answer : Want)
        → AreSeen seen.exclusives seen.objects → IsWanted old tx addr mode answer new
        → progress_as (phase_wanted addr mode answer knowing) (Some job) (begun_wanted answer).tx
        (seen_wanted knowing.left addr mode answer (Some seen))
        (asked_wanted addr mode answer asked) (known_wanted addr mode answer knows)
        ≡ progress_after broken (Some (step.Wanted addr mode (want_answer answer)))
        (progress_as Planning (Some job) (Some tx) (Some seen) asked knowing)
    wanted_progresses old new addr mode (want.Held back bytes) are is =
        back_is back is.0 Planning (seen_held knowing.left addr mode bytes (Some seen)) asked
        (with_lock_request (lock_request.Object addr mode) knows)
        ∙ ap (λ begun. run_progress.At (handed job) (run_progress.Planning begun)) (held_by addr mode bytes knowing.left are)
    wanted_progresses old new addr mode (want.Fetch back io) are is =
        back_is back is.0 Reading (Some seen) (record asked { fetch_addr = Some addr; mode = mode }) (with_lock_request (lock_request.Object addr mode) knows)
    wanted_progresses old new addr mode (want.Busy back) are is =
        back_is back is.0 (phase_off (lock_request.Object addr mode) knowing) (Some seen) asked (known_off (lock_request.Object addr mode) knows)
        ∙ off (lock_request.Object addr mode)
    wanted_progresses old new addr mode (want.Loading back) are is =
        back_is back is.0 (phase_off (lock_request.Object addr mode) knowing) (Some seen) asked (known_off (lock_request.Object addr mode) knows)
        ∙ off (lock_request.Object addr mode)
    wanted_progresses old new addr mode (want.Outside back) are is =
        back_is back is.0 (Refused cause.Io) (Some seen) asked knows
    wanted_progresses old new addr mode (want.NoMemory back error) are is =
        back_is back is.0 (Refused (cause.NoMemory alloc_error)) (Some seen) asked knows

    pub claimed_progresses : (old new : CoreState) (block : BlockNo) (addr : Addr) (answer : Claim)
        → IsClaimed old tx addr answer new
        → progress_as (phase_claimed block answer knowing) (Some job) (begun_claimed answer).tx
        (seen_claimed knowing.left block answer (Some seen)) asked (known_claimed block answer knows)
        ≡ progress_after broken (Some (step.Claimed block (claim_answer answer)))
        (progress_as Planning (Some job) (Some tx) (Some seen) asked knowing)
    claimed_progresses old new block addr (claim.Held back) is =
        back_is back is.0 Planning (seen_taken knowing.left block (Some seen)) asked
        (with_lock_request (lock_request.Claim block) knows)
        ∙ ap (λ begun. run_progress.At (handed job) (run_progress.Planning begun)) (claimed_by block knowing.left)
    claimed_progresses old new block addr (claim.Busy back) is =
        back_is back is.0 (phase_off (lock_request.Claim block) knowing) (Some seen) asked (known_off (lock_request.Claim block) knows)
        ∙ off (lock_request.Claim block)
    claimed_progresses old new block addr (claim.Loading back) is =
        back_is back is.0 (phase_off (lock_request.Claim block) knowing) (Some seen) asked (known_off (lock_request.Claim block) knows)
        ∙ off (lock_request.Claim block)
    claimed_progresses old new block addr (claim.Outside back) is =
        back_is back is.0 (Refused cause.Io) (Some seen) asked knows
    claimed_progresses old new block addr (claim.NoMemory back error) is =
        back_is back is.0 (Refused (cause.NoMemory alloc_error)) (Some seen) asked knows

    with_it : (base : State) (phase : Phase) (back : ℕ) (then' : Knowing) → base.work.job ≡ Some job
        → seen_in base.work.planner ≡ Some seen → base.asked ≡ asked → back ≡ tx
        → progress_as phase base.work.job (Some back) (seen_in base.work.planner) base.asked then'
        ≡ progress_as phase (Some job) (Some tx) (Some seen) asked then'
    with_it base phase back then' job_is seen_is asked_is is =
        ap (λ j. progress_as phase j (Some back) (seen_in base.work.planner) base.asked then') job_is
        ∙ ap (λ s. progress_as phase (Some job) (Some back) s base.asked then') seen_is
        ∙ ap (λ a. progress_as phase (Some job) (Some back) (Some seen) a then') asked_is
        ∙ back_is back is phase (Some seen) asked then'

    pub commit_progresses : (old new : CoreState) (done : Outcome) (added : List BlockNo) (planned : _) (answer : Commit Outcome)
        (base : State) → base.work.job ≡ Some job → seen_in base.work.planner ≡ Some seen → base.asked ≡ asked
        → base.known ≡ knows → IsCommit old tx planned done answer new
        → progress_of (after_commit job done.reply answer base)
        ≡ progress_after broken (Some (step.Commit added (committing_of answer)))
        (progress_as Planning (Some job) (Some tx) (Some seen) asked knowing)
    commit_progresses old new done added planned (commit.Committed receipt) base job_is seen_is asked_is known_is is =
        by (is_answered_stable job.call)
      where
        by : (stable : Bool) → progress_of (with_entry job done.reply (answered_or_waiting stable job done.reply receipt.place base))
            ≡ run_progress.going_on (handed job) (run_progress.after_commit stable its (committing.Committed receipt.place))
        by true = refl
        by false = refl
    commit_progresses old new done added planned (commit.Full back same) base job_is seen_is asked_is known_is is =
        with_it base Planning back base.known job_is seen_is asked_is is.0.transaction
        ∙ ap (λ k. progress_as Planning (Some job) (Some tx) (Some seen) asked k) known_is
    commit_progresses old new done added planned (commit.Foreign back same) base job_is seen_is asked_is known_is is =
        with_it base Again back (without_off base.known) job_is seen_is asked_is is.0.transaction
        ∙ ap (λ k. progress_as Again (Some job) (Some tx) (Some seen) asked (without_off k)) known_is
    commit_progresses old new done added planned (commit.NoMemory back same error) base job_is seen_is asked_is known_is is =
        with_it base (Refused (cause.NoMemory alloc_error)) back base.known job_is seen_is asked_is is.0.transaction
        ∙ ap (λ k. progress_as (Refused (cause.NoMemory alloc_error)) (Some job) (Some tx) (Some seen) asked k) known_is
    commit_progresses old new done added planned (commit.Broken back same) base job_is seen_is asked_is known_is is =
        with_it base (Refused cause.Io) back base.known job_is seen_is asked_is is.0.transaction
        ∙ ap (λ k. progress_as (Refused cause.Io) (Some job) (Some tx) (Some seen) asked k) known_is
    commit_progresses old new done added planned (commit.Spent back same) base job_is seen_is asked_is known_is is =
        with_it base (Refused cause.Spent) back base.known job_is seen_is asked_is is.0.transaction
        ∙ ap (λ k. progress_as (Refused cause.Spent) (Some job) (Some tx) (Some seen) asked k) known_is

-- the block that was fetched was taken before, well or not
module _ (broken : Bool) (io : Fetch) (job : Job) (tx : Option ℕ) (seen : Option Seen) (asked : Asking)
    (knowing : Knowing) where
  abbrev after_fetch : Bool → Option Addr → Progress
  after_fetch ok fetch_addr = progress_after broken (Some (given_step ok io)) (at_stage (Some job)
      (at_fetch (λ taken. run_progress.Read (begun_of tx seen knowing) taken ok) (begun_of tx seen knowing) asked.mode fetch_addr))

  given_by : (ok : Bool) (addr : Addr)
      → progress_as (phase_given ok) (Some job) tx seen asked knowing ≡ after_fetch ok (Some addr)
  given_by true addr = refl
  given_by false addr = refl

  pub given_progresses : (ok : Bool) (addr : Addr) → asked.fetch_addr ≡ Some addr
      → progress_as (phase_given ok) (Some job) tx seen asked knowing
      ≡ progress_after broken (Some (given_step ok io)) (progress_as (Read ok) (Some job) tx seen asked knowing)
  given_progresses ok addr is = given_by ok addr ∙ sym (ap (after_fetch ok) is)

-- ---- by cases of the step

abbrev pub without_reply : State → State
without_reply state = record state { work = record state.work { reply = None } }

abbrev pub without_broken_reply : State → State
without_broken_reply state = record state { work = record state.work { broken_reply = None } }

pub some_of : {X : Type 0} {P : X → Type 0} (found : Option X) → IsSomeAnd found P → (x : X)
    × (found ≡ Some x) × P x
some_of None is = absurd is
some_of (Some x) is = (x, refl, is)

module _ (boot : ℕ) (entries : List Entry) (old new : WorkerAndCore) where
  -- how far the worker was, in this phase and with this call
  abbrev was_with : Phase → Option Job → Progress
  was_with phase job =
      progress_as phase job old.worker.begun.tx (seen_in old.worker.work.planner) old.worker.asked old.worker.known

  abbrev was : Phase → Progress
  was phase = was_with phase old.worker.work.job

  abbrev HasProgressed : Phase → Option Step → Type 0
  HasProgressed phase made = old.worker.phase ≡ phase → StandsAt boot entries phase old.worker
      → progress_of new.worker ≡ progress_after old.core.log.broken made (was phase)

  -- what it knows then, before it is told the answer to its lock request
  abbrev knows_then : Knowing
  knows_then = record old.worker.known { has_space = new.worker.known.has_space }

  stays : (phase : Phase) → new ≡ old → HasProgressed phase None
  stays phase same phase_is stands =
      ap (λ (s : WorkerAndCore). progress_of s.worker) same ∙ ap was phase_is

  -- what a worker that had this call was
  with_call : (phase : Phase) (job : Job) (made : Step) → old.worker.work.job ≡ Some job
      → progress_after old.core.log.broken (Some made) (was phase)
      ≡ progress_after old.core.log.broken (Some made) (was_with phase (Some job))
  with_call phase job made is = ap (λ j. progress_after old.core.log.broken (Some made) (was_with phase j)) is

  begins : (job : Job) (number : ℕ) → old.worker.work.job ≡ Some job → HasBegun job old number new
      → HasProgressed Called (Some (step.Begun (Ok number)))
  begins job number job_is has phase_is stands =
      ap progress_of has.worker
      ∙ nothing_read old.core (handed job) number (known_in old.worker.known) (seen_in new.worker.work.planner) has.seen
      ∙ sym (with_call Called job (step.Begun (Ok number)) job_is)

  answers : (phase : Phase) (job : Job) (made : Step) → old.worker.work.job ≡ Some job
      → progress_of new.worker ≡ run_progress.Idle
      → run_progress.Idle ≡ progress_after old.core.log.broken (Some made) (was_with phase (Some job))
      → progress_of new.worker ≡ progress_after old.core.log.broken (Some made) (was phase)
  answers phase job made job_is idle ends =
      idle ∙ ends ∙ sym (with_call phase job made job_is)

  -- what it was while it planned
  planned : (made : Step) (job : Job) (tx : ℕ) (seen : Seen) → old.worker.work.job ≡ Some job
      → old.worker.begun.tx ≡ Some tx → seen_in old.worker.work.planner ≡ Some seen
      → progress_after old.core.log.broken (Some made) (was Planning)
      ≡ progress_after old.core.log.broken (Some made)
      (progress_as Planning (Some job) (Some tx) (Some seen) old.worker.asked old.worker.known)
  planned made job tx seen job_is tx_is seen_is =
      with_call Planning job made job_is
      ∙ ap (λ t. progress_after old.core.log.broken (Some made)
      (progress_as Planning (Some job) t (seen_in old.worker.work.planner) old.worker.asked old.worker.known)) tx_is
      ∙ ap (λ s. progress_after old.core.log.broken (Some made)
      (progress_as Planning (Some job) (Some tx) s old.worker.asked old.worker.known)) seen_is

  wants : (tx : ℕ) (addr : Addr) (mode : Mode) (made : Step) → old.worker.begun.tx ≡ Some tx
      → IsRequested old.worker (lock_request.Object addr mode) (plan.Need addr mode)
      → (has : HasWanted tx addr mode old made new)
      → HasProgressed Planning (Some (step.Wanted addr mode (want_answer has.answer)))
  wants tx addr mode made tx_is next has phase_is stands =
      ap progress_of has.worker
      ∙ ap (λ s. progress_as (phase_wanted addr mode has.answer old.worker.known) old.worker.work.job
      (begun_wanted has.answer).tx s (asked_wanted addr mode has.answer old.worker.asked)
      (known_wanted addr mode has.answer knows_then))
      (has.seen ∙ ap (seen_wanted old.worker.known.left addr mode has.answer) next.snap_is)
      ∙ ap (λ j. progress_as (phase_wanted addr mode has.answer old.worker.known) j (begun_wanted has.answer).tx
      (seen_wanted old.worker.known.left addr mode has.answer (Some (seen_of next.snap)))
      (asked_wanted addr mode has.answer old.worker.asked) (known_wanted addr mode has.answer knows_then)) next.job_is
      ∙ wanted_progresses old.core.log.broken next.job tx _ old.worker.asked old.worker.known new.worker.known.has_space
      old.core new.core addr mode has.answer
      (are_seen old.worker.work.planner (seen_of next.snap) next.snap_is) has.core
      ∙ sym (planned (step.Wanted addr mode (want_answer has.answer)) next.job tx _ next.job_is tx_is
      next.snap_is)

  claims : (tx : ℕ) (block : BlockNo) (made : Step) → old.worker.begun.tx ≡ Some tx
      → IsRequested old.worker (lock_request.Claim block) (plan.Claim block) → (has : HasClaimed tx block old made new)
      → HasProgressed Planning (Some (step.Claimed block (claim_answer has.answer)))
  claims tx block made tx_is next has phase_is stands =
      ap progress_of has.worker
      ∙ ap (λ s. progress_as (phase_claimed block has.answer old.worker.known) old.worker.work.job
      (begun_claimed has.answer).tx s old.worker.asked (known_claimed block has.answer knows_then))
      (has.seen ∙ ap (seen_claimed old.worker.known.left block has.answer) next.snap_is)
      ∙ ap (λ j. progress_as (phase_claimed block has.answer old.worker.known) j (begun_claimed has.answer).tx
      (seen_claimed old.worker.known.left block has.answer (Some (seen_of next.snap))) old.worker.asked
      (known_claimed block has.answer knows_then)) next.job_is
      ∙ claimed_progresses old.core.log.broken next.job tx _ old.worker.asked old.worker.known new.worker.known.has_space
      old.core new.core block has.core.0 has.answer has.core.2
      ∙ sym (planned (step.Claimed block (claim_answer has.answer)) next.job tx _ next.job_is tx_is next.snap_is)

  commits : (job : Job) (tx : ℕ) (done : Outcome) (made : Step) → old.worker.begun.tx ≡ Some tx
      → IsNext old.worker (plan.Done done) → old.worker.work.job ≡ Some job
      → (has : HasCommitted job tx done old made new)
      → HasProgressed Planning (Some (step.Commit (blocks_of done.written)
      (committing_of has.answer)))
  commits job tx done made tx_is next job_is has phase_is stands =
      ap progress_of has.worker
      ∙ commit_progresses old.core.log.broken job tx _ old.worker.asked old.worker.known new.worker.known.has_space
      old.core new.core done (blocks_of done.written) _ has.answer
      (record (with_snap new.worker old.worker) { begun = none_begun }) job_is
      (has.seen ∙ next.snap_is) refl refl has.core
      ∙ sym (planned (step.Commit (blocks_of done.written)
      (committing_of has.answer))
      job tx _ job_is tx_is next.snap_is)

  lacks : (tx : ℕ) (made : Step) → HasLacked tx old made new
      → HasProgressed Planning (Some (step.Ended (ending.NoMemory alloc_error)))
  lacks tx made has phase_is stands =
      let (job, job_is, rest) = some_of old.worker.work.job stands in
      answers Planning job (step.Ended (ending.NoMemory alloc_error)) job_is (ap progress_of has.worker) refl

  gives : (ok : Bool) (io : Fetch) (made : Step) → HasGivenBack ok io old made new
      → HasProgressed (Read ok) (Some (given_step ok io))
  gives ok io made has phase_is stands =
      let (job, job_is, rest) = some_of old.worker.work.job stands.0 in
      let (addr, fetch_addr_is, same) = some_of old.worker.asked.fetch_addr stands.1 in
      ap progress_of has.worker
      ∙ ap (λ j. progress_as (phase_given ok) j old.worker.begun.tx (seen_in old.worker.work.planner)
      old.worker.asked old.worker.known) job_is
      ∙ given_progresses old.core.log.broken io job old.worker.begun.tx (seen_in old.worker.work.planner)
      old.worker.asked old.worker.known ok addr fetch_addr_is
      ∙ sym (with_call (Read ok) job (given_step ok io) job_is)

  leaves : (tx : ℕ) (made : Step) → HasLeft tx old made new → HasProgressed Again (Some (step.Ended ending.Again))
  leaves tx made has phase_is stands =
      let (job, job_is, rest) = some_of old.worker.work.job stands in
      ap progress_of has.worker ∙ ap (λ j. at_stage j (run_progress.Called (known_in old.worker.known))) job_is
      ∙ sym (with_call Again job (step.Ended ending.Again) job_is)

  waits : (place : Seq) (made : Step) → (has : Waits place old made new)
      → HasProgressed (Waiting place) (Some (step.Stable place has.settled))
  waits place made has phase_is stands =
      by has.settled old.core.log.broken has.is_reply_sent
      ∙ sym (ap (λ j. progress_after old.core.log.broken (Some (step.Stable place has.settled))
      (at_stage j (run_progress.Waiting place.0))) stands.job_is)
    where
      waited : Bool → Bool → Progress
      waited settled broken = progress_after broken (Some (step.Stable place settled))
          (at_stage (Some stands.job) (run_progress.Waiting place.0))

      idle : (base : State) (found : Option Reply) → IsSomeAnd found (λ reply. new.worker
          ≡ with_answer (verdict.Reply reply) (Some place) base) → progress_of new.worker ≡ run_progress.Idle
      idle base None has = absurd has
      idle base (Some reply) is = ap progress_of is

      by : (settled broken : Bool) → IsReplySent settled broken place old.worker new.worker
          → progress_of new.worker ≡ waited settled broken
      by true broken is = idle (without_reply old.worker) old.worker.work.reply is
      by false true is = idle (without_broken_reply old.worker) old.worker.work.broken_reply is
      by false false same =
          ap progress_of same ∙ ap was phase_is ∙ ap (λ j. at_stage j (run_progress.Waiting place.0)) stands.job_is

  cases : Cases old new HasProgressed
  cases = record {
    idle = stays Idle;
    reading = stays Reading;
    begun = λ job number job_is served has. begins job number job_is has;
    not_begun = λ job why job_is served cause core is phase_is stands.
        answers Called job (step.Begun (Err why)) job_is (ap progress_of is) refl;
    replied = λ job job_is served core is phase_is stands.
        answers Called job step.Replied job_is (ap progress_of is) refl;
    wanted = wants;
    claimed = claims;
    committed = λ job tx done made tx_is next none. commits job tx done made tx_is next;
    lacked = λ tx made tx_is none has. lacks tx made has;
    given = λ ok io made io_is has. gives ok io made has;
    refused = λ why job tx made job_is tx_is has phase_is stands.
        answers (Refused why) job (step.Ended ending.Refused) job_is (ap progress_of has.worker) refl;
    left = λ tx made tx_is has. leaves tx made has;
    waited = waits;
  }

  pub goes_so_far : (made : Option Step) → IsWorkerAt boot entries old.worker
      → GoesOn old.worker.phase old made new
      → progress_of new.worker ≡ progress_after old.core.log.broken made (progress_of old.worker)
  goes_so_far made at goes = by_cases old new HasProgressed cases old.worker.phase made goes refl at.stands
