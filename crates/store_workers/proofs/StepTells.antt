-- What lies ready after a worker's step is what the promise wants, and once it is told the worker stands
-- between the events again.
use Rattle.std.proofs.Common.{arith, ◌≡◌, ◌∙◌, refl, sym, ap, ap₂, subst, true≢false, ℕ, ◌+◌, zero, suc, Bool, alloc_error}
use Rattle.std.proofs.Common.{true, false, not, if◌then◌else◌}
use Rattle.std.proofs.Common.{◌&&◌, Option, Some, None, Ok, Err, IfSome, is_some, List, [], ◌∷◌, ◌++◌, length}
use Rattle.std.proofs.Common.{slice_get}
use Rattle.std.specs.Prelude.{IsSomeAnd, unwrap_or}
use Rattle.std.proofs.lemmas.Option.{none-some}
use Rattle.disk.specs.declared.block.BlockNo.{BlockNo}
use Rattle.objects.specs.declared.addr.Addr.{Addr}
use Rattle.objects.specs.declared.mode.Mode.{Mode}
use Rattle.nfs_spec.specs.Model.Entry.{Entry}
use Rattle.nfs_spec.specs.Model.Calls.{is_answered_stable}
use Rattle.nfs_spec.specs.Model.Refused.{refused}
use Rattle.nfs_types.specs.declared.status.Status.TheVariants as status
use Rattle.nfs_types.specs.declared.reply.Reply.{Reply}
use Rattle.nfs_types.specs.declared.reply.Reply.TheVariants.{Null}
use Rattle.circ.specs.declared.log.outcomes.Seq.{Seq}
use Rattle.procs.specs.Outcome.{Outcome}
use Rattle.procs.specs.declared.next.Plan.TheVariants as plan
use Rattle.txn.specs.Fetch.{Fetch}
use Rattle.txn.specs.Group.{blocks_of}
use Rattle.txn.specs.Outcomes.{IsClaimed, IsCommit, IsWanted}
use Rattle.txn.specs.declared.outcomes.Claim.{Claim}
use Rattle.txn.specs.declared.outcomes.Claim.TheVariants as claim
use Rattle.txn.specs.declared.outcomes.Commit.{Commit}
use Rattle.txn.specs.declared.outcomes.Commit.TheVariants as commit
use Rattle.txn.specs.declared.outcomes.Want.{Want}
use Rattle.txn.specs.declared.outcomes.Want.TheVariants as want
use Rattle.store_promise.specs.LockRequests.{is_barred}
use Rattle.store_promise.specs.declared.lock_requests.LockRequest.{LockRequest}
use Rattle.store_promise.specs.declared.lock_requests.LockRequest.TheVariants as lock_request
use Rattle.store_promise.specs.Progress.{Progress, Stage, is_idle}
use Rattle.store_promise.specs.Progress as run_progress
use Rattle.store_promise.specs.Transcript.{Transcript}
use Rattle.store_promise.specs.Verdicts.{HasVerdict, cause_of, refusal}
use Rattle.store_promise.specs.declared.answers.CallAnswer.{CallAnswer}
use Rattle.store_promise.specs.declared.answers.Entry as ready
use Rattle.store_promise.specs.declared.answers.Verdict.{Verdict}
use Rattle.store_promise.specs.declared.answers.Verdict.TheVariants as verdict
use Rattle.store_promise.specs.declared.events.Cause.{Cause}
use Rattle.store_promise.specs.declared.events.Cause.TheVariants as cause
use Rattle.store_promise.specs.declared.events.Committing.TheVariants as committing
use Rattle.store_promise.specs.declared.events.Ending.TheVariants as ending
use Rattle.store_promise.specs.declared.events.Step.{Step}
use Rattle.store_promise.specs.declared.events.Step.TheVariants as step
use Rattle.store_promise.specs.declared.transcript.Answer.{Answer}
use Rattle.store_workers.proofs.HowFar.{goes_so_far, some_of, without_broken_reply, without_reply}
use Rattle.store_workers.proofs.WorkCases.{Cases, IsRequested, by_cases}
use Rattle.store_workers.specs.Asked.{Asking}
use Rattle.store_workers.specs.Knowing.{Knowing, known_in, without_off}
use Rattle.store_workers.specs.Seen.{seen_in}
use Rattle.store_workers.specs.Stages.{IsJobIn, IsJobOf, IsWorkerAt, RunsIn, StandsAt, at_stage}
use Rattle.store_workers.specs.Stages.{begun_of, entry_at, handed, progress_in, progress_of}
use Rattle.store_workers.specs.RunReports as run_reports
use Rattle.store_workers.specs.WorkTells.{HasReplies, IsAnswerOf, IsEntryOf, TellsAnswer}
use Rattle.store_workers.specs.WorkTells.{TellsEntry, TellsStep}
use Rattle.store_workers.specs.WorkTells.{entries_ready, with_ready}
use Rattle.store_workers.specs.WorkerAnswers.{after_commit, asked_wanted, begun_claimed}
use Rattle.store_workers.specs.WorkerAnswers.{begun_wanted, claim_answer}
use Rattle.store_workers.specs.WorkerAnswers.{committing_of, known_claimed, known_wanted, phase_claimed}
use Rattle.store_workers.specs.WorkerAnswers.{phase_off, phase_wanted, answered_or_waiting}
use Rattle.store_workers.specs.WorkerAnswers.{want_answer, with_answer}
use Rattle.store_workers.specs.WorkerAnswers.{with_entry, with_tx}
use Rattle.store_workers.specs.WorkerSteps.{GoesOn, HasBegun, HasClaimed, HasCommitted, HasGivenBack}
use Rattle.store_workers.specs.WorkerSteps.{HasLacked, HasLeft}
use Rattle.store_workers.specs.WorkerSteps.{HasRefused, HasWanted, IsNext, IsReplySent, WorkerAndCore, Waits}
use Rattle.store_workers.specs.WorkerSteps.{given_step, none_begun}
use Rattle.store_workers.specs.WorkerSteps.{numbered, phase_given, planned_of, with_snap}
use Rattle.store_workers.specs.declared.workers.parts.Job.{Job}
use Rattle.store_workers.specs.declared.workers.parts.Phase.{Phase}
use Rattle.store_workers.specs.declared.workers.parts.Phase.TheVariants.{Idle, Called, Planning}
use Rattle.store_workers.specs.declared.workers.parts.Phase.TheVariants.{Reading, Read}
use Rattle.store_workers.specs.declared.workers.parts.Phase.TheVariants.{Refused, Again, Waiting}
use Rattle.store_workers.specs.declared.workers.parts.State.{State}

-- ---- entries

-- further entries leave the earlier places
earlier : (entries more : List Entry) (index : ℕ) (entry : Entry) → slice_get entries index ≡ Some entry
    → slice_get (entries ++ more) index ≡ Some entry
earlier [] more index entry is = absurd (none-some entry is)
earlier (first ∷ entries) more zero entry is = is
earlier (first ∷ entries) more (suc index) entry is = earlier entries more index entry is

pub stays_at : (entries more : List Entry) (place : ℕ) (entry : Entry) → entry_at entries place ≡ Some entry
    → entry_at (entries ++ more) place ≡ Some entry
stays_at entries more zero entry is = absurd (none-some entry is)
stays_at entries more (suc index) entry is = earlier entries more index entry is

last : (entries : List Entry) (entry : Entry) → slice_get (entries ++ entry ∷ []) (length entries) ≡ Some entry
last [] entry = refl
last (first ∷ entries) entry = last entries entry

-- the next place has the next entry
at_next : (entries : List Entry) (entry : Entry) (place : ℕ) → place ≡ length entries + 1
    → entry_at (entries ++ entry ∷ []) place ≡ Some entry
at_next entries entry place is =
    let next : place ≡ suc (length entries) = grind (arith) in
    ap (entry_at (entries ++ entry ∷ [])) next ∙ last entries entry

-- ---- a call that goes on

and_false : (b : Bool) → (b && false) ≡ false
and_false true = refl
and_false false = refl

-- the worker has its call in this phase
abbrev has_job : Phase → Bool
has_job Idle = false
has_job Called = true
has_job Planning = true
has_job Reading = true
has_job (Read ok) = true
has_job (Refused why) = true
has_job Again = true
has_job (Waiting place) = false

not_idle : (phase : Phase) (job : Job) (found : Option Job) (begun : run_progress.Begun) (asked : Asking)
    (knowing : Knowing) → found ≡ Some job
    → has_job phase ≡ true → is_idle (progress_in phase found begun asked knowing) ≡ false
not_idle Idle job found begun asked knowing is busy = absurd (true≢false (sym busy))
not_idle (Waiting place) job found begun asked knowing is busy = absurd (true≢false (sym busy))
not_idle Called job found begun asked knowing is busy =
    ap (λ j. is_idle (progress_in Called j begun asked knowing)) is
not_idle Planning job found begun asked knowing is busy =
    ap (λ j. is_idle (progress_in Planning j begun asked knowing)) is
not_idle Reading job found begun asked knowing is busy =
    ap (λ j. is_idle (progress_in Reading j begun asked knowing)) is
not_idle (Read ok) job found begun asked knowing is busy =
    ap (λ j. is_idle (progress_in (Read ok) j begun asked knowing)) is
not_idle (Refused why) job found begun asked knowing is busy =
    ap (λ j. is_idle (progress_in (Refused why) j begun asked knowing)) is
not_idle Again job found begun asked knowing is busy =
    ap (λ j. is_idle (progress_in Again j begun asked knowing)) is

-- ---- by cases of the step

at_some : {X : Type 0} (P : X → Type 0) (found : Option X) (x : X) → found ≡ Some x → IsSomeAnd found P → P x
at_some P found x is so = subst (λ o. IsSomeAnd o P) is so

module _ (boot number : ℕ) (entries : List Entry) (old new : WorkerAndCore) (at : IsWorkerAt boot entries old.worker)
    (booted : old.core.boot ≡ boot) (places : old.core.log.places ≡ length entries) where
  abbrev old_begun : run_progress.Begun
  old_begun = begun_of old.worker.begun.tx (seen_in old.worker.work.planner) old.worker.known

  -- how far the worker was, in this phase
  abbrev was : Phase → Progress
  was phase = progress_in phase old.worker.work.job old_begun old.worker.asked old.worker.known

  -- what a step leaves that makes this of the worker
  record Leaves (phase : Phase) (made : Option Step) (state : State) : Type 0 where
    pub entry : TellsEntry boot (length entries) (was phase) made state.work.entry
    pub answer : TellsAnswer (with_ready number entries state) (was phase) (progress_of state) made
        state.work.answer
    pub stands : IsWorkerAt boot (with_ready number entries state) (run_reports.reported state)

  abbrev LeavesIt : Phase → Option Step → Type 0
  LeavesIt phase made =
      old.worker.phase ≡ phase → StandsAt boot entries phase old.worker → Leaves phase made new.worker

  so : (phase : Phase) (made : Option Step) (state : State) → new.worker ≡ state → Leaves phase made state
      → Leaves phase made new.worker
  so phase made state is leaves = subst (λ s. Leaves phase made s) (sym is) leaves

  with_job : (phase : Phase) (job : Job) → old.worker.work.job ≡ Some job
      → was phase ≡ progress_in phase (Some job) old_begun old.worker.asked old.worker.known
  with_job phase job is = ap (λ j. progress_in phase j old_begun old.worker.asked old.worker.known) is

  -- no answer lies ready
  step_without_answer : (phase : Phase) (made : Option Step) (state : State) → state.work.answer ≡ None
      → (not (is_idle (was phase)) && is_idle (progress_of state)) ≡ false
      → TellsAnswer (with_ready number entries state) (was phase) (progress_of state) made state.work.answer
  step_without_answer phase made state none goes = record {
    ends = ap (λ (a : Option CallAnswer). is_some a) none ∙ sym goes;
    is_of = subst (λ a. IfSome a (IsAnswerOf (with_ready number entries state) (was phase) made)) (sym none) tt;
  }

  -- an answer does, and the worker is idle
  module _ (phase : Phase) (made : Step) (base : State) (heard : Verdict) (place : Option Seq) (job : Job)
      (stage : Stage) (stage_is : was phase ≡ run_progress.At (handed job) stage)
      (gives : (t : Transcript) (answer : Answer)
      → HasReplies t (with_ready number entries base) → answer.verdict ≡ heard
      → answer.place ≡ place → HasVerdict t job.call stage made answer) where
    is_answer : IsAnswerOf (with_ready number entries base) (was phase) (Some made)
        (record { verdict = heard; place = place })
    is_answer = record {
      job = handed job;
      stage = stage;
      so_far = stage_is;
      step = made;
      made_is = refl;
      verdict = gives;
    }

    answers : TellsEntry boot (length entries) (was phase) (Some made) base.work.entry
        → Leaves phase (Some made) (with_answer heard place base)
    answers entry = record {
      entry = entry;
      answer = record { ends = sym (ap (λ p. not (is_idle p) && true) stage_is); is_of = is_answer };
      stands = record { entry = refl; answer = refl; stands = tt };
    }

  -- no transaction is begun, or none is needed
  unbegun : (made : Step) (job : Job) (heard : Verdict) → old.worker.work.job ≡ Some job
      → TellsEntry boot (length entries) (was Called) (Some made) old.worker.work.entry
      → ((t : Transcript) (answer : Answer) → (answer.place ≡ None) × (answer.verdict ≡ heard)
      → HasVerdict t job.call (run_progress.Called (known_in old.worker.known)) made answer)
      → new.worker ≡ with_answer heard None old.worker → Leaves Called (Some made) new.worker
  unbegun made job heard job_is entry gives is =
      so Called (Some made) (with_answer heard None old.worker) is
      (answers Called made old.worker heard None job (run_progress.Called (known_in old.worker.known))
      (with_job Called job job_is)
      (λ t answer has v p. gives t answer (p, v)) entry)

  -- its transaction comes back
  runs : (tx back : ℕ) → old.worker.begun.tx ≡ Some tx → back ≡ tx → RunsIn boot old.worker
      → IsSomeAnd old.worker.work.job (IsJobIn boot (Some back))
  runs tx back tx_is back_is stands =
      subst (λ t. IsSomeAnd old.worker.work.job (IsJobIn boot t)) (tx_is ∙ ap Some (sym back_is)) stands

  -- a call that goes on
  goes_on : (phase : Phase) (made : Step) (state : State) (job : Job) → state.work.job ≡ Some job
      → has_job state.phase ≡ true → state.work.answer ≡ None
      → TellsEntry boot (length entries) (was phase) (Some made) state.work.entry
      → StandsAt boot (with_ready number entries state) state.phase (run_reports.reported state)
      → Leaves phase (Some made) state
  goes_on phase made state job job_is busy answer entry stands = record {
    entry = entry;
    answer = step_without_answer phase (Some made) state answer
        (ap (λ b. not (is_idle (was phase)) && b)
        (not_idle state.phase job state.work.job _ state.asked state.known job_is busy)
        ∙ and_false (not (is_idle (was phase))));
    stands = record { entry = refl; answer = refl; stands = stands };
  }

  begins : (job : Job) (begun : ℕ) → old.worker.work.job ≡ Some job → HasBegun job old begun new
      → LeavesIt Called (Some (step.Begun (Ok begun)))
  begins job begun job_is has phase_is stands =
      so Called (Some (step.Begun (Ok begun))) _ has.worker
      (goes_on Called (step.Begun (Ok begun)) _ (numbered old.core.boot begun job) refl refl at.answer at.entry
      (record {
        handed = job_of;
        boot_is = booted;
        transaction = refl;
        counted = has.counted;
      }))
    where
      job_of : IsJobOf job
      job_of = at_some IsJobOf old.worker.work.job job job_is stands

  -- ---- while it plans

  abbrev once_wanted : Addr → Mode → Want → State
  once_wanted addr mode answer = record (with_snap new.worker old.worker) {
    phase = phase_wanted addr mode answer old.worker.known;
    begun = begun_wanted answer;
    asked = asked_wanted addr mode answer old.worker.asked;
    known = known_wanted addr mode answer (with_snap new.worker old.worker).known;
  }

  abbrev once_claimed : BlockNo → Claim → State
  once_claimed block answer = record (with_snap new.worker old.worker) {
    phase = phase_claimed block answer old.worker.known;
    begun = begun_claimed answer;
    known = known_claimed block answer (with_snap new.worker old.worker).known;
  }

  -- who is kept off has its call still
  off_job : (request : LockRequest) → has_job (phase_off request old.worker.known) ≡ true
  off_job request = by (is_barred request old.worker.known.taken)
    where
      by : (above : Bool) → has_job (if above then Again else Planning) ≡ true
      by true = refl
      by false = refl

  off_stands : (request : LockRequest) (state : State) → RunsIn boot state
      → StandsAt boot (with_ready number entries state) (phase_off request old.worker.known) (run_reports.reported state)
  off_stands request state runs = by (is_barred request old.worker.known.taken)
    where
      by : (above : Bool) → StandsAt boot (with_ready number entries state) (if above then Again else Planning)
          (run_reports.reported state)
      by true = runs
      by false = runs

  wants : (tx : ℕ) (addr : Addr) (mode : Mode) (made : Step) → old.worker.begun.tx ≡ Some tx
      → IsRequested old.worker (lock_request.Object addr mode) (plan.Need addr mode)
      → (has : HasWanted tx addr mode old made new)
      → LeavesIt Planning (Some (step.Wanted addr mode (want_answer has.answer)))
  wants tx addr mode made tx_is next has phase_is stands = so Planning _ _ has.worker (by has.answer has.core)
    where
      left : (answer : Want) → has_job (phase_wanted addr mode answer old.worker.known) ≡ true
          → StandsAt boot (with_ready number entries (once_wanted addr mode answer))
          (phase_wanted addr mode answer old.worker.known) (run_reports.reported (once_wanted addr mode answer))
          → Leaves Planning (Some (step.Wanted addr mode (want_answer answer))) (once_wanted addr mode answer)
      left answer busy stands_then =
          goes_on Planning (step.Wanted addr mode (want_answer answer)) (once_wanted addr mode answer)
          next.job next.job_is busy at.answer at.entry stands_then

      by : (answer : Want) → IsWanted old.core tx addr mode answer new.core
          → Leaves Planning (Some (step.Wanted addr mode (want_answer answer))) (once_wanted addr mode answer)
      by (want.Held back bytes) is = left (want.Held back bytes) refl (runs tx back tx_is is.0 stands)
      by (want.Fetch back io) is = left (want.Fetch back io) refl (runs tx back tx_is is.0 stands, is.2.block)
      by (want.Busy back) is = left (want.Busy back) (off_job (lock_request.Object addr mode))
          (off_stands (lock_request.Object addr mode) (once_wanted addr mode (want.Busy back)) (runs tx back tx_is is.0 stands))
      by (want.Loading back) is = left (want.Loading back) (off_job (lock_request.Object addr mode))
          (off_stands (lock_request.Object addr mode) (once_wanted addr mode (want.Loading back)) (runs tx back tx_is is.0 stands))
      by (want.Outside back) is = left (want.Outside back) refl (runs tx back tx_is is.0 stands)
      by (want.NoMemory back error) is = left (want.NoMemory back error) refl (runs tx back tx_is is.0 stands)

  claims : (tx : ℕ) (block : BlockNo) (made : Step) → old.worker.begun.tx ≡ Some tx
      → IsRequested old.worker (lock_request.Claim block) (plan.Claim block) → (has : HasClaimed tx block old made new)
      → LeavesIt Planning (Some (step.Claimed block (claim_answer has.answer)))
  claims tx block made tx_is next has phase_is stands = so Planning _ _ has.worker (by has.answer has.core.2)
    where
      left : (answer : Claim) → has_job (phase_claimed block answer old.worker.known) ≡ true
          → StandsAt boot (with_ready number entries (once_claimed block answer))
          (phase_claimed block answer old.worker.known) (run_reports.reported (once_claimed block answer))
          → Leaves Planning (Some (step.Claimed block (claim_answer answer))) (once_claimed block answer)
      left answer busy stands_then =
          goes_on Planning (step.Claimed block (claim_answer answer)) (once_claimed block answer) next.job
          next.job_is busy at.answer at.entry stands_then

      by : (answer : Claim) → IsClaimed old.core tx has.core.0 answer new.core
          → Leaves Planning (Some (step.Claimed block (claim_answer answer))) (once_claimed block answer)
      by (claim.Held back) is = left (claim.Held back) refl (runs tx back tx_is is.0 stands)
      by (claim.Busy back) is = left (claim.Busy back) (off_job (lock_request.Claim block))
          (off_stands (lock_request.Claim block) (once_claimed block (claim.Busy back)) (runs tx back tx_is is.0 stands))
      by (claim.Loading back) is = left (claim.Loading back) (off_job (lock_request.Claim block))
          (off_stands (lock_request.Claim block) (once_claimed block (claim.Loading back)) (runs tx back tx_is is.0 stands))
      by (claim.Outside back) is = left (claim.Outside back) refl (runs tx back tx_is is.0 stands)
      by (claim.NoMemory back error) is = left (claim.NoMemory back error) refl (runs tx back tx_is is.0 stands)

  lacks : (tx : ℕ) (made : Step) → HasLacked tx old made new
      → LeavesIt Planning (Some (step.Ended (ending.NoMemory alloc_error)))
  lacks tx made has phase_is stands =
      let (job, job_is, rest) = some_of old.worker.work.job stands in
      so Planning _ _ has.worker
      (answers Planning (step.Ended (ending.NoMemory alloc_error))
      (record (with_snap new.worker old.worker) { begun = none_begun })
      (verdict.NoMemory alloc_error) None job (run_progress.Planning old_begun) (with_job Planning job job_is)
      (λ t answer has v p. (p, v)) at.entry)

  module _ (job : Job) (tx : ℕ) (done : Outcome) (added : List BlockNo) (tx_is : old.worker.begun.tx ≡ Some tx)
      (job_is : old.worker.work.job ≡ Some job) (stands : RunsIn boot old.worker) where
    abbrev planned : State
    planned = record (with_snap new.worker old.worker) { begun = none_begun }

    abbrev entry : ready.Entry
    entry = record { ctx = job.ctx; call = job.call; reply = done.reply }

    its : IsJobIn boot old.worker.begun.tx job
    its = at_some (IsJobIn boot old.worker.begun.tx) old.worker.work.job job job_is stands

    is_entry : IsEntryOf boot (was Planning) entry
    is_entry = record {
      job = handed job;
      begun = old_begun;
      planned = with_job Planning job job_is;
      ctx = ap₂ (λ (b t : ℕ). record job.ctx { boot = b; transaction = t }) its.boot_is
          (sym (ap (λ (t : Option ℕ). unwrap_or t 0) its.transaction));
      call = refl;
    }

    module _ (place : Seq) (next : place.0 ≡ length entries + 1) where
      abbrev made_then : Step
      made_then = step.Commit added (committing.Committed place)

      there : entry_at (entries ++ entries_ready number (Some entry)) place.0
          ≡ Some (record { worker = number; ctx = job.ctx; call = job.call; reply = done.reply })
      there = at_next entries _ place.0 next

      placed : (stable : Bool) → is_answered_stable job.call ≡ stable
          → Leaves Planning (Some made_then) (with_entry job done.reply
          (answered_or_waiting stable job done.reply place planned))
      placed true stable = record {
        entry = (next, is_entry);
        answer = step_without_answer Planning (Some made_then)
            (with_entry job done.reply (answered_or_waiting true job done.reply place planned)) at.answer
            (and_false (not (is_idle (was Planning))));
        stands = record {
          entry = refl;
          answer = refl;
          stands = record {
            job = job;
            job_is = refl;
            entry = record { worker = number; ctx = job.ctx; call = job.call; reply = done.reply };
            entry_is = there;
            call = refl;
            stable = stable;
            reply = refl;
            broken_reply = refl;
          };
        };
      }
      placed false stable = record {
        entry = (next, is_entry);
        answer = record {
          ends = sym (ap (λ p. not (is_idle p) && true) (with_job Planning job job_is));
          is_of = record {
            job = handed job;
            stage = run_progress.Planning old_begun;
            so_far = with_job Planning job job_is;
            step = made_then;
            made_is = refl;
            verdict = λ t answer has v p.
                let (c, c_is, reply) = has place.0 _ there in
                record {
                  entry = c;
                  is_entry = c_is;
                  placed = p;
                  is_replied = v ∙ ap (λ (r : Reply). verdict.Reply r) (sym reply);
                };
          };
        };
        stands = record { entry = refl; answer = refl; stands = tt };
      }

    back_in : (back : ℕ) (made : Step) (phase : Phase) → back ≡ tx → has_job phase ≡ true
        → TellsEntry boot (length entries) (was Planning) (Some made) old.worker.work.entry
        → (RunsIn boot (with_tx back phase planned)
        → StandsAt boot (with_ready number entries (with_tx back phase planned)) phase
        (run_reports.reported (with_tx back phase planned)))
        → Leaves Planning (Some made) (with_tx back phase planned)
    back_in back made phase back_is busy entry stands_then =
        goes_on Planning made (with_tx back phase planned) job job_is busy at.answer entry
        (stands_then (runs tx back tx_is back_is stands))

    commits_by : (answer : Commit Outcome) → IsCommit old.core tx (planned_of done) done answer new.core
        → Leaves Planning (Some (step.Commit added (committing_of answer)))
        (after_commit job done.reply answer planned)
    commits_by (commit.Committed receipt) is =
        placed receipt.place (is.next ∙ ap (λ n. n + 1) places) (is_answered_stable job.call) refl
    commits_by (commit.Full back same) is =
        back_in back (step.Commit added committing.Full) Planning is.0.transaction refl at.entry (λ r. r)
    commits_by (commit.Foreign back same) is =
        goes_on Planning (step.Commit added committing.Foreign)
        (record (with_tx back Again planned) { known = without_off planned.known }) job job_is refl
        at.answer at.entry (runs tx back tx_is is.0.transaction stands)
    commits_by (commit.NoMemory back same error) is =
        back_in back (step.Commit added (committing.NoMemory alloc_error)) (Refused (cause.NoMemory alloc_error))
        is.0.transaction refl at.entry
        (λ r. r)
    commits_by (commit.Broken back same) is =
        back_in back (step.Commit added committing.Broken) (Refused cause.Io) is.0.transaction refl
        at.entry (λ r. r)
    commits_by (commit.Spent back same) is =
        back_in back (step.Commit added committing.Spent) (Refused cause.Spent) is.0.transaction refl at.entry
        (λ r. r)

  commits : (job : Job) (tx : ℕ) (done : Outcome) (made : Step) → old.worker.begun.tx ≡ Some tx
      → IsNext old.worker (plan.Done done) → old.worker.work.job ≡ Some job
      → (has : HasCommitted job tx done old made new)
      → LeavesIt Planning (Some (step.Commit (blocks_of done.written)
      (committing_of has.answer)))
  commits job tx done made tx_is next job_is has phase_is stands =
      so Planning _ _ has.worker (commits_by job tx done
      (blocks_of done.written) tx_is
      job_is stands has.answer has.core)

  -- ---- besides

  abbrev once_given : Bool → State
  once_given ok = record old.worker {
    phase = phase_given ok;
    begun = record old.worker.begun { io = None };
  }

  gives : (ok : Bool) (io : Fetch) (made : Step) → HasGivenBack ok io old made new
      → LeavesIt (Read ok) (Some (given_step ok io))
  gives ok io made has phase_is stands =
      let (job, job_is, rest) = some_of old.worker.work.job stands.0 in
      so (Read ok) (Some (given_step ok io)) _ has.worker (by ok job job_is)
    where
      by : (well : Bool) (job : Job) → old.worker.work.job ≡ Some job
          → Leaves (Read ok) (Some (given_step well io)) (once_given well)
      by true job job_is = goes_on (Read ok) (step.Fetched io.block) (once_given true) job job_is refl at.answer at.entry stands.0
      by false job job_is = goes_on (Read ok) (step.FetchFailed io.block) (once_given false) job job_is
          refl at.answer at.entry stands.0

  refuses : (why : Cause) (job : Job) (tx : ℕ) (made : Step) → old.worker.work.job ≡ Some job
      → HasRefused why job tx old made new → LeavesIt (Refused why) (Some (step.Ended ending.Refused))
  refuses why job tx made job_is has phase_is stands =
      so (Refused why) _ _ has.worker
      (answers (Refused why) (step.Ended ending.Refused) (record old.worker { begun = none_begun })
      (refusal job.call why) None job (run_progress.Refused old_begun why)
      (with_job (Refused why) job job_is)
      (λ t answer has v p. (p, v)) at.entry)

  leaves : (tx : ℕ) (made : Step) → HasLeft tx old made new → LeavesIt Again (Some (step.Ended ending.Again))
  leaves tx made has phase_is stands =
      let (job, job_is, is) = some_of old.worker.work.job stands in
      so Again _ _ has.worker (goes_on Again (step.Ended ending.Again)
      (record old.worker { phase = Called; begun = none_begun }) job job_is refl at.answer at.entry
      (subst (λ j. IsSomeAnd j IsJobOf) (sym job_is) is.handed))

  waits : (place : Seq) (made : Step) → (has : Waits place old made new)
      → LeavesIt (Waiting place) (Some (step.Stable place has.settled))
  waits place made has phase_is is_preserved = by has.settled old.core.log.broken has.is_reply_sent
    where
      stage_is : was (Waiting place) ≡ run_progress.At (handed is_preserved.job) (run_progress.Waiting place.0)
      stage_is = ap (λ j. at_stage j (run_progress.Waiting place.0)) is_preserved.job_is

      reply_is_sent : IsSomeAnd old.worker.work.reply (λ reply. new.worker
          ≡ with_answer (verdict.Reply reply) (Some place) (without_reply old.worker))
          → Leaves (Waiting place) (Some (step.Stable place true)) new.worker
      reply_is_sent is = so (Waiting place) _ _ (at_some (λ (reply : Reply). new.worker
          ≡ with_answer (verdict.Reply reply) (Some place) (without_reply old.worker)) old.worker.work.reply
          is_preserved.entry.reply is_preserved.reply is)
          (answers (Waiting place) (step.Stable place true) (without_reply old.worker)
          (verdict.Reply is_preserved.entry.reply) (Some place) is_preserved.job (run_progress.Waiting place.0) stage_is
          (λ t answer has v p.
          let (c, c_is, reply) = has place.0 is_preserved.entry (stays_at entries _ place.0 is_preserved.entry is_preserved.entry_is) in
          record {
            entry = c;
            is_entry = c_is;
            placed = p;
            is_replied = v ∙ ap (λ (r : Reply). verdict.Reply r) (sym reply);
          }) at.entry)

      broken_is_sent : IsSomeAnd old.worker.work.broken_reply (λ reply. new.worker
          ≡ with_answer (verdict.Reply reply) (Some place) (without_broken_reply old.worker))
          → Leaves (Waiting place) (Some (step.Stable place false)) new.worker
      broken_is_sent is = so (Waiting place) _ _ (at_some (λ (reply : Reply). new.worker
          ≡ with_answer (verdict.Reply reply) (Some place) (without_broken_reply old.worker))
          old.worker.work.broken_reply (refused status.Io is_preserved.job.call) is_preserved.broken_reply is)
          (answers (Waiting place) (step.Stable place false) (without_broken_reply old.worker)
          (verdict.Reply (refused status.Io is_preserved.job.call)) (Some place) is_preserved.job
          (run_progress.Waiting place.0) stage_is (λ t answer has v p. (p, v)) at.entry)

      still : new.worker ≡ old.worker → Leaves (Waiting place) (Some (step.Stable place false)) new.worker
      still same = so (Waiting place) _ old.worker same (record {
        entry = at.entry;
        answer = step_without_answer (Waiting place) (Some (step.Stable place false)) old.worker at.answer
            (ap (λ b. not (is_idle (was (Waiting place))) && b)
            (ap (λ p. is_idle (was p)) phase_is ∙ ap is_idle stage_is)
            ∙ and_false (not (is_idle (was (Waiting place)))));
        stands = record {
          entry = refl;
          answer = refl;
          stands = subst (λ p. StandsAt boot (with_ready number entries old.worker) p (run_reports.reported old.worker))
              (sym phase_is) (record {
                job = is_preserved.job;
                job_is = is_preserved.job_is;
                entry = is_preserved.entry;
                entry_is = stays_at entries _ place.0 is_preserved.entry is_preserved.entry_is;
                call = is_preserved.call;
                stable = is_preserved.stable;
                reply = is_preserved.reply;
                broken_reply = is_preserved.broken_reply;
              });
        };
      })

      by : (settled broken : Bool) → IsReplySent settled broken place old.worker new.worker
          → Leaves (Waiting place) (Some (step.Stable place settled)) new.worker
      by true broken is = reply_is_sent is
      by false true is = broken_is_sent is
      by false false same = still same

  -- no step
  rests : (phase : Phase) → new ≡ old → LeavesIt phase None
  rests phase same phase_is stands = so phase None old.worker (ap (λ (s : WorkerAndCore). s.worker) same) (record {
    entry = at.entry;
    answer = step_without_answer phase None old.worker at.answer
        (ap (λ p. not (is_idle (was phase)) && is_idle (was p)) phase_is ∙ both (is_idle (was phase)));
    stands = record {
      entry = refl;
      answer = refl;
      stands = longer old.worker.phase at.stands;
    };
  })
    where
      both : (b : Bool) → (not b && b) ≡ false
      both true = refl
      both false = refl

      longer : (p : Phase) → StandsAt boot entries p old.worker
          → StandsAt boot (with_ready number entries old.worker) p (run_reports.reported old.worker)
      longer Idle is = tt
      longer Called is = is
      longer Planning is = is
      longer Reading is = is
      longer (Read ok) is = is
      longer (Refused why) is = is
      longer Again is = is
      longer (Waiting place) is = record {
        job = is.job;
        job_is = is.job_is;
        entry = is.entry;
        entry_is = stays_at entries _ place.0 is.entry is.entry_is;
        call = is.call;
        stable = is.stable;
        reply = is.reply;
        broken_reply = is.broken_reply;
      }

  cases : Cases old new LeavesIt
  cases = record {
    idle = rests Idle;
    reading = rests Reading;
    begun = λ job begun job_is served has. begins job begun job_is has;
    not_begun = λ job why job_is served cause core is phase_is stands.
        unbegun (step.Begun (Err why)) job (refusal job.call (cause_of why)) job_is at.entry
        (λ t answer of. of) is;
    replied = λ job job_is served core is phase_is stands.
        unbegun step.Replied job (verdict.Reply Null) job_is at.entry (λ t answer of. of) is;
    wanted = wants;
    claimed = claims;
    committed = λ job tx done made tx_is next none. commits job tx done made tx_is next;
    lacked = λ tx made tx_is none has. lacks tx made has;
    given = λ ok io made io_is has. gives ok io made has;
    refused = λ why job tx made job_is tx_is has. refuses why job tx made job_is has;
    left = λ tx made tx_is has. leaves tx made has;
    waited = waits;
  }

  pub step_tells : (made : Option Step) → GoesOn old.worker.phase old made new
      → TellsStep boot number entries old made new
  step_tells made goes =
      let left = by_cases old new LeavesIt cases old.worker.phase made goes refl at.stands in
      record {
        progress = goes_so_far boot entries old new made at goes;
        entry = left.entry;
        answer = left.answer;
        stands = left.stands;
      }
