-- A worker's step, by cases.
use Rattle.std.proofs.Common.{◌≡◌, refl, sym, ap, subst, ℕ, ◌⊎◌, inl, inr, Bool, true, false, ◌&&◌, alloc_error}
use Rattle.std.proofs.Common.{Option, Some, None, Ok, Err, List, [], ◌∷◌, is_some, true≢false}
use Rattle.std.specs.Prelude.{IsSomeAnd}
use Rattle.disk.specs.declared.block.BlockNo.{BlockNo}
use Rattle.objects.specs.declared.addr.Addr.{Addr}
use Rattle.objects.specs.declared.mode.Mode.{Mode}
use Rattle.nfs_types.specs.declared.reply.Reply.TheVariants.{Null}
use Rattle.nfs_spec.specs.Model.Calls.{begins_transaction}
use Rattle.circ.specs.declared.log.outcomes.Seq.{Seq}
use Rattle.procs.specs.Outcome.{Outcome}
use Rattle.procs.specs.declared.next.Plan.{Plan}
use Rattle.procs.specs.declared.next.Plan.TheVariants as plan
use Rattle.inode.specs.declared.snap.Snap.{Snap}
use Rattle.procs.specs.declared.planner.Planner.{Planner}
use Rattle.txn.specs.Fetch.{Fetch}
use Rattle.txn.specs.Group.{blocks_of}
use Rattle.txn.specs.declared.outcomes.BeginFault.{BeginFault}
use Rattle.store_promise.specs.declared.lock_requests.LockRequest.{LockRequest}
use Rattle.store_promise.specs.declared.lock_requests.LockRequest.TheVariants as lock_request
use Rattle.store_promise.specs.Verdicts.{cause_of, refusal}
use Rattle.store_promise.specs.declared.answers.Verdict.TheVariants as verdict
use Rattle.store_promise.specs.declared.events.Cause.{Cause}
use Rattle.store_promise.specs.declared.events.Ending.TheVariants as ending
use Rattle.store_promise.specs.declared.events.Step.{Step}
use Rattle.store_promise.specs.declared.events.Step.TheVariants as step
use Rattle.store_workers.specs.Phases.{is_planned, is_served}
use Rattle.store_workers.specs.Seen.{seen_in, seen_of}
use Rattle.store_workers.specs.WorkerAnswers.{claim_answer, committing_of, want_answer, with_answer}
use Rattle.store_workers.specs.WorkerSteps.{BeginsBy, EndsBy, GoesByLockRequest, GoesByNext, GoesOn, HasBegun, HasClaimed}
use Rattle.store_workers.specs.WorkerSteps.{HasCommitted, HasGivenBack, HasLacked, HasLeft}
use Rattle.store_workers.specs.WorkerSteps.{HasRefused, HasWanted}
use Rattle.store_workers.specs.WorkerSteps.{IsNext, WorkerAndCore, Waits, given_step}
use Rattle.txn.specs.Outcomes.{IsNoBeginning, unbegun}
use Rattle.store_workers.specs.declared.workers.parts.Job.{Job}
use Rattle.store_workers.specs.declared.workers.parts.State.{State}
use Rattle.store_workers.specs.declared.workers.parts.Phase.{Phase}
use Rattle.store_workers.specs.declared.workers.parts.Phase.TheVariants.{Idle, Called, Planning}
use Rattle.store_workers.specs.declared.workers.parts.Phase.TheVariants.{Reading, Read}
use Rattle.store_workers.specs.declared.workers.parts.Phase.TheVariants.{Refused, Again, Waiting}

-- What is asked for next: by the plan, where nothing is left to be taken again, or the first of what is.
pub record IsRequested (worker : State) (one : LockRequest) (next : Plan) : Type 0 where
  pub job : Job
  pub job_is : worker.work.job ≡ Some job
  pub snap : Snap
  pub snap_is : seen_in worker.work.planner ≡ Some (seen_of snap)
  pub why : ((worker.known.left ≡ []) × IsNext worker next)
      ⊎ ((later : List LockRequest) × (worker.known.left ≡ one ∷ later))

-- what is to be shown of each step, where the phase is the one before it
pub record Cases (old new : WorkerAndCore) (P : Phase → Option Step → Type 0) : Type 0 where
  pub idle : new ≡ old → P Idle None
  pub reading : new ≡ old → P Reading None
  pub begun : (job : Job) (number : ℕ) → old.worker.work.job ≡ Some job → begins_transaction job.call ≡ true
      → HasBegun job old number new → P Called (Some (step.Begun (Ok number)))
  pub not_begun : (job : Job) (why : BeginFault) → old.worker.work.job ≡ Some job
      → begins_transaction job.call ≡ true
      → IsNoBeginning why old.core → new.core ≡ unbegun why old.core
      → new.worker ≡ with_answer (refusal job.call (cause_of why)) None old.worker
      → P Called (Some (step.Begun (Err why)))
  pub replied : (job : Job) → old.worker.work.job ≡ Some job → begins_transaction job.call ≡ false
      → new.core ≡ old.core
      → new.worker ≡ with_answer (verdict.Reply Null) None old.worker
      → P Called (Some step.Replied)
  pub wanted : (tx : ℕ) (addr : Addr) (mode : Mode) (made : Step) → old.worker.begun.tx ≡ Some tx
      → IsRequested old.worker (lock_request.Object addr mode) (plan.Need addr mode)
      → (has : HasWanted tx addr mode old made new)
      → P Planning (Some (step.Wanted addr mode (want_answer has.answer)))
  pub claimed : (tx : ℕ) (block : BlockNo) (made : Step) → old.worker.begun.tx ≡ Some tx
      → IsRequested old.worker (lock_request.Claim block) (plan.Claim block) → (has : HasClaimed tx block old made new)
      → P Planning (Some (step.Claimed block (claim_answer has.answer)))
  pub committed : (job : Job) (tx : ℕ) (done : Outcome) (made : Step) → old.worker.begun.tx ≡ Some tx
      → IsNext old.worker (plan.Done done) → old.worker.known.left ≡ [] → old.worker.work.job ≡ Some job
      → (has : HasCommitted job tx done old made new)
      → P Planning (Some (step.Commit (blocks_of done.written)
      (committing_of has.answer)))
  pub lacked : (tx : ℕ) (made : Step) → old.worker.begun.tx ≡ Some tx → old.worker.known.left ≡ []
      → HasLacked tx old made new
      → P Planning (Some (step.Ended (ending.NoMemory alloc_error)))
  pub given : (ok : Bool) (io : Fetch) (made : Step) → old.worker.begun.io ≡ Some io
      → HasGivenBack ok io old made new → P (Read ok) (Some (given_step ok io))
  pub refused : (why : Cause) (job : Job) (tx : ℕ) (made : Step) → old.worker.work.job ≡ Some job
      → old.worker.begun.tx ≡ Some tx → HasRefused why job tx old made new
      → P (Refused why) (Some (step.Ended ending.Refused))
  pub left : (tx : ℕ) (made : Step) → old.worker.begun.tx ≡ Some tx → HasLeft tx old made new
      → P Again (Some (step.Ended ending.Again))
  pub waited : (place : Seq) (made : Step) → (has : Waits place old made new)
      → P (Waiting place) (Some (step.Stable place has.settled))

-- each is one of these
module _ (old new : WorkerAndCore) (P : Phase → Option Step → Type 0) (cases : Cases old new P) where
  so : (phase : Phase) (one other : Step) → one ≡ other → P phase (Some other) → P phase (Some one)
  so phase one other is shown = subst (λ made. P phase (Some made)) (sym is) shown

  begins : (job : Job) (served : Bool) (made : Step) → old.worker.work.job ≡ Some job
      → begins_transaction job.call ≡ served → BeginsBy served job old made new → P Called (Some made)
  begins job false made job_is served has =
      so Called made step.Replied has.0 (cases.replied job job_is served has.1 has.2)
  begins job true (step.Begun (Ok number)) job_is served has = cases.begun job number job_is served has
  begins job true (step.Begun (Err why)) job_is served has =
      cases.not_begun job why job_is served has.0 has.1 has.2
  begins job true step.Called job_is served has = absurd has
  begins job true step.Replied job_is served has = absurd has
  begins job true (step.Wanted a b c) job_is served has = absurd has
  begins job true (step.Claimed a b) job_is served has = absurd has
  begins job true (step.Fetched a) job_is served has = absurd has
  begins job true (step.FetchFailed a) job_is served has = absurd has
  begins job true (step.Commit a b) job_is served has = absurd has
  begins job true (step.Ended a) job_is served has = absurd has
  begins job true (step.Stable a b) job_is served has = absurd has
  begins job true (step.Read a b) job_is served has = absurd has
  begins job true (step.LogNext a) job_is served has = absurd has
  begins job true (step.LogIo a) job_is served has = absurd has
  begins job true (step.LogDone a) job_is served has = absurd has
  begins job true (step.InstNext a) job_is served has = absurd has
  begins job true (step.InstIo a) job_is served has = absurd has
  begins job true (step.InstDone a) job_is served has = absurd has

  called : (found : Option Job) (made : Step) → old.worker.work.job ≡ found
      → IsSomeAnd found (λ job. BeginsBy (begins_transaction job.call) job old made new) → P Called (Some made)
  called None made is has = absurd has
  called (Some job) made is has = begins job (begins_transaction job.call) made is refl has

  module _ (tx : ℕ) (tx_is : old.worker.begun.tx ≡ Some tx) (none : old.worker.known.left ≡ []) where
    lacks : (made : Step) → HasLacked tx old made new → P Planning (Some made)
    lacks made has = so Planning made (step.Ended (ending.NoMemory alloc_error)) has.made_is (cases.lacked tx made tx_is none has)

    module _ (done : Outcome) (next : IsNext old.worker (plan.Done done)) where
      commits : (found : Option Job) (made : Step) → old.worker.work.job ≡ found
          → IsSomeAnd found (λ job. HasCommitted job tx done old made new) → P Planning (Some made)
      commits None made is has = absurd has
      commits (Some job) made is has =
          so Planning made _ has.made_is (cases.committed job tx done made tx_is next none is has)

      ends : (made : Step) → EndsBy tx done old made new → P Planning (Some made)
      ends (step.Ended why) has = lacks (step.Ended why) has
      ends step.Called has = commits old.worker.work.job _ refl has
      ends step.Replied has = commits old.worker.work.job _ refl has
      ends (step.Begun a) has = commits old.worker.work.job _ refl has
      ends (step.Wanted a b c) has = commits old.worker.work.job _ refl has
      ends (step.Claimed a b) has = commits old.worker.work.job _ refl has
      ends (step.Fetched a) has = commits old.worker.work.job _ refl has
      ends (step.FetchFailed a) has = commits old.worker.work.job _ refl has
      ends (step.Commit a b) has = commits old.worker.work.job _ refl has
      ends (step.Stable a b) has = commits old.worker.work.job _ refl has
      ends (step.Read a b) has = commits old.worker.work.job _ refl has
      ends (step.LogNext a) has = commits old.worker.work.job _ refl has
      ends (step.LogIo a) has = commits old.worker.work.job _ refl has
      ends (step.LogDone a) has = commits old.worker.work.job _ refl has
      ends (step.InstNext a) has = commits old.worker.work.job _ refl has
      ends (step.InstIo a) has = commits old.worker.work.job _ refl has
      ends (step.InstDone a) has = commits old.worker.work.job _ refl has

    by_plan : (one : LockRequest) (next : Plan) → IsNext old.worker next → IsRequested old.worker one next
    by_plan one next is = record {
      job = is.job;
      job_is = is.job_is;
      snap = is.snap;
      snap_is = is.snap_is;
      why = inl (none, is);
    }

    goes : (next : Plan) (made : Step) → IsNext old.worker next → GoesByNext next tx old made new
        → P Planning (Some made)
    goes (plan.Need addr mode) made is has = so Planning made _ has.made_is
        (cases.wanted tx addr mode made tx_is (by_plan (lock_request.Object addr mode) (plan.Need addr mode) is) has)
    goes (plan.Claim block) made is has = so Planning made _ has.made_is
        (cases.claimed tx block made tx_is (by_plan (lock_request.Claim block) (plan.Claim block) is) has)
    goes (plan.Done done) made is has = ends done is made has
    goes (plan.NoMemory error) made is has = lacks made has

  -- what is taken again, with a call and what was read for it
  module _ (tx : ℕ) (tx_is : old.worker.begun.tx ≡ Some tx) (planned : is_planned old.worker.work ≡ true)
      (one : LockRequest) (later : List LockRequest) (left : old.worker.known.left ≡ one ∷ later) where
    again : (next : Plan) → IsRequested old.worker one next
    again next = by old.worker.work.job refl old.worker.work.planner refl planned
      where
        by : (job : Option Job) → old.worker.work.job ≡ job → (planner : Option Planner) → old.worker.work.planner ≡ planner
            → (is_served job && is_some planner) ≡ true → IsRequested old.worker one next
        by None job_is planner planner_is planned = absurd (true≢false (sym planned))
        by (Some job) job_is None planner_is planned = absurd (none_planned (begins_transaction job.call) planned)
          where
            none_planned : (b : Bool) → (b && false) ≡ true → ⊥
            none_planned true is = true≢false (sym is)
            none_planned false is = true≢false (sym is)
        by (Some job) job_is (Some planner) planner_is planned = record {
          job = job;
          job_is = job_is;
          snap = planner.snap;
          snap_is = ap seen_in planner_is;
          why = inr (later, left);
        }

  takes : (tx : ℕ) → old.worker.begun.tx ≡ Some tx → is_planned old.worker.work ≡ true → (one : LockRequest)
      → (later : List LockRequest) → old.worker.known.left ≡ one ∷ later → (made : Step)
      → GoesByLockRequest one tx old made new → P Planning (Some made)
  takes tx tx_is planned (lock_request.Object addr mode) later left made has =
      so Planning made _ has.made_is (cases.wanted tx addr mode made tx_is
      (again tx tx_is planned (lock_request.Object addr mode) later left (plan.Need addr mode)) has)
  takes tx tx_is planned (lock_request.Claim block) later left made has =
      so Planning made _ has.made_is (cases.claimed tx block made tx_is
      (again tx tx_is planned (lock_request.Claim block) later left (plan.Claim block)) has)

  gives : (ok : Bool) (found : Option Fetch) (made : Step) → old.worker.begun.io ≡ found
      → IsSomeAnd found (λ io. HasGivenBack ok io old made new) → P (Read ok) (Some made)
  gives ok None made is has = absurd has
  gives ok (Some io) made is has = so (Read ok) made _ has.made_is (cases.given ok io made is has)

  leaves : (found : Option ℕ) (made : Step) → old.worker.begun.tx ≡ found
      → IsSomeAnd found (λ tx. HasLeft tx old made new) → P Again (Some made)
  leaves None made is has = absurd has
  leaves (Some tx) made is has = so Again made _ has.made_is (cases.left tx made is has)

  refuses : (why : Cause) (job : Option Job) (tx : Option ℕ) (made : Step) → old.worker.work.job ≡ job
      → old.worker.begun.tx ≡ tx
      → IsSomeAnd job (λ job. IsSomeAnd tx (λ tx. HasRefused why job tx old made new))
      → P (Refused why) (Some made)
  refuses why None tx made job_is tx_is has = absurd has
  refuses why (Some job) None made job_is tx_is has = absurd has
  refuses why (Some job) (Some tx) made job_is tx_is has =
      so (Refused why) made _ has.made_is (cases.refused why job tx made job_is tx_is has)

  pub by_cases : (phase : Phase) (made : Option Step) → GoesOn phase old made new → P phase made
  by_cases Idle made has = subst (λ m. P Idle m) (sym has.0) (cases.idle has.1)
  by_cases Reading made has = subst (λ m. P Reading m) (sym has.0) (cases.reading has.1)
  by_cases Called (Some made) has = called old.worker.work.job made refl has
  by_cases Planning (Some made) (inl has) = goes has.tx has.tx_is has.none has.next made has.next_is has.goes
  by_cases Planning (Some made) (inr has) =
      takes has.tx has.tx_is has.planned has.next has.later has.left made has.goes
  by_cases (Read ok) (Some made) has = gives ok old.worker.begun.io made refl has
  by_cases (Refused why) (Some made) has =
      refuses why old.worker.work.job old.worker.begun.tx made refl refl has
  by_cases Again (Some made) has = leaves old.worker.begun.tx made refl has
  by_cases (Waiting place) (Some made) has = so (Waiting place) made _ has.made_is (cases.waited place made has)
  by_cases Called None has = absurd has
  by_cases Planning None has = absurd has
  by_cases (Read ok) None has = absurd has
  by_cases (Refused why) None has = absurd has
  by_cases Again None has = absurd has
  by_cases (Waiting place) None has = absurd has
