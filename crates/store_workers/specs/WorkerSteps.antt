-- The step by which a worker goes on, by its phase: which step, and what it leaves of the worker and of the
-- core.
use Rattle.std.specs.Prelude.{◌≡◌, ◌⊎◌, ◌↔◌, ℕ, ◌+◌, ◌^◌, ◌<◌, ◌≤◌, Bool, true, false, if◌then◌else◌, IsTrue, alloc_error}
use Rattle.std.specs.Prelude.{Option, Some, None, Ok, Err, List, [], ◌∷◌, IsSomeAnd}
use Rattle.disk.specs.Crash.{Image}
use Rattle.disk.specs.declared.block.BlockNo.{BlockNo}
use Rattle.objects.specs.declared.addr.Addr.{Addr}
use Rattle.objects.specs.declared.mode.Mode.{Mode}
use Rattle.layout.specs.declared.version.FormatVersion.TheVariants.{Second}
use Rattle.nfs_types.specs.declared.reply.Reply.TheVariants.{Null}
use Rattle.nfs_spec.specs.Model.Calls.{begins_transaction}
use Rattle.circ.specs.Log.Log.{settled_place}
use Rattle.circ.specs.declared.log.outcomes.Seq.{Seq}
use Rattle.procs.specs.Outcome.{Outcome}
use Rattle.procs.specs.Planned.{IsPlanFor, IsStepPlan}
use Rattle.procs.specs.declared.next.Plan.{Plan}
use Rattle.procs.specs.declared.next.Plan.TheVariants as plan
use Rattle.inode.specs.declared.snap.Snap.{Snap}
use Rattle.txn.specs.Commit.{Planned}
use Rattle.txn.specs.Core.{CoreState, with_begun, with_refused, without}
use Rattle.txn.specs.CoreWindow.{IsHomeOf, IsPending, PreservesReads}
use Rattle.txn.specs.Fetch.{Fetch}
use Rattle.txn.specs.Group.{blocks_of}
use Rattle.txn.specs.Leaves.{Leaves, but_by, in_memory, is_fetching, taken_by, with_content, without_fetch}
use Rattle.txn.specs.Outcomes.{IsClaimed, IsCommit, IsNoBeginning, IsSetBy, IsWanted, unbegun}
use Rattle.txn.specs.LockAnswers.{IsWhole}
use Rattle.txn.specs.declared.outcomes.BeginFault.{BeginFault}
use Rattle.txn.specs.declared.outcomes.Claim.{Claim}
use Rattle.txn.specs.declared.outcomes.Commit.{Commit}
use Rattle.txn.specs.declared.outcomes.Want.{Want}
use Rattle.store_promise.specs.Verdicts.{cause_of, refusal}
use Rattle.store_promise.specs.declared.answers.Verdict.TheVariants as verdict
use Rattle.store_promise.specs.declared.events.Cause.{Cause}
use Rattle.store_promise.specs.declared.events.Cause.TheVariants as cause
use Rattle.store_promise.specs.declared.events.Ending.TheVariants as ending
use Rattle.store_promise.specs.declared.events.Step.{Step}
use Rattle.store_promise.specs.declared.events.Step.TheVariants as step
use Rattle.store_promise.specs.declared.lock_requests.LockRequest.{LockRequest}
use Rattle.store_promise.specs.declared.lock_requests.LockRequest.TheVariants as lock_request
use Rattle.store_workers.specs.Knowing.{given_back}
use Rattle.store_workers.specs.Phases.{is_planned}
use Rattle.store_workers.specs.Seen.{Seen, seen_in, seen_of}
use Rattle.store_workers.specs.WorkerAnswers.{after_commit, asked_wanted, begun_claimed, begun_wanted}
use Rattle.store_workers.specs.WorkerAnswers.{claim_answer, committing_of, known_claimed, known_wanted}
use Rattle.store_workers.specs.WorkerAnswers.{phase_claimed, phase_wanted, seen_claimed, seen_wanted, want_answer}
use Rattle.store_workers.specs.WorkerAnswers.{with_answer}
use Rattle.store_workers.specs.declared.workers.parts.Begun.{Begun}
use Rattle.store_workers.specs.declared.workers.parts.Job.{Job}
use Rattle.store_workers.specs.declared.workers.parts.Phase.{Phase}
use Rattle.store_workers.specs.declared.workers.parts.Phase.TheVariants.{Idle, Called, Planning}
use Rattle.store_workers.specs.declared.workers.parts.Phase.TheVariants.{Reading, Read}
use Rattle.store_workers.specs.declared.workers.parts.Phase.TheVariants.{Refused, Again, Waiting}
use Rattle.store_workers.specs.declared.workers.parts.State.{State}

-- a worker with its core
pub record WorkerAndCore : Type 0 where
  pub worker : State
  pub core : CoreState

abbrev pub worker_and_core : State → CoreState → WorkerAndCore
worker_and_core worker core = record { worker = worker; core = core }

-- nothing is out of the core
abbrev pub none_begun : Begun
none_begun = record { tx = None; io = None }

-- the worker once what it read, and what it knows, has other room
abbrev pub with_snap : State → State → State
with_snap new old = record old {
  work = record old.work { planner = new.work.planner };
  known = record old.known { has_space = new.known.has_space };
}

-- ---- a transaction is begun

-- the job, in this boot and in the transaction of this number
abbrev pub numbered : ℕ → ℕ → Job → Job
numbered boot number job = record job { ctx = record job.ctx { boot = boot; transaction = number } }

-- nothing was read yet, of the core's image
pub record SawNothing (core : CoreState) (seen : Seen) : Type 0 where
  pub version : seen.geometry.version ≡ Second
  pub blocks : seen.geometry.blocks ≡ core.log.blocks
  pub inodes : seen.geometry.inodes ≡ core.inodes
  pub objects : seen.objects ≡ []
  pub exclusives : seen.exclusives ≡ []
  pub claims : seen.claims ≡ []

-- The next transaction was begun for the job, in the boot of the core, and nothing was read in it yet.
pub record HasBegun (job : Job) (old : WorkerAndCore) (number : ℕ) (new : WorkerAndCore) : Type 0 where
  pub next : number ≡ old.core.begun + 1
  pub counted : number < 2 ^ 64
  pub sound : old.core.log.broken ≡ false
  pub core : new.core ≡ with_begun old.core
  pub worker : new.worker ≡ record old.worker {
    phase = Planning;
    begun = record { tx = Some number; io = None };
    work = record old.worker.work { job = Some (numbered old.core.boot number job); planner = new.worker.work.planner };
    known = given_back old.worker.known;
  }
  pub seen : IsSomeAnd (seen_in new.worker.work.planner) (SawNothing old.core)

-- A call begins a transaction, or is told why none was begun, where memory that was refused is counted; NULL is
-- answered.
abbrev pub BeginsBy : Bool → Job → WorkerAndCore → Step → WorkerAndCore → Type 0
BeginsBy true job old (step.Begun (Ok number)) new = HasBegun job old number new
BeginsBy true job old (step.Begun (Err why)) new = IsNoBeginning why old.core × (new.core ≡ unbegun why old.core)
    × (new.worker ≡ with_answer (refusal job.call (cause_of why)) None old.worker)
BeginsBy true job old _ new = ⊥
BeginsBy false job old made new = (made ≡ step.Replied) × (new.core ≡ old.core)
    × (new.worker ≡ with_answer (verdict.Reply Null) None old.worker)

abbrev pub Begins : WorkerAndCore → Step → WorkerAndCore → Type 0
Begins old made new =
    IsSomeAnd old.worker.work.job (λ job. BeginsBy (begins_transaction job.call) job old made new)

-- ---- a plan

-- a lock request to read an object in a mode is answered
pub record HasWanted (tx : ℕ) (addr : Addr) (mode : Mode) (old : WorkerAndCore) (made : Step) (new : WorkerAndCore) : Type 0 where
  pub answer : Want
  pub made_is : made ≡ step.Wanted addr mode (want_answer answer)
  pub core : IsWanted old.core tx addr mode answer new.core
  pub worker : new.worker ≡ record (with_snap new.worker old.worker) {
    phase = phase_wanted addr mode answer old.worker.known;
    begun = begun_wanted answer;
    asked = asked_wanted addr mode answer old.worker.asked;
    known = known_wanted addr mode answer (with_snap new.worker old.worker).known;
  }
  pub seen : seen_in new.worker.work.planner
      ≡ seen_wanted old.worker.known.left addr mode answer (seen_in old.worker.work.planner)

-- a lock request to claim a block is answered
pub record HasClaimed (tx : ℕ) (block : BlockNo) (old : WorkerAndCore) (made : Step) (new : WorkerAndCore) : Type 0 where
  pub answer : Claim
  pub made_is : made ≡ step.Claimed block (claim_answer answer)
  pub core : (addr : Addr) × IsWhole block addr × IsClaimed old.core tx addr answer new.core
  pub worker : new.worker ≡ record (with_snap new.worker old.worker) {
    phase = phase_claimed block answer old.worker.known;
    begun = begun_claimed answer;
    known = known_claimed block answer (with_snap new.worker old.worker).known;
  }
  pub seen : seen_in new.worker.work.planner
      ≡ seen_claimed old.worker.known.left block answer (seen_in old.worker.work.planner)

-- what a finished plan is to the core
abbrev pub planned_of : Outcome → Planned
planned_of done = record {
  read = done.read;
  written = done.written;
  blocks = done.blocks;
  inodes = done.inodes;
}

-- What the plan ended in is given to the core, whose answer the step tells. Once it is committed, the entry
-- is the job with the plan's reply.
pub record HasCommitted (job : Job) (tx : ℕ) (done : Outcome) (old : WorkerAndCore) (made : Step) (new : WorkerAndCore) : Type 0
  where
    pub answer : Commit Outcome
    pub made_is : made ≡ step.Commit (blocks_of done.written) (committing_of answer)
    pub core : IsCommit old.core tx (planned_of done) done answer new.core
    pub sets : IsSetBy old.core (planned_of done) answer new.core
    pub seen : seen_in new.worker.work.planner ≡ seen_in old.worker.work.planner
    pub worker : new.worker ≡ after_commit job done.reply answer
        (record (with_snap new.worker old.worker) { begun = none_begun })

-- a transaction was ended without a change: what it had taken is let go
pub record HasAborted (tx : ℕ) (old new : CoreState) : Type 0 where
  pub only : new ≡ record old { out = without tx old.out; holds = new.holds; present = new.present }
  pub leaves : Leaves new (but_by tx (taken_by old)) (is_fetching old) (in_memory old)

-- memory was refused, which is counted, and so the transaction is ended
pub record HasLacked (tx : ℕ) (old : WorkerAndCore) (made : Step) (new : WorkerAndCore) : Type 0 where
  pub made_is : made ≡ step.Ended (ending.NoMemory alloc_error)
  pub core : HasAborted tx (with_refused old.core) new.core
  pub worker : new.worker ≡ with_answer (verdict.NoMemory alloc_error) None
      (record (with_snap new.worker old.worker) { begun = none_begun })

-- a finished plan is committed, or memory was refused before
abbrev pub EndsBy : ℕ → Outcome → WorkerAndCore → Step → WorkerAndCore → Type 0
EndsBy tx done old (step.Ended why) new = HasLacked tx old (step.Ended why) new
EndsBy tx done old made new = IsSomeAnd old.worker.work.job (λ job. HasCommitted job tx done old made new)

-- the step that a plan asks for
abbrev pub GoesByNext : Plan → ℕ → WorkerAndCore → Step → WorkerAndCore → Type 0
GoesByNext (plan.Need addr mode) tx old made new = HasWanted tx addr mode old made new
GoesByNext (plan.Claim block) tx old made new = HasClaimed tx block old made new
GoesByNext (plan.Done done) tx old made new = EndsBy tx done old made new
GoesByNext (plan.NoMemory error) tx old made new = HasLacked tx old made new

-- a plan for the worker's job says this, by what was read for it
pub record IsNext (worker : State) (next : Plan) : Type 0 where
  pub job : Job
  pub job_is : worker.work.job ≡ Some job
  pub snap : Snap
  pub snap_is : seen_in worker.work.planner ≡ Some (seen_of snap)
  pub plan : IsPlanFor snap next
  pub is_step : IsStepPlan snap.geometry job.ctx job.call next

-- The step is that of a plan: nothing is left to be taken again.
pub record GoesByPlan (old : WorkerAndCore) (made : Step) (new : WorkerAndCore) : Type 0 where
  pub tx : ℕ
  pub tx_is : old.worker.begun.tx ≡ Some tx
  pub none : old.worker.known.left ≡ []
  pub next : Plan
  pub next_is : IsNext old.worker next
  pub goes : GoesByNext next tx old made new

-- ---- what was known is taken again

-- the object or block of the lock request is asked for, in its mode
abbrev pub GoesByLockRequest : LockRequest → ℕ → WorkerAndCore → Step → WorkerAndCore → Type 0
GoesByLockRequest (lock_request.Object addr mode) tx old made new = HasWanted tx addr mode old made new
GoesByLockRequest (lock_request.Claim block) tx old made new = HasClaimed tx block old made new

-- The first of what is left is asked for again, whatever the plan asks for.
pub record TakesAgain (old : WorkerAndCore) (made : Step) (new : WorkerAndCore) : Type 0 where
  pub tx : ℕ
  pub tx_is : old.worker.begun.tx ≡ Some tx
  pub planned : is_planned old.worker.work ≡ true
  pub next : LockRequest
  pub later : List LockRequest
  pub left : old.worker.known.left ≡ next ∷ later
  pub goes : GoesByLockRequest next tx old made new

-- ---- a fetch is given back

-- a block that was read is in memory while anyone has taken a part of it
abbrev pub there_with : Fetch → CoreState → BlockNo → Option (List ℕ)
there_with io core = if is_fetching core io.block then with_content io.block io.content (in_memory core)
    else in_memory core

-- with what was read, or without
abbrev pub given_step : Bool → Fetch → Step
given_step true io = step.Fetched io.block
given_step false io = step.FetchFailed io.block

abbrev pub phase_given : Bool → Phase
phase_given true = Planning
phase_given false = Refused cause.Io

abbrev pub there_given : Bool → Fetch → CoreState → BlockNo → Option (List ℕ)
there_given true io core = there_with io core
there_given false io core = in_memory core

pub record HasGivenBack (ok : Bool) (io : Fetch) (old : WorkerAndCore) (made : Step) (new : WorkerAndCore) : Type 0 where
  pub made_is : made ≡ given_step ok io
  pub only : new.core ≡ record old.core { present = new.core.present }
  pub leaves : Leaves new.core (taken_by old.core) (without_fetch io.block (is_fetching old.core))
      (there_given ok io old.core)
  pub worker : new.worker ≡ record old.worker {
    phase = phase_given ok;
    begun = record old.worker.begun { io = None };
  }

abbrev pub GivesBack : Bool → WorkerAndCore → Step → WorkerAndCore → Type 0
GivesBack ok old made new = IsSomeAnd old.worker.begun.io (λ io. HasGivenBack ok io old made new)

-- ---- a transaction is ended, a place is waited for

-- the transaction is ended, and then the call is answered why
pub record HasRefused (why : Cause) (job : Job) (tx : ℕ) (old : WorkerAndCore) (made : Step) (new : WorkerAndCore) : Type 0 where
  pub made_is : made ≡ step.Ended ending.Refused
  pub core : HasAborted tx old.core new.core
  pub worker : new.worker ≡ with_answer (refusal job.call why) None (record old.worker { begun = none_begun })

abbrev pub Refuses : Cause → WorkerAndCore → Step → WorkerAndCore → Type 0
Refuses why old made new = IsSomeAnd old.worker.work.job (λ job.
    IsSomeAnd old.worker.begun.tx (λ tx. HasRefused why job tx old made new))

-- the transaction is ended, and the call begins again
pub record HasLeft (tx : ℕ) (old : WorkerAndCore) (made : Step) (new : WorkerAndCore) : Type 0 where
  pub made_is : made ≡ step.Ended ending.Again
  pub core : HasAborted tx old.core new.core
  pub worker : new.worker ≡ record old.worker { phase = Called; begun = none_begun }

abbrev pub BeginsAgain : WorkerAndCore → Step → WorkerAndCore → Type 0
BeginsAgain old made new = IsSomeAnd old.worker.begun.tx (λ tx. HasLeft tx old made new)

-- the reply is told, and isn't kept any more
abbrev pub HasSentReply : Seq → State → State → Type 0
HasSentReply place old new = IsSomeAnd old.work.reply (λ reply. new
    ≡ with_answer (verdict.Reply reply) (Some place) (record old { work = record old.work { reply = None } }))

-- the one in its place
abbrev pub HasSentBroken : Seq → State → State → Type 0
HasSentBroken place old new = IsSomeAnd old.work.broken_reply (λ reply. new
    ≡ with_answer (verdict.Reply reply) (Some place)
    (record old { work = record old.work { broken_reply = None } }))

-- a procedure whose place is settled gets its reply, and one whose place can't be any more the other
abbrev pub IsReplySent : Bool → Bool → Seq → State → State → Type 0
IsReplySent true broken place old new = HasSentReply place old new
IsReplySent false true place old new = HasSentBroken place old new
IsReplySent false false place old new = new ≡ old

-- it is told whether the place is settled
pub record Waits (place : Seq) (old : WorkerAndCore) (made : Step) (new : WorkerAndCore) : Type 0 where
  pub settled : Bool
  pub settled_is : IsTrue settled ↔ (place.0 ≤ settled_place old.core.log)
  pub made_is : made ≡ step.Stable place settled
  pub core : new.core ≡ old.core
  pub is_reply_sent : IsReplySent settled old.core.log.broken place old.worker new.worker

-- ---- any step

-- one step, or none where the worker has no call or a read is due
abbrev pub GoesOn : Phase → WorkerAndCore → Option Step → WorkerAndCore → Type 0
GoesOn Idle old made new = (made ≡ None) × (new ≡ old)
GoesOn Reading old made new = (made ≡ None) × (new ≡ old)
GoesOn Called old (Some made) new = Begins old made new
GoesOn Planning old (Some made) new = GoesByPlan old made new ⊎ TakesAgain old made new
GoesOn (Read ok) old (Some made) new = GivesBack ok old made new
GoesOn (Refused why) old (Some made) new = Refuses why old made new
GoesOn Again old (Some made) new = BeginsAgain old made new
GoesOn (Waiting place) old (Some made) new = Waits place old made new
GoesOn phase old None new = ⊥

-- what a read brought that was pending is what is at home
abbrev pub IsFromHome : Phase → Option Fetch → CoreState → Image → Type 0
IsFromHome (Read true) (Some io) core base = IsPending core io.block → io.content ≡ base io.block.0
IsFromHome _ _ core base = Unit {0}

-- whatever is at home, a step leads from a window over it to one over the same, where what was read is from
-- there
abbrev pub PreservesHomeOf : WorkerAndCore → WorkerAndCore → Type 0
PreservesHomeOf old new = (base : Image) → IsFromHome old.worker.phase old.worker.begun.io old.core base
    → IsHomeOf base old.core → IsHomeOf base new.core

-- what a transaction that the step doesn't end holds for reading stays
abbrev pub PreservesReadsOf : WorkerAndCore → WorkerAndCore → Type 0
PreservesReadsOf old new = (tx : ℕ) → (old.worker.begun.tx ≡ Some tx → new.worker.begun.tx ≡ Some tx)
    → PreservesReads old.core new.core tx
