-- Which steps a call's beginning and a plan's end come to.
use Rattle.std.proofs.Common.{◌≡◌, ℕ, Bool, true, false, Option, Some, None, Ok, Err, refl}
use Rattle.std.specs.Prelude.{IsSomeAnd}
use Rattle.nfs_spec.specs.Model.Calls.{begins_transaction}
use Rattle.procs.specs.Outcome.{Outcome}
use Rattle.txn.specs.Core.{CoreState}
use Rattle.txn.specs.Outcomes.{unbegun}
use Rattle.txn.specs.declared.outcomes.BeginFault.{BeginFault}
use Rattle.store_promise.specs.declared.answers.Verdict.{Verdict}
use Rattle.store_promise.specs.declared.events.Step.{Step}
use Rattle.store_promise.specs.declared.events.Step.TheVariants as step
use Rattle.store_workers.specs.WorkerAnswers.{with_answer}
use Rattle.store_workers.specs.WorkerSteps.{Begins, BeginsBy, EndsBy, HasBegun, HasCommitted, HasLacked, WorkerAndCore}
use Rattle.store_workers.specs.declared.workers.parts.Job.{Job}

-- a call is answered at once, which leaves this core
pub record IsAnsweredAtOnce (left : CoreState) (old new : WorkerAndCore) : Type 0 where
  pub heard : Verdict
  pub core : new.core ≡ left
  pub worker : new.worker ≡ with_answer heard None old.worker

-- a call begins a transaction, is told why none was begun, or needs none
pub data Beginning (old : WorkerAndCore) (made : Step) (new : WorkerAndCore) : Type 0 where
  begun : (job : Job) (number : ℕ) → old.worker.work.job ≡ Some job → made ≡ step.Begun (Ok number)
      → HasBegun job old number new → Beginning old made new
  refused : (why : BeginFault) → made ≡ step.Begun (Err why) → IsAnsweredAtOnce (unbegun why old.core) old new
      → Beginning old made new
  replied : made ≡ step.Replied → IsAnsweredAtOnce old.core old new → Beginning old made new

by_rules : (old new : WorkerAndCore) (made : Step) (job : Job) (served : Bool) → old.worker.work.job ≡ Some job
    → BeginsBy served job old made new → Beginning old made new
by_rules old new (step.Begun (Ok number)) job true is has = begun job number is refl has
by_rules old new (step.Begun (Err why)) job true is has =
    refused why refl (record { heard = _; core = has.1; worker = has.2 })
by_rules old new step.Called job true is has = absurd has
by_rules old new step.Replied job true is has = absurd has
by_rules old new (step.Wanted a b c) job true is has = absurd has
by_rules old new (step.Claimed a b) job true is has = absurd has
by_rules old new (step.Fetched a) job true is has = absurd has
by_rules old new (step.FetchFailed a) job true is has = absurd has
by_rules old new (step.Commit a b) job true is has = absurd has
by_rules old new (step.Ended a) job true is has = absurd has
by_rules old new (step.Stable a b) job true is has = absurd has
by_rules old new (step.Read a b) job true is has = absurd has
by_rules old new (step.LogNext a) job true is has = absurd has
by_rules old new (step.LogIo a) job true is has = absurd has
by_rules old new (step.LogDone a) job true is has = absurd has
by_rules old new (step.InstNext a) job true is has = absurd has
by_rules old new (step.InstIo a) job true is has = absurd has
by_rules old new (step.InstDone a) job true is has = absurd has
by_rules old new made job false is has = replied has.0 (record { heard = _; core = has.1; worker = has.2 })

pub beginning : (old new : WorkerAndCore) (made : Step) → Begins old made new → Beginning old made new
beginning old new made has = by old.worker.work.job refl has
  where
    by : (found : Option Job) → old.worker.work.job ≡ found
        → IsSomeAnd found (λ job. BeginsBy (begins_transaction job.call) job old made new)
        → Beginning old made new
    by None is has = absurd has
    by (Some job) is has = by_rules old new made job (begins_transaction job.call) is has

-- what a plan ended in is committed, or memory was refused before
pub data Ending (tx : ℕ) (done : Outcome) (old : WorkerAndCore) (made : Step) (new : WorkerAndCore) : Type 0 where
  lacked : HasLacked tx old made new → Ending tx done old made new
  committed : (job : Job) → old.worker.work.job ≡ Some job → HasCommitted job tx done old made new
      → Ending tx done old made new

module _ (old new : WorkerAndCore) (tx : ℕ) (done : Outcome) where
  of_job : (made : Step) → IsSomeAnd old.worker.work.job (λ job. HasCommitted job tx done old made new)
      → Ending tx done old made new
  of_job made has = by old.worker.work.job refl has
    where
      by : (found : Option Job) → old.worker.work.job ≡ found
          → IsSomeAnd found (λ job. HasCommitted job tx done old made new) → Ending tx done old made new
      by None is has = absurd has
      by (Some job) is has = committed job is has

  pub ending : (made : Step) → EndsBy tx done old made new → Ending tx done old made new
  ending (step.Ended why) has = lacked has
  ending step.Called has = of_job step.Called has
  ending step.Replied has = of_job step.Replied has
  ending (step.Begun a) has = of_job (step.Begun a) has
  ending (step.Wanted a b c) has = of_job (step.Wanted a b c) has
  ending (step.Claimed a b) has = of_job (step.Claimed a b) has
  ending (step.Fetched a) has = of_job (step.Fetched a) has
  ending (step.FetchFailed a) has = of_job (step.FetchFailed a) has
  ending (step.Commit a b) has = of_job (step.Commit a b) has
  ending (step.Stable a b) has = of_job (step.Stable a b) has
  ending (step.Read a b) has = of_job (step.Read a b) has
  ending (step.LogNext a) has = of_job (step.LogNext a) has
  ending (step.LogIo a) has = of_job (step.LogIo a) has
  ending (step.LogDone a) has = of_job (step.LogDone a) has
  ending (step.InstNext a) has = of_job (step.InstNext a) has
  ending (step.InstIo a) has = of_job (step.InstIo a) has
  ending (step.InstDone a) has = of_job (step.InstDone a) has
