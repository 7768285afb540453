-- What ends a plan is the step of the worker as it was before the plan was made, which left it with other room
-- for what it read and took its transaction.
use Rattle.std.proofs.Common.{◌≡◌, ◌∙◌, ℕ, Option, Some, None, IsSomeAnd}
use Rattle.procs.specs.Outcome.{Outcome}
use Rattle.store_promise.specs.declared.events.Step.{Step}
use Rattle.store_promise.specs.declared.events.Step.TheVariants as step
use Rattle.txn.specs.Core.{CoreState}
use Rattle.store_workers.specs.Seen.{seen_in}
use Rattle.store_workers.specs.WorkerSteps.{EndsBy, HasCommitted, HasLacked, worker_and_core, with_snap}
use Rattle.store_workers.specs.declared.workers.parts.Begun.{Begun}
use Rattle.store_workers.specs.declared.workers.parts.Job.{Job}
use Rattle.store_workers.specs.declared.workers.parts.State.{State}

module _ (old planned : State) (taken : Begun) (seen : seen_in planned.work.planner ≡ seen_in old.work.planner)
    (tx : ℕ) (done : Outcome) (before after : CoreState) (new : State) where
  -- the worker with its plan, without its transaction
  abbrev pub worker : State
  worker = record (with_snap planned old) { begun = taken }

  lacked : (made : Step) → HasLacked tx (worker_and_core worker before) made (worker_and_core new after)
      → HasLacked tx (worker_and_core old before) made (worker_and_core new after)
  lacked made is = record { made_is = is.made_is; core = is.core; worker = is.worker }

  committed : (made : Step) (found : Option Job)
      → IsSomeAnd found (λ job. HasCommitted job tx done (worker_and_core worker before) made (worker_and_core new after))
      → IsSomeAnd found (λ job. HasCommitted job tx done (worker_and_core old before) made (worker_and_core new after))
  committed made None is = is
  committed made (Some job) is = record {
    answer = is.answer;
    made_is = is.made_is;
    core = is.core;
    sets = is.sets;
    seen = is.seen ∙ seen;
    worker = is.worker;
  }

  pub ends : (made : Step) → EndsBy tx done (worker_and_core worker before) made (worker_and_core new after)
      → EndsBy tx done (worker_and_core old before) made (worker_and_core new after)
  ends (step.Ended why) is = lacked (step.Ended why) is
  ends step.Called is = committed _ old.work.job is
  ends step.Replied is = committed _ old.work.job is
  ends (step.Begun a) is = committed _ old.work.job is
  ends (step.Wanted a b c) is = committed _ old.work.job is
  ends (step.Claimed a b) is = committed _ old.work.job is
  ends (step.Fetched a) is = committed _ old.work.job is
  ends (step.FetchFailed a) is = committed _ old.work.job is
  ends (step.Commit a b) is = committed _ old.work.job is
  ends (step.Stable a b) is = committed _ old.work.job is
  ends (step.Read a b) is = committed _ old.work.job is
  ends (step.LogNext a) is = committed _ old.work.job is
  ends (step.LogIo a) is = committed _ old.work.job is
  ends (step.LogDone a) is = committed _ old.work.job is
  ends (step.InstNext a) is = committed _ old.work.job is
  ends (step.InstIo a) is = committed _ old.work.job is
  ends (step.InstDone a) is = committed _ old.work.job is
