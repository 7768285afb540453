-- What a transaction holds for reading stays as a plan's end is made, but for that of the transaction that ends.
use Rattle.std.proofs.Common.{◌≡◌, ◌∙◌, ℕ, Bool, true, false, Option, Some, None, refl, sym, ap, subst}
use Rattle.nfs_spec.specs.Model.Calls.{is_answered_stable}
use Rattle.nfs_types.specs.declared.reply.Reply.{Reply}
use Rattle.procs.specs.Outcome.{Outcome}
use Rattle.store_promise.specs.declared.events.Step.{Step}
use Rattle.store_workers.proofs.StepKinds.{committed, ending, lacked}
use Rattle.store_workers.specs.WorkerAnswers.{after_commit, answered_or_waiting}
use Rattle.store_workers.specs.WorkerSteps.{EndsBy, WorkerAndCore, none_begun, planned_of, with_snap}
use Rattle.store_workers.specs.declared.workers.parts.Job.{Job}
use Rattle.store_workers.specs.declared.workers.parts.State.{State}
use Rattle.txn.specs.Commit.{IsReadBy}
use Rattle.txn.specs.Core.{CoreState, with_refused}
use Rattle.txn.specs.CoreWindow.{PreservesReads}
use Rattle.txn.specs.Outcomes.{IsCommit}
use Rattle.txn_law.proofs.HeldReads.{reads_refused}
use Rattle.txn.specs.declared.outcomes.Commit.{Commit}
use Rattle.txn.specs.declared.outcomes.Commit.TheVariants as commit
use Rattle.circ.specs.declared.log.outcomes.Seq.{Seq}

begun_of_answered : (stable : Bool) (job : Job) (reply : Reply) (place : Seq) (state : State)
    → (answered_or_waiting stable job reply place state).begun ≡ state.begun
begun_of_answered true job reply place state = refl
begun_of_answered false job reply place state = refl

module _ (old new : WorkerAndCore) (tx : ℕ) (done : Outcome)
    (stays : (other : ℕ) → (other ≡ tx → ⊥) → PreservesReads old.core new.core other)
    (other : ℕ) (goes_on : other ≡ tx → new.worker.begun.tx ≡ Some other) where
  -- the worker has no transaction any more
  gone : new.worker.begun.tx ≡ None → PreservesReads old.core new.core other
  gone none = stays other (λ same. let never : None ≡ Some other = sym none ∙ goes_on same in cc)

  -- nothing has changed in the core
  unchanged : new.core ≡ old.core → PreservesReads old.core new.core other
  unchanged same object is = subst (λ (c : CoreState). IsReadBy c other object) (sym same) is

  -- nor has anything but how often memory was refused
  refused : new.core ≡ with_refused old.core → PreservesReads old.core new.core other
  refused one object is = subst (λ (c : CoreState). IsReadBy c other object) (sym one)
      (reads_refused old.core other object is)

  -- a commit was answered so
  by_answer : (job : Job) (answer : Commit Outcome)
      → IsCommit old.core tx (planned_of done) done answer new.core
      → new.worker ≡ after_commit job done.reply answer (record (with_snap new.worker old.worker) { begun = none_begun })
      → PreservesReads old.core new.core other
  by_answer job (commit.Committed receipt) core worker =
      gone (ap (λ (s : State). s.begun.tx) worker
      ∙ ap (λ b. b.tx) (begun_of_answered (is_answered_stable job.call) job done.reply receipt.place
      (record (with_snap new.worker old.worker) { begun = none_begun })))
  by_answer job (commit.Full back same) core worker = unchanged core.0.core
  by_answer job (commit.Foreign back same) core worker = unchanged core.0.core
  by_answer job (commit.NoMemory back same error) core worker = refused core.0.core
  by_answer job (commit.Broken back same) core worker = unchanged core.0.core
  by_answer job (commit.Spent back same) core worker = unchanged core.0.core

  pub end_stays : (made : Step) → EndsBy tx done old made new → PreservesReads old.core new.core other
  end_stays made end = elim (ending old new tx done made end) [
    | lacked has ↦ gone (ap (λ (s : State). s.begun.tx) has.worker)
    | committed job job_is has ↦ by_answer job has.answer has.core has.worker
  ]
