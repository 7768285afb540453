-- A worker has what its phase needs, once its commit was answered.
use Rattle.std.proofs.Common.{rules, ◌≡◌, sym, refl, subst, Bool, true, false, ◌&&◌, Option, Some}
use Rattle.std.proofs.Common.{None}
use Rattle.std.proofs.Common.{IfSome, is_some, true≢false}
use Rattle.nfs_spec.specs.Model.Calls.{is_answered_stable}
use Rattle.nfs_types.specs.declared.reply.Reply.{Reply}
use Rattle.txn.specs.declared.outcomes.Commit.{Commit}
use Rattle.txn.specs.declared.outcomes.Commit.TheVariants as commit
use Rattle.circ.specs.declared.log.outcomes.Seq.{Seq}
use Rattle.store_workers.specs.Phases.{is_served}
use Rattle.store_workers.specs.Worker.{IsHeld, IsSound}
use Rattle.store_workers.specs.WorkerAnswers.{after_commit, answered_or_waiting, with_entry}
use Rattle.store_workers.specs.declared.workers.parts.Job.{Job}
use Rattle.store_workers.specs.declared.workers.parts.State.{State}

-- answered or waiting
placed : (worker : State) (job : Job) (reply : Reply) (place : Seq) (stable : Bool) → IsHeld worker
    → IsSound (with_entry job reply (answered_or_waiting stable job reply place worker))
placed worker job reply place true held = search rules
placed worker job reply place false held = search rules

by_answer : {C : Type 0} (worker : State) (answer : Commit C) (reply : Reply) (job : Job)
    → worker.work.job ≡ Some job → IsHeld worker → IsSound (after_commit job reply answer worker)
by_answer worker (commit.Committed receipt) reply job job_is held =
    placed worker job reply receipt.place (is_answered_stable job.call) held
by_answer worker (commit.Full back same) reply job job_is held = search rules
by_answer worker (commit.Foreign back same) reply job job_is held = search rules
by_answer worker (commit.NoMemory back same error) reply job job_is held = search rules
by_answer worker (commit.Broken back same) reply job job_is held = search rules
by_answer worker (commit.Spent back same) reply job job_is held = search rules

by_job : {C : Type 0} (worker made : State) (answer : Commit C) (reply : Reply) (found : Option Job)
    → worker.work.job ≡ found → (is_served found && is_some worker.work.planner) ≡ true → IsHeld worker
    → IfSome found (λ job. made ≡ after_commit job reply answer worker) → IsSound made
by_job worker made answer reply None found planned held made_is = absurd (true≢false (sym planned))
by_job worker made answer reply (Some job) found planned held made_is =
    subst IsSound (sym made_is) (by_answer worker answer reply job found held)

pub committed_with : {C : Type 0} (worker made : State) (answer : Commit C) (reply : Reply) → IsHeld worker
    → IfSome worker.work.job (λ job. made ≡ after_commit job reply answer worker) → IsSound made
committed_with worker made answer reply held made_is =
    by_job worker made answer reply worker.work.job refl held.planned held made_is
