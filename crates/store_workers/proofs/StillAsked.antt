-- The call of a worker can be spelled still after a step.
use Rattle.std.proofs.Common.{◌≡◌, ◌∙◌, refl, ap, subst, sym, Bool, true, false, Option, Some, None, IfSome}
use Rattle.std.specs.Prelude.{IsSomeAnd}
use Rattle.nfs_types.specs.declared.reply.Reply.{Reply}
use Rattle.procs.specs.Outcome.{Outcome}
use Rattle.txn.specs.declared.outcomes.Commit.{Commit}
use Rattle.txn.specs.declared.outcomes.Commit.TheVariants as commit
use Rattle.circ.specs.declared.log.outcomes.Seq.{Seq}
use Rattle.store_promise.specs.declared.answers.Verdict.TheVariants as verdict
use Rattle.store_promise.specs.declared.events.Step.{Step}
use Rattle.store_workers.specs.Stages.{HasSoundJob, IsJobOf}
use Rattle.store_workers.specs.WorkerAnswers.{after_commit, with_answer}
use Rattle.store_workers.specs.WorkerSteps.{GoesOn, IsReplySent, WorkerAndCore, none_begun, numbered, with_snap}
use Rattle.store_workers.specs.declared.workers.parts.Job.{Job}
use Rattle.store_workers.specs.declared.workers.parts.Phase.{Phase}
use Rattle.store_workers.specs.declared.workers.parts.State.{State}
use Rattle.store_workers.proofs.WorkCases.{Cases, by_cases}

-- whoever waits has the call that it had
job_stays : (place : Seq) (settled broken : Bool) (old new : State) → IsReplySent settled broken place old new
    → new.work.job ≡ old.work.job
job_stays place true broken old new has = by old.work.reply has
  where
    by : (found : Option Reply) → IsSomeAnd found (λ reply. new
        ≡ with_answer (verdict.Reply reply) (Some place) (record old { work = record old.work { reply = None } }))
        → new.work.job ≡ old.work.job
    by None has = absurd has
    by (Some reply) has = ap (λ (s : State). s.work.job) has
job_stays place false true old new has = by old.work.broken_reply has
  where
    by : (found : Option Reply) → IsSomeAnd found (λ reply. new
        ≡ with_answer (verdict.Reply reply) (Some place)
        (record old { work = record old.work { broken_reply = None } }))
        → new.work.job ≡ old.work.job
    by None has = absurd has
    by (Some reply) has = ap (λ (s : State). s.work.job) has
job_stays place false false old new has = ap (λ (s : State). s.work.job) has

module _ (old new : WorkerAndCore) (asked : HasSoundJob old.worker) where
  has_job : (job : Option Job) → new.worker.work.job ≡ job → IfSome job IsJobOf → HasSoundJob new.worker
  has_job job is sound = subst (λ (j : Option Job). IfSome j IsJobOf) (sym is) sound

  -- it is the one that it had
  same : new.worker.work.job ≡ old.worker.work.job → HasSoundJob new.worker
  same is = has_job old.worker.work.job is asked

  by_worker : (worker : State) → new.worker ≡ worker → worker.work.job ≡ old.worker.work.job
      → HasSoundJob new.worker
  by_worker worker is job_is = same (ap (λ (s : State). s.work.job) is ∙ job_is)

  commits : (job : Job) (reply : Reply) (base : State) (answer : Commit Outcome)
      → base.work.job ≡ old.worker.work.job → new.worker ≡ after_commit job reply answer base
      → HasSoundJob new.worker
  commits job reply base (commit.Committed receipt) base_is is =
      has_job None (ap (λ (s : State). s.work.job) is) tt
  commits job reply base (commit.Full back change) base_is is = by_worker _ is base_is
  commits job reply base (commit.Foreign back change) base_is is = by_worker _ is base_is
  commits job reply base (commit.NoMemory back change error) base_is is = by_worker _ is base_is
  commits job reply base (commit.Broken back change) base_is is = by_worker _ is base_is
  commits job reply base (commit.Spent back change) base_is is = by_worker _ is base_is

  cases : Cases old new (λ phase made. HasSoundJob new.worker)
  cases = record {
    idle = λ is. same (ap (λ (s : WorkerAndCore). s.worker.work.job) is);
    reading = λ is. same (ap (λ (s : WorkerAndCore). s.worker.work.job) is);
    begun = λ job number job_is served has. has_job (Some (numbered old.core.boot number job))
        (ap (λ (s : State). s.work.job) has.worker)
        (subst (λ (j : Option Job). IfSome j IsJobOf) job_is asked);
    not_begun = λ job why job_is served none core worker. by_worker _ worker refl;
    replied = λ job job_is served core worker. by_worker _ worker refl;
    wanted = λ tx addr mode made tx_is next has. by_worker _ has.worker refl;
    claimed = λ tx block made tx_is next has. by_worker _ has.worker refl;
    committed = λ job tx done made tx_is next none job_is has. commits job done.reply
        (record (with_snap new.worker old.worker) { begun = none_begun }) has.answer refl has.worker;
    lacked = λ tx made tx_is none has. by_worker _ has.worker refl;
    given = λ ok io made io_is has. by_worker _ has.worker refl;
    refused = λ why job tx made job_is tx_is has. by_worker _ has.worker refl;
    left = λ tx made tx_is has. by_worker _ has.worker refl;
    waited = λ place made has. same (job_stays place has.settled old.core.log.broken old.worker new.worker has.is_reply_sent);
  }

  pub still_asked : (phase : Phase) (made : Option Step) → GoesOn phase old made new → HasSoundJob new.worker
  still_asked phase made goes = by_cases old new (λ phase made. HasSoundJob new.worker) cases phase made goes
