-- What a worker reads after a step is a block of the image, if what it read before was one.
use Rattle.std.proofs.Common.{◌≡◌, ◌∙◌, ◌<◌, refl, sym, ap, subst, ℕ, Bool, true, false, Option, Some, None}
use Rattle.std.specs.Prelude.{IfSome, IsSomeAnd}
use Rattle.disk.specs.declared.block.BlockNo.{BlockNo}
use Rattle.objects.specs.declared.addr.Addr.{Addr}
use Rattle.objects.specs.declared.mode.Mode.{Mode}
use Rattle.nfs_spec.specs.Model.Calls.{is_answered_stable}
use Rattle.nfs_types.specs.declared.reply.Reply.{Reply}
use Rattle.procs.specs.Outcome.{Outcome}
use Rattle.txn.specs.Outcomes.{IsWanted}
use Rattle.txn.specs.declared.outcomes.Claim.{Claim}
use Rattle.txn.specs.declared.outcomes.Claim.TheVariants as claim
use Rattle.txn.specs.declared.outcomes.Commit.{Commit}
use Rattle.txn.specs.declared.outcomes.Commit.TheVariants as commit
use Rattle.txn.specs.declared.outcomes.Want.{Want}
use Rattle.txn.specs.declared.outcomes.Want.TheVariants as want
use Rattle.txn_law.specs.Fetch.{Fetch}
use Rattle.circ.specs.declared.log.outcomes.Seq.{Seq}
use Rattle.store_promise.specs.declared.answers.Verdict.TheVariants as verdict
use Rattle.store_promise.specs.declared.events.Step.{Step}
use Rattle.store_workers.proofs.HowFar.{without_broken_reply, without_reply}
use Rattle.store_workers.proofs.WorkCases.{Cases, by_cases}
use Rattle.store_workers.specs.Worker.{ReadsWithin}
use Rattle.store_workers.specs.WorkerAnswers.{after_commit, begun_claimed, begun_wanted, answered_or_waiting, with_answer}
use Rattle.store_workers.specs.WorkerAnswers.{with_entry}
use Rattle.store_workers.specs.WorkerSteps.{GoesOn, IsReplySent, WorkerAndCore, none_begun, with_snap}
use Rattle.store_workers.specs.declared.workers.parts.Begun.{Begun}
use Rattle.store_workers.specs.declared.workers.parts.Job.{Job}
use Rattle.store_workers.specs.declared.workers.parts.Phase.{Phase}
use Rattle.store_workers.specs.declared.workers.parts.State.{State}

module _ (old new : WorkerAndCore) where
  abbrev blocks : ℕ
  blocks = old.core.log.blocks

  abbrev Within : Phase → Option Step → Type 0
  Within phase made = ReadsWithin blocks old.worker → ReadsWithin blocks new.worker

  -- by what it fetches then
  by_io : (io : Option Fetch) → new.worker.begun.io ≡ io → IfSome io (λ one. one.block.0 < blocks)
      → ReadsWithin blocks new.worker
  by_io io is within = subst (λ (found : Option Fetch). IfSome found (λ one. one.block.0 < blocks)) (sym is) within

  wanted_within : (tx : ℕ) (addr : Addr) (mode : Mode) (answer : Want)
      → IsWanted old.core tx addr mode answer new.core
      → IfSome (begun_wanted answer).io (λ one. one.block.0 < blocks)
  wanted_within tx addr mode (want.Fetch back io) is =
      subst (λ (b : BlockNo). b.0 < blocks) (sym is.2.block) is.1.inside.home.1
  wanted_within tx addr mode (want.Held back bytes) is = tt
  wanted_within tx addr mode (want.Busy back) is = tt
  wanted_within tx addr mode (want.Loading back) is = tt
  wanted_within tx addr mode (want.Outside back) is = tt
  wanted_within tx addr mode (want.NoMemory back error) is = tt

  claimed_none : (answer : Claim) → (begun_claimed answer).io ≡ None
  claimed_none (claim.Held back) = refl
  claimed_none (claim.Busy back) = refl
  claimed_none (claim.Loading back) = refl
  claimed_none (claim.Outside back) = refl
  claimed_none (claim.NoMemory back error) = refl

  placed_none : (job : Job) (reply : Reply) (place : Seq) (base : State) (stable : Bool)
      → (with_entry job reply (answered_or_waiting stable job reply place base)).begun ≡ base.begun
  placed_none job reply place base true = refl
  placed_none job reply place base false = refl

  committed_none : (job : Job) (reply : Reply) (base : State) (answer : Commit Outcome)
      → base.begun ≡ none_begun → (after_commit job reply answer base).begun.io ≡ None
  committed_none job reply base (commit.Committed receipt) none =
      ap (λ (b : Begun). b.io) (placed_none job reply receipt.place base (is_answered_stable job.call) ∙ none)
  committed_none job reply base (commit.Full back change) none = refl
  committed_none job reply base (commit.Foreign back change) none = refl
  committed_none job reply base (commit.NoMemory back change error) none = refl
  committed_none job reply base (commit.Broken back change) none = refl
  committed_none job reply base (commit.Spent back change) none = refl

  waited_same : (place : Seq) (settled broken : Bool) → IsReplySent settled broken place old.worker new.worker
      → new.worker.begun.io ≡ old.worker.begun.io
  waited_same place settled broken reply_sent = by settled broken reply_sent
    where
      heard : (base : State) → base.begun ≡ old.worker.begun → (found : Option Reply)
          → IsSomeAnd found (λ reply. new.worker ≡ with_answer (verdict.Reply reply) (Some place) base)
          → new.worker.begun.io ≡ old.worker.begun.io
      heard base same None is = absurd is
      heard base same (Some reply) is = ap (λ (s : State). s.begun.io) is ∙ ap (λ (b : Begun). b.io) same

      by : (settled broken : Bool) → IsReplySent settled broken place old.worker new.worker
          → new.worker.begun.io ≡ old.worker.begun.io
      by true broken is = heard (without_reply old.worker) refl old.worker.work.reply is
      by false true is =
          heard (without_broken_reply old.worker) refl old.worker.work.broken_reply is
      by false false is = ap (λ (s : State). s.begun.io) is

  cases : Cases old new Within
  cases = record {
    idle = λ is within. by_io _ (ap (λ (s : WorkerAndCore). s.worker.begun.io) is) within;
    reading = λ is within. by_io _ (ap (λ (s : WorkerAndCore). s.worker.begun.io) is) within;
    begun = λ job one job_is served has within. by_io _ (ap (λ (s : State). s.begun.io) has.worker) tt;
    not_begun = λ job why job_is served none core is within. by_io _ (ap (λ (s : State). s.begun.io) is) within;
    replied = λ job job_is served core is within. by_io _ (ap (λ (s : State). s.begun.io) is) within;
    wanted = λ tx addr mode made tx_is next has within. by_io _ (ap (λ (s : State). s.begun.io) has.worker)
        (wanted_within tx addr mode has.answer has.core);
    claimed = λ tx block made tx_is next has within. by_io None
        (ap (λ (s : State). s.begun.io) has.worker ∙ claimed_none has.answer) tt;
    committed = λ job tx done made tx_is next none job_is has within. by_io None
        (ap (λ (s : State). s.begun.io) has.worker
        ∙ committed_none job done.reply (record (with_snap new.worker old.worker) { begun = none_begun }) has.answer
        refl) tt;
    lacked = λ tx made tx_is none has within. by_io None (ap (λ (s : State). s.begun.io) has.worker) tt;
    given = λ ok io made io_is has within. by_io None (ap (λ (s : State). s.begun.io) has.worker) tt;
    refused = λ why job tx made job_is tx_is has within. by_io None (ap (λ (s : State). s.begun.io) has.worker) tt;
    left = λ tx made tx_is has within. by_io None (ap (λ (s : State). s.begun.io) has.worker) tt;
    waited = λ place made has within. by_io _ (waited_same place has.settled old.core.log.broken has.is_reply_sent) within;
  }

  pub stays_within : (made : Option Step) → GoesOn old.worker.phase old made new
      → ReadsWithin blocks old.worker → ReadsWithin blocks new.worker
  stays_within made goes within = by_cases old new Within cases old.worker.phase made goes within
