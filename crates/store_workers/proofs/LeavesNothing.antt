-- A worker that isn't kept off has nothing left to be taken again after its steps, where it had nothing before.
use Rattle.std.proofs.Common.{◌≡◌, sym, ap, subst, true≢false, Bool, true, false, Option, Some, None}
use Rattle.std.proofs.Common.{List, [], drop}
use Rattle.disk.specs.declared.block.BlockNo.{BlockNo}
use Rattle.objects.specs.declared.addr.Addr.{Addr}
use Rattle.objects.specs.declared.mode.Mode.{Mode}
use Rattle.nfs_spec.specs.Model.Calls.{is_answered_stable}
use Rattle.nfs_types.specs.declared.reply.Reply.{Reply}
use Rattle.std.specs.Prelude.{IsSomeAnd}
use Rattle.procs.specs.Outcome.{Outcome}
use Rattle.txn.specs.Group.{blocks_of}
use Rattle.txn.specs.declared.outcomes.Claim.{Claim}
use Rattle.txn.specs.declared.outcomes.Claim.TheVariants as claim
use Rattle.txn.specs.declared.outcomes.Commit.{Commit}
use Rattle.txn.specs.declared.outcomes.Commit.TheVariants as commit
use Rattle.txn.specs.declared.outcomes.Want.{Want}
use Rattle.txn.specs.declared.outcomes.Want.TheVariants as want
use Rattle.circ.specs.declared.log.outcomes.Seq.{Seq}
use Rattle.store_promise.specs.declared.lock_requests.LockRequest.{LockRequest}
use Rattle.store_promise.specs.declared.answers.Verdict.TheVariants as verdict
use Rattle.store_promise.specs.declared.events.Step.{Step}
use Rattle.store_promise.specs.declared.events.Step.TheVariants as step
use Rattle.store_workers.proofs.HowFar.{without_broken_reply, without_reply}
use Rattle.store_workers.proofs.WorkCases.{Cases, by_cases}
use Rattle.store_workers.specs.Single.{LeavesNothing, is_deferred}
use Rattle.store_workers.specs.Knowing.{Knowing, given_back}
use Rattle.store_workers.specs.WorkerAnswers.{after_commit, claim_answer, committing_of, known_claimed, known_wanted}
use Rattle.store_workers.specs.WorkerAnswers.{phase_claimed, phase_wanted, answered_or_waiting, want_answer, with_answer}
use Rattle.store_workers.specs.WorkerAnswers.{with_entry}
use Rattle.store_workers.specs.WorkerSteps.{GoesOn, IsReplySent, WorkerAndCore, Waits}
use Rattle.store_workers.specs.WorkerSteps.{none_begun, phase_given, with_snap}
use Rattle.store_workers.specs.declared.workers.parts.Job.{Job}
use Rattle.store_workers.specs.declared.workers.parts.Phase.{Phase}
use Rattle.store_workers.specs.declared.workers.parts.Phase.TheVariants.{Idle}
use Rattle.store_workers.specs.declared.workers.parts.Phase.TheVariants.{Reading}
use Rattle.store_workers.specs.declared.workers.parts.Phase.TheVariants.{Waiting}
use Rattle.store_workers.specs.declared.workers.parts.State.{State}

module _ (old new : WorkerAndCore) where
  abbrev knowing : Knowing
  knowing = old.worker.known

  abbrev LeftSo : Phase → Option Step → Type 0
  LeftSo phase made = old.worker.phase ≡ phase → LeavesNothing phase knowing → is_deferred made ≡ false
      → LeavesNothing new.worker.phase new.worker.known

  -- what was made of the worker leaves nothing
  of_state : (state : State) → new.worker ≡ state → LeavesNothing state.phase state.known
      → LeavesNothing new.worker.phase new.worker.known
  of_state state is nothing = subst (λ (s : State). LeavesNothing s.phase s.known) (sym is) nothing

  rests : (phase : Phase) → new ≡ old → LeftSo phase None
  rests phase is at nothing is_preserved = of_state old.worker (ap (λ (s : WorkerAndCore). s.worker) is)
      (subst (λ (p : Phase). LeavesNothing p knowing) (sym at) nothing)

  wants : (addr : Addr) (mode : Mode) (answer : Want) (has_space : Bool) → knowing.left ≡ []
      → is_deferred (Some (step.Wanted addr mode (want_answer answer))) ≡ false
      → LeavesNothing (phase_wanted addr mode answer knowing) (known_wanted addr mode answer (record knowing { has_space = has_space }))
  wants addr mode (want.Held back bytes) has_space left is_preserved = ap (λ (xs : List LockRequest). drop 1 xs) left
  wants addr mode (want.Fetch back io) has_space left is_preserved = ap (λ (xs : List LockRequest). drop 1 xs) left
  wants addr mode (want.Busy back) has_space left is_preserved = absurd (true≢false is_preserved)
  wants addr mode (want.Loading back) has_space left is_preserved = absurd (true≢false is_preserved)
  wants addr mode (want.Outside back) has_space left is_preserved = tt
  wants addr mode (want.NoMemory back error) has_space left is_preserved = tt

  claims : (block : BlockNo) (answer : Claim) (has_space : Bool) → knowing.left ≡ []
      → is_deferred (Some (step.Claimed block (claim_answer answer))) ≡ false
      → LeavesNothing (phase_claimed block answer knowing)
      (known_claimed block answer (record knowing { has_space = has_space }))
  claims block (claim.Held back) has_space left is_preserved = ap (λ (xs : List LockRequest). drop 1 xs) left
  claims block (claim.Busy back) has_space left is_preserved = absurd (true≢false is_preserved)
  claims block (claim.Loading back) has_space left is_preserved = absurd (true≢false is_preserved)
  claims block (claim.Outside back) has_space left is_preserved = tt
  claims block (claim.NoMemory back error) has_space left is_preserved = tt

  commits : (job : Job) (reply : Reply) (added : List BlockNo) (answer : Commit Outcome) (base : State)
      → base.known.left ≡ []
      → is_deferred (Some (step.Commit added (committing_of answer))) ≡ false
      → LeavesNothing (after_commit job reply answer base).phase (after_commit job reply answer base).known
  commits job reply added (commit.Committed receipt) base left is_preserved = by (is_answered_stable job.call)
    where
      by : (stable : Bool) → LeavesNothing (with_entry job reply (answered_or_waiting stable job reply receipt.place base)).phase
          (with_entry job reply (answered_or_waiting stable job reply receipt.place base)).known
      by true = tt
      by false = tt
  commits job reply added (commit.Full back same) base left is_preserved = left
  commits job reply added (commit.Foreign back same) base left is_preserved = absurd (true≢false is_preserved)
  commits job reply added (commit.NoMemory back same error) base left is_preserved = tt
  commits job reply added (commit.Broken back same) base left is_preserved = tt
  commits job reply added (commit.Spent back same) base left is_preserved = tt

  gives : (ok : Bool) → knowing.left ≡ [] → LeavesNothing (phase_given ok) knowing
  gives true left = left
  gives false left = tt

  waits : (place : Seq) (made : Step) → (has : Waits place old made new)
      → LeftSo (Waiting place) (Some (step.Stable place has.settled))
  waits place made has at nothing is_preserved = by has.settled old.core.log.broken has.is_reply_sent
    where
      heard : (base : State) (found : Option Reply) → IsSomeAnd found (λ reply. new.worker
          ≡ with_answer (verdict.Reply reply) (Some place) base)
          → LeavesNothing new.worker.phase new.worker.known
      heard base None is = absurd is
      heard base (Some reply) is = of_state _ is tt

      by : (settled broken : Bool) → IsReplySent settled broken place old.worker new.worker
          → LeavesNothing new.worker.phase new.worker.known
      by true broken is = heard (without_reply old.worker) old.worker.work.reply is
      by false true is = heard (without_broken_reply old.worker) old.worker.work.broken_reply is
      by false false is = of_state old.worker is (subst (λ (p : Phase). LeavesNothing p knowing) (sym at) tt)

  cases : Cases old new LeftSo
  cases = record {
    idle = rests Idle;
    reading = rests Reading;
    begun = λ job number job_is rules has at nothing is_preserved. of_state _ has.worker
        (ap (λ (k : Knowing). (given_back k).left) nothing);
    not_begun = λ job why job_is rules none core worker at nothing is_preserved. of_state _ worker tt;
    replied = λ job job_is rules core worker at nothing is_preserved. of_state _ worker tt;
    wanted = λ tx addr mode made tx_is next has at nothing is_preserved. of_state _ has.worker
        (wants addr mode has.answer new.worker.known.has_space nothing is_preserved);
    claimed = λ tx block made tx_is next has at nothing is_preserved. of_state _ has.worker
        (claims block has.answer new.worker.known.has_space nothing is_preserved);
    committed = λ job tx done made tx_is next none job_is has at nothing is_preserved. of_state _ has.worker
        (commits job done.reply (blocks_of done.written) has.answer (record (with_snap new.worker old.worker) { begun = none_begun })
        nothing is_preserved);
    lacked = λ tx made tx_is none has at nothing is_preserved. of_state _ has.worker tt;
    given = λ ok io made io_is has at nothing is_preserved. of_state _ has.worker (gives ok nothing);
    refused = λ why job tx made job_is tx_is has at nothing is_preserved. of_state _ has.worker tt;
    left = λ tx made tx_is has at nothing is_preserved. of_state _ has.worker nothing;
    waited = waits;
  }

  pub leaves_nothing : (phase : Phase) (made : Option Step) → old.worker.phase ≡ phase
      → LeavesNothing phase knowing → is_deferred made ≡ false → GoesOn phase old made new
      → LeavesNothing new.worker.phase new.worker.known
  leaves_nothing phase made at nothing is_preserved goes = by_cases old new LeftSo cases phase made goes at nothing is_preserved
