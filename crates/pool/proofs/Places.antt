-- A step of a worker takes a place just where it is told that its change was committed.
use Rattle.std.proofs.Common.{arith, ◌≡◌, ◌∙◌, ap, ℕ, ◌+◌, Bool, true, false, Option, Some, Err}
use Rattle.objects.specs.declared.addr.Addr.{Addr}
use Rattle.objects.specs.declared.mode.Mode.{Mode}
use Rattle.procs.specs.Outcome.{Outcome}
use Rattle.store_promise.specs.declared.events.Step.{Step}
use Rattle.store_promise.specs.declared.events.Step.TheVariants as step
use Rattle.store_workers.proofs.WorkCases.{Cases, by_cases}
use Rattle.store_workers.specs.WorkerAnswers.{claim_answer, committing_of, want_answer}
use Rattle.store_workers.specs.WorkerSteps.{GoesOn, WorkerAndCore, given_step, planned_of}
use Rattle.store_workers.specs.declared.workers.parts.Phase.{Phase}
use Rattle.store_workers.specs.declared.workers.parts.Phase.TheVariants.{Called}
use Rattle.txn.specs.Core.{CoreState}
use Rattle.txn.specs.Outcomes.{IsClaimed, IsCommit, IsWanted, unbegun}
use Rattle.txn.proofs.Answered.{unbegun_by}
use Rattle.txn.specs.declared.outcomes.Claim.{Claim}
use Rattle.txn.specs.declared.outcomes.Claim.TheVariants as claim
use Rattle.txn.specs.declared.outcomes.Commit.{Commit}
use Rattle.txn.specs.declared.outcomes.Commit.TheVariants as commit
use Rattle.txn.specs.declared.outcomes.Want.{Want}
use Rattle.txn.specs.declared.outcomes.Want.TheVariants as want
use Rattle.pool.specs.Stepping.{grown, result_of_step, result_of_commit, result_of_lock_answer}

abbrev places : CoreState → ℕ
places core = core.log.places

none : (old new : CoreState) → places new ≡ places old → places new ≡ places old + 0
none old new is = is ∙ omega arith

same : (old new : CoreState) → new ≡ old → places new ≡ places old + 0
same old new is = none old new (ap places is)

module _ (old new : CoreState) where
  wanted : (tx : ℕ) (addr : Addr) (mode : Mode) (answer : Want) → IsWanted old tx addr mode answer new
      → places new ≡ places old + grown (result_of_lock_answer (want_answer answer))
  wanted tx addr mode (want.Held back bytes) is = none old new (ap places is.2.only)
  wanted tx addr mode (want.Fetch back io) is = none old new (ap places is.2.only)
  wanted tx addr mode (want.Busy back) is = same old new is.2
  wanted tx addr mode (want.Loading back) is = same old new is.2
  wanted tx addr mode (want.Outside back) is = same old new is.2
  wanted tx addr mode (want.NoMemory back error) is = none old new (ap places is.2)

  claimed : (tx : ℕ) (addr : Addr) (answer : Claim) → IsClaimed old tx addr answer new
      → places new ≡ places old + grown (result_of_lock_answer (claim_answer answer))
  claimed tx addr (claim.Held back) is = none old new (ap places is.2.only)
  claimed tx addr (claim.Busy back) is = same old new is.2
  claimed tx addr (claim.Loading back) is = same old new is.2
  claimed tx addr (claim.Outside back) is = same old new is.2
  claimed tx addr (claim.NoMemory back error) is = none old new (ap places is.2)

  committed : (tx : ℕ) (done : Outcome) (answer : Commit Outcome)
      → IsCommit old tx (planned_of done) done answer new
      → places new ≡ places old + grown (result_of_commit (committing_of answer))
  committed tx done (commit.Committed receipt) is = is.places
  committed tx done (commit.Full back same_change) is = same old new is.0.core
  committed tx done (commit.Foreign back same_change) is = same old new is.0.core
  committed tx done (commit.NoMemory back same_change error) is = none old new (ap places is.0.core)
  committed tx done (commit.Broken back same_change) is = same old new is.0.core
  committed tx done (commit.Spent back same_change) is = same old new is.0.core

given : (ok : Bool) (io : _) (old new : CoreState) → places new ≡ places old
    → places new ≡ places old + grown (result_of_step (Some (given_step ok io)))
given true io old new is = none old new is
given false io old new is = none old new is

abbrev TakesPlaces : WorkerAndCore → WorkerAndCore → Phase → Option Step → Type 0
TakesPlaces old new phase made = places new.core ≡ places old.core + grown (result_of_step made)

cases : (old new : WorkerAndCore) → Cases old new (TakesPlaces old new)
cases old new = record {
  idle = λ is. same old.core new.core (ap (λ (s : WorkerAndCore). s.core) is);
  reading = λ is. same old.core new.core (ap (λ (s : WorkerAndCore). s.core) is);
  begun = λ job number job_is served has. none old.core new.core (ap places has.core);
  not_begun = λ job why job_is served no core worker.
      unbegun_by (λ (c : CoreState). new.core ≡ c → TakesPlaces old new Called (Some (step.Begun (Err why)))) why old.core
      (λ is. none old.core new.core (ap places is)) (λ one. none old.core new.core (ap places one)) core;
  replied = λ job job_is served core worker. same old.core new.core core;
  wanted = λ tx addr mode made tx_is next has. wanted old.core new.core tx addr mode has.answer has.core;
  claimed = λ tx block made tx_is next has. claimed old.core new.core tx has.core.0 has.answer has.core.2;
  committed = λ job tx done made tx_is next left job_is has. committed old.core new.core tx done has.answer has.core;
  lacked = λ tx made tx_is left has. none old.core new.core (ap places has.core.only);
  given = λ ok io made io_is has. given ok io old.core new.core (ap places has.only);
  refused = λ why job tx made job_is tx_is has. none old.core new.core (ap places has.core.only);
  left = λ tx made tx_is has. none old.core new.core (ap places has.core.only);
  waited = λ place made has. same old.core new.core has.core;
}

pub takes_places : (old new : WorkerAndCore) (phase : Phase) (made : Option Step) → GoesOn phase old made new
    → new.core.log.places ≡ old.core.log.places + grown (result_of_step made)
takes_places old new phase made goes = by_cases old new (TakesPlaces old new) (cases old new) phase made goes
