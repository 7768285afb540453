-- A step of a worker counts that memory was refused just where it tells so.
use Rattle.std.proofs.Common.{◌≡◌, ℕ, Bool, true, false, List, Option, Some, None, Ok, Err, ap}
use Rattle.objects.specs.declared.addr.Addr.{Addr}
use Rattle.objects.specs.declared.mode.Mode.{Mode}
use Rattle.disk.specs.declared.block.BlockNo.{BlockNo}
use Rattle.procs.specs.Outcome.{Outcome}
use Rattle.txn.specs.Core.{CoreState}
use Rattle.txn.specs.Fetch.{Fetch}
use Rattle.txn.specs.Group.{blocks_of}
use Rattle.txn.specs.Outcomes.{IsClaimed, IsCommit, IsWanted, unbegun}
use Rattle.txn.specs.declared.outcomes.BeginFault.{BeginFault}
use Rattle.txn.specs.declared.outcomes.BeginFault.TheVariants as fault
use Rattle.txn.specs.declared.outcomes.Claim.{Claim}
use Rattle.txn.specs.declared.outcomes.Claim.TheVariants as claim
use Rattle.txn.specs.declared.outcomes.Commit.{Commit}
use Rattle.txn.specs.declared.outcomes.Commit.TheVariants as commit
use Rattle.txn.specs.declared.outcomes.Want.{Want}
use Rattle.txn.specs.declared.outcomes.Want.TheVariants as want
use Rattle.store_promise.specs.Schedule.{next_refused, refused_after}
use Rattle.store_promise.specs.declared.events.Step.{Step}
use Rattle.store_promise.specs.declared.events.Step.TheVariants as step
use Rattle.store_workers.proofs.WorkCases.{Cases, by_cases}
use Rattle.store_workers.specs.WorkerAnswers.{claim_answer, committing_of, want_answer}
use Rattle.store_workers.specs.WorkerSteps.{GoesOn, WorkerAndCore, given_step, planned_of}
use Rattle.store_workers.specs.declared.workers.parts.Phase.{Phase}

count_of : (old new : CoreState) → new ≡ old → new.refused ≡ old.refused
count_of old new is = ap (λ (c : CoreState). c.refused) is

module _ (old new : CoreState) where
  not_begun : (why : BeginFault) → new ≡ unbegun why old
      → new.refused ≡ refused_after old.refused (step.Begun (Err why))
  not_begun fault.Broken is = count_of old new is
  not_begun fault.Spent is = count_of old new is
  not_begun (fault.NoMemory error) is = count_of (unbegun (fault.NoMemory error) old) new is

  wanted : (tx : ℕ) (addr : Addr) (mode : Mode) (answer : Want) → IsWanted old tx addr mode answer new
      → new.refused ≡ refused_after old.refused (step.Wanted addr mode (want_answer answer))
  wanted tx addr mode (want.Held back bytes) is = ap (λ (c : CoreState). c.refused) is.2.only
  wanted tx addr mode (want.Fetch back io) is = ap (λ (c : CoreState). c.refused) is.2.only
  wanted tx addr mode (want.Busy back) is = ap (λ (c : CoreState). c.refused) is.2
  wanted tx addr mode (want.Loading back) is = ap (λ (c : CoreState). c.refused) is.2
  wanted tx addr mode (want.Outside back) is = ap (λ (c : CoreState). c.refused) is.2
  wanted tx addr mode (want.NoMemory back error) is = ap (λ (c : CoreState). c.refused) is.2

  claimed : (tx : ℕ) (addr : Addr) (block : BlockNo) (answer : Claim) → IsClaimed old tx addr answer new
      → new.refused ≡ refused_after old.refused (step.Claimed block (claim_answer answer))
  claimed tx addr block (claim.Held back) is = ap (λ (c : CoreState). c.refused) is.2.only
  claimed tx addr block (claim.Busy back) is = ap (λ (c : CoreState). c.refused) is.2
  claimed tx addr block (claim.Loading back) is = ap (λ (c : CoreState). c.refused) is.2
  claimed tx addr block (claim.Outside back) is = ap (λ (c : CoreState). c.refused) is.2
  claimed tx addr block (claim.NoMemory back error) is = ap (λ (c : CoreState). c.refused) is.2

  committed : (tx : ℕ) (done : Outcome) (added : List BlockNo) (answer : Commit Outcome)
      → IsCommit old tx (planned_of done) done answer new
      → new.refused ≡ refused_after old.refused (step.Commit added (committing_of answer))
  committed tx done added (commit.Committed receipt) is = ap (λ (c : CoreState). c.refused) is.only
  committed tx done added (commit.Full back change) is = ap (λ (c : CoreState). c.refused) is.0.core
  committed tx done added (commit.Foreign back change) is = ap (λ (c : CoreState). c.refused) is.0.core
  committed tx done added (commit.NoMemory back change error) is = ap (λ (c : CoreState). c.refused) is.0.core
  committed tx done added (commit.Broken back change) is = ap (λ (c : CoreState). c.refused) is.0.core
  committed tx done added (commit.Spent back change) is = ap (λ (c : CoreState). c.refused) is.0.core

  given : (ok : Bool) (io : Fetch) → new.refused ≡ old.refused
      → new.refused ≡ refused_after old.refused (given_step ok io)
  given true io is = is
  given false io is = is

module _ (old new : WorkerAndCore) where
  abbrev Counts : Phase → Option Step → Type 0
  Counts phase made = new.core.refused ≡ next_refused old.core.refused made

  cases : Cases old new Counts
  cases = record {
    idle = λ is. ap (λ (s : WorkerAndCore). s.core.refused) is;
    reading = λ is. ap (λ (s : WorkerAndCore). s.core.refused) is;
    begun = λ job number job_is served has. ap (λ (c : CoreState). c.refused) has.core;
    not_begun = λ job why job_is served none core worker. not_begun old.core new.core why core;
    replied = λ job job_is served core worker. count_of old.core new.core core;
    wanted = λ tx addr mode made tx_is next has. wanted old.core new.core tx addr mode has.answer has.core;
    claimed = λ tx block made tx_is next has.
        claimed old.core new.core tx has.core.0 block has.answer has.core.2;
    committed = λ job tx done made tx_is next left job_is has.
        committed old.core new.core tx done (blocks_of done.written) has.answer has.core;
    lacked = λ tx made tx_is left has. ap (λ (c : CoreState). c.refused) has.core.only;
    given = λ ok io made io_is has. given old.core new.core ok io (ap (λ (c : CoreState). c.refused) has.only);
    refused = λ why job tx made job_is tx_is has. ap (λ (c : CoreState). c.refused) has.core.only;
    left = λ tx made tx_is has. ap (λ (c : CoreState). c.refused) has.core.only;
    waited = λ place made has. count_of old.core new.core has.core;
  }

  pub counts_refused : (made : Option Step) → GoesOn old.worker.phase old made new
      → new.core.refused ≡ next_refused old.core.refused made
  counts_refused made goes = by_cases old new Counts cases old.worker.phase made goes
