-- No step of a worker hands out a device call, or changes the boot number; one of the logger or of the installer
-- hands out as many as its side tells.
use Rattle.std.proofs.Common.{◌≡◌, ◌∙◌, ◌+◌, arith, refl, ap, ℕ, Bool, Option, Some, None}
use Rattle.objects.specs.declared.addr.Addr.{Addr}
use Rattle.objects.specs.declared.mode.Mode.{Mode}
use Rattle.wal_calls.specs.Callers.Steps.{InstComesBack, InstGoesOut, LogComesBack, LogGoesOut}
use Rattle.wal_calls.specs.Seats.Sides.{HandsOutNone, HasTurned, gone}
use Rattle.wal_calls.specs.declared.seats.turn.Turn.{Turn}
use Rattle.wal_calls.specs.declared.seats.turn.Turn.TheVariants as turn
use Rattle.procs.specs.Outcome.{Outcome}
use Rattle.store_promise.specs.declared.events.Step.{Step}
use Rattle.store_workers.proofs.WorkCases.{Cases, by_cases}
use Rattle.store_workers.specs.WorkerSteps.{GoesOn, WorkerAndCore, planned_of}
use Rattle.store_workers.specs.declared.workers.parts.Phase.{Phase}
use Rattle.txn.specs.Core.{CoreState}
use Rattle.txn.specs.Outcomes.{IsClaimed, IsCommit, IsWanted, unbegun}
use Rattle.txn.proofs.Answered.{unbegun_by}
use Rattle.txn.specs.declared.outcomes.Claim.{Claim}
use Rattle.txn.specs.declared.outcomes.Claim.TheVariants as claim
use Rattle.txn.specs.declared.outcomes.Commit.{Commit}
use Rattle.txn.specs.declared.outcomes.Commit.TheVariants as commit
use Rattle.txn.specs.declared.outcomes.Want.{Want}
use Rattle.txn.specs.declared.outcomes.Want.TheVariants as want
use Rattle.circ.specs.Log.Installer.{may_install}
use Rattle.circ.specs.Log.Io.{Io}
use Rattle.circ.specs.Log.Logger.{may_log}

-- ---- a step of a worker

-- the core has become one with the same counts and boot number
by : (old next new : CoreState) → new ≡ next → next.log_calls ≡ old.log_calls → next.inst_calls ≡ old.inst_calls
    → next.boot ≡ old.boot → HandsOutNone old new
by old next new is log inst boot = record {
  log = ap (λ (c : CoreState). c.log_calls) is ∙ log;
  inst = ap (λ (c : CoreState). c.inst_calls) is ∙ inst;
  boot = ap (λ (c : CoreState). c.boot) is ∙ boot;
}

same : (old new : CoreState) → new ≡ old → HandsOutNone old new
same old new is = by old old new is refl refl refl

module _ (old new : CoreState) where
  wanted : (tx : ℕ) (addr : Addr) (mode : Mode) (answer : Want) → IsWanted old tx addr mode answer new
      → HandsOutNone old new
  wanted tx addr mode (want.Held back bytes) is = by old _ new is.2.only refl refl refl
  wanted tx addr mode (want.Fetch back io) is = by old _ new is.2.only refl refl refl
  wanted tx addr mode (want.Busy back) is = same old new is.2
  wanted tx addr mode (want.Loading back) is = same old new is.2
  wanted tx addr mode (want.Outside back) is = same old new is.2
  wanted tx addr mode (want.NoMemory back error) is = by old _ new is.2 refl refl refl

  claimed : (tx : ℕ) (addr : Addr) (answer : Claim) → IsClaimed old tx addr answer new → HandsOutNone old new
  claimed tx addr (claim.Held back) is = by old _ new is.2.only refl refl refl
  claimed tx addr (claim.Busy back) is = same old new is.2
  claimed tx addr (claim.Loading back) is = same old new is.2
  claimed tx addr (claim.Outside back) is = same old new is.2
  claimed tx addr (claim.NoMemory back error) is = by old _ new is.2 refl refl refl

  committed : (tx : ℕ) (done : Outcome) (answer : Commit Outcome)
      → IsCommit old tx (planned_of done) done answer new → HandsOutNone old new
  committed tx done (commit.Committed receipt) is = by old _ new is.only refl refl refl
  committed tx done (commit.Full back same_change) is = same old new is.0.core
  committed tx done (commit.Foreign back same_change) is = same old new is.0.core
  committed tx done (commit.NoMemory back same_change error) is = by old _ new is.0.core refl refl refl
  committed tx done (commit.Broken back same_change) is = same old new is.0.core
  committed tx done (commit.Spent back same_change) is = same old new is.0.core

abbrev HandsOut : WorkerAndCore → WorkerAndCore → Phase → Option Step → Type 0
HandsOut old new phase made = HandsOutNone old.core new.core

cases : (old new : WorkerAndCore) → Cases old new (HandsOut old new)
cases old new = record {
  idle = λ is. same old.core new.core (ap (λ (s : WorkerAndCore). s.core) is);
  reading = λ is. same old.core new.core (ap (λ (s : WorkerAndCore). s.core) is);
  begun = λ job number job_is served has. by old.core _ new.core has.core refl refl refl;
  not_begun = λ job why job_is served no core worker.
      unbegun_by (λ (c : CoreState). new.core ≡ c → HandsOutNone old.core new.core) why old.core
      (same old.core new.core) (λ one. by old.core _ new.core one refl refl refl) core;
  replied = λ job job_is served core worker. same old.core new.core core;
  wanted = λ tx addr mode made tx_is next has. wanted old.core new.core tx addr mode has.answer has.core;
  claimed = λ tx block made tx_is next has. claimed old.core new.core tx has.core.0 has.answer has.core.2;
  committed = λ job tx done made tx_is next left job_is has. committed old.core new.core tx done has.answer has.core;
  lacked = λ tx made tx_is left has. by old.core _ new.core has.core.only refl refl refl;
  given = λ ok io made io_is has. by old.core _ new.core has.only refl refl refl;
  refused = λ why job tx made job_is tx_is has. by old.core _ new.core has.core.only refl refl refl;
  left = λ tx made tx_is has. by old.core _ new.core has.core.only refl refl refl;
  waited = λ place made has. same old.core new.core has.core;
}

pub hands_out_none : (old new : WorkerAndCore) (phase : Phase) (made : Option Step) → GoesOn phase old made new
    → HandsOutNone old.core new.core
hands_out_none old new phase made goes = by_cases old new (HandsOut old new) (cases old new) phase made goes

-- ---- a step of the logger, and of the installer

-- its side's count goes up by what it hands out; the other's stays, and so does the boot number
pub record HasCounted (log inst : ℕ) (old new : CoreState) : Type 0 where
  pub log_calls : new.log_calls ≡ old.log_calls + log
  pub inst_calls : new.inst_calls ≡ old.inst_calls + inst
  pub boot : new.boot ≡ old.boot

counted : (log inst : ℕ) (old next new : CoreState) → new ≡ next → next.log_calls ≡ old.log_calls + log
    → next.inst_calls ≡ old.inst_calls + inst → next.boot ≡ old.boot → HasCounted log inst old new
counted log inst old next new is log_is inst_is boot_is = record {
  log_calls = ap (λ (c : CoreState). c.log_calls) is ∙ log_is;
  inst_calls = ap (λ (c : CoreState). c.inst_calls) is ∙ inst_is;
  boot = ap (λ (c : CoreState). c.boot) is ∙ boot_is;
}

unmoved : (old new : CoreState) → new ≡ old → HasCounted 0 0 old new
unmoved old new is = counted 0 0 old old new is (omega arith) (omega arith) refl

module _ (old new : CoreState) where
  pub log_turned : (out : Option Io) (made : Option Bool) (turned : Turn) (next : Option Io) (later : Option Bool)
      → HasTurned may_log LogGoesOut LogComesBack old out made turned new next later
      → HasCounted (gone out next) 0 old new
  log_turned None made turn.Moved (Some io) later is = counted 1 0 old _ new is.0.core refl (omega arith) refl
  log_turned None made turn.Moved None later is = absurd is
  log_turned None made turn.Idle (Some io) later is = cc
  log_turned None made turn.Idle None later is = unmoved old new is.0
  log_turned None made turn.Broken (Some io) later is = cc
  log_turned None made turn.Broken None later is = unmoved old new is.0
  log_turned (Some io) None turn.Idle next later is = unmoved old new is.0
  log_turned (Some io) None turn.Moved next later is = absurd is
  log_turned (Some io) None turn.Broken next later is = absurd is
  log_turned (Some io) (Some ok) turn.Moved next later is =
      counted 0 0 old _ new is.0.core (omega arith) (omega arith) refl
  log_turned (Some io) (Some ok) turn.Idle next later is = absurd is
  log_turned (Some io) (Some ok) turn.Broken next later is = absurd is

  pub inst_turned : (out : Option Io) (made : Option Bool) (turned : Turn) (next : Option Io) (later : Option Bool)
      → HasTurned may_install InstGoesOut InstComesBack old out made turned new next later
      → HasCounted 0 (gone out next) old new
  inst_turned None made turn.Moved (Some io) later is = counted 0 1 old _ new is.0.core (omega arith) refl refl
  inst_turned None made turn.Moved None later is = absurd is
  inst_turned None made turn.Idle (Some io) later is = cc
  inst_turned None made turn.Idle None later is = unmoved old new is.0
  inst_turned None made turn.Broken (Some io) later is = cc
  inst_turned None made turn.Broken None later is = unmoved old new is.0
  inst_turned (Some io) None turn.Idle next later is = unmoved old new is.0
  inst_turned (Some io) None turn.Moved next later is = absurd is
  inst_turned (Some io) None turn.Broken next later is = absurd is
  inst_turned (Some io) (Some ok) turn.Moved next later is =
      counted 0 0 old _ new is.0.core (omega arith) (omega arith) refl
  inst_turned (Some io) (Some ok) turn.Idle next later is = absurd is
  inst_turned (Some io) (Some ok) turn.Broken next later is = absurd is
