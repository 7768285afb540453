-- What is told after a worker's step is what the store then has, and only a commit moves the log.
use Rattle.disk.specs.declared.block.BlockNo.{BlockNo}
use Rattle.std.proofs.Common.{List, ◌≡◌, ◌∙◌, refl, sym, ap, true≢false, ℕ, ◌+◌, ◌≤◌, Bool, true, false, Option, alloc_error}
use Rattle.std.proofs.Common.{Some, None}
use Rattle.std.proofs.Common.{Ok, Err, length}
use Rattle.objects.specs.declared.addr.Addr.{Addr}
use Rattle.objects.specs.declared.mode.Mode.{Mode}
use Rattle.procs.specs.Outcome.{Outcome}
use Rattle.txn.specs.Outcomes.{IsClaimed, IsCommit, IsWanted, TakesPlace, unbegun}
use Rattle.txn.specs.declared.outcomes.BeginFault.{BeginFault}
use Rattle.txn.specs.declared.outcomes.Claim.{Claim}
use Rattle.txn.specs.declared.outcomes.Claim.TheVariants as claim
use Rattle.txn.specs.declared.outcomes.Commit.{Commit}
use Rattle.txn.specs.declared.outcomes.Commit.TheVariants as commit
use Rattle.txn.specs.declared.outcomes.Want.{Want}
use Rattle.txn.specs.declared.outcomes.Want.TheVariants as want
use Rattle.txn_law.specs.Commit.{Planned}
use Rattle.txn_law.specs.Core.{CoreState, with_refused}
use Rattle.txn_law.specs.Fetch.{Fetch}
use Rattle.txn_law.specs.Group.{blocks_of}
use Rattle.txn_law.specs.LockAnswers.{TakesOnly}
use Rattle.circ.specs.Log.Log.{IsLawful, Log}
use Rattle.store_promise.specs.LogState.{LogState, with_commit}
use Rattle.store_promise.specs.OpenSince.{LeavesLogUnchanged}
use Rattle.store_promise.specs.Running.{IsRunState, StoreState, store_log_state}
use Rattle.store_promise.specs.Schedule.{Setting, RunState, next_refused, refused_after, state_after}
use Rattle.store_promise.specs.LogStateOf.{log_state_of}
use Rattle.store_promise.specs.declared.events.Committing.TheVariants as committing
use Rattle.store_promise.specs.declared.events.Ending.TheVariants as ending
use Rattle.store_promise.specs.declared.events.Event.TheVariants as event
use Rattle.store_promise.specs.declared.events.Step.{Step}
use Rattle.store_promise.specs.declared.events.Step.TheVariants as step
use Rattle.store_promise.proofs.LogStateOf.{commit_moves_log_state}
use Rattle.store_workers.proofs.CountsRefused.{counts_refused}
use Rattle.store_workers.proofs.WorkCases.{Cases, by_cases}
use Rattle.txn.proofs.Answered.{unbegun_by}
use Rattle.store.specs.Runs.AtWork.{has_committed, with_core}
use Rattle.store_workers.specs.WorkerAnswers.{claim_answer, committing_of, want_answer}
use Rattle.store_workers.specs.WorkerSteps.{GoesOn, HasAborted, HasBegun, HasGivenBack, WorkerAndCore, given_step}
use Rattle.store_workers.specs.WorkerSteps.{planned_of, worker_and_core}
use Rattle.store_workers.specs.declared.workers.parts.Job.{Job}
use Rattle.store_workers.specs.declared.workers.parts.Phase.{Phase}
use Rattle.store_workers.specs.declared.workers.parts.Phase.TheVariants.{Planning, Read}
use Rattle.store_workers.specs.declared.workers.parts.State.{State}

-- ---- beside the log

-- the log, the commits, the counts and the boot number are as they were
pub record IsUnchanged (old new : CoreState) : Type 0 where
  pub log_unchanged : LeavesLogUnchanged old new
  pub begun : new.begun ≡ old.begun

unchanged_of : (old new : CoreState) → new.log ≡ old.log → new.inodes ≡ old.inodes → new.records ≡ old.records
    → new.boot ≡ old.boot → new.begun ≡ old.begun → IsUnchanged old new
unchanged_of old new log inodes records boot begun =
    record { log_unchanged = record { log = log; inodes = inodes; records = records; boot = boot }; begun = begun }

same_core : (old new : CoreState) → new ≡ old → IsUnchanged old new
same_core old new is = unchanged_of old new (ap (λ (c : CoreState). c.log) is)
    (ap (λ (c : CoreState). c.inodes) is) (ap (λ (c : CoreState). c.records) is)
    (ap (λ (c : CoreState). c.boot) is) (ap (λ (c : CoreState). c.begun) is)

lacking : (old new : CoreState) → new ≡ with_refused old → IsUnchanged old new
lacking old new is = unchanged_of old new (ap (λ (c : CoreState). c.log) is)
    (ap (λ (c : CoreState). c.inodes) is) (ap (λ (c : CoreState). c.records) is)
    (ap (λ (c : CoreState). c.boot) is) (ap (λ (c : CoreState). c.begun) is)

not_begun : (why : BeginFault) (old new : CoreState) → new ≡ unbegun why old → IsUnchanged old new
not_begun why old new is =
    unbegun_by (λ (c : CoreState). new ≡ c → IsUnchanged old new) why old (same_core old new) (lacking old new) is

taken_only : (old new : CoreState) → TakesOnly old new → IsUnchanged old new
taken_only old new is = unchanged_of old new (ap (λ (c : CoreState). c.log) is)
    (ap (λ (c : CoreState). c.inodes) is) (ap (λ (c : CoreState). c.records) is)
    (ap (λ (c : CoreState). c.boot) is) (ap (λ (c : CoreState). c.begun) is)

aborted : (tx : ℕ) (old new : CoreState) → HasAborted tx old new → IsUnchanged old new
aborted tx old new has = unchanged_of old new (ap (λ (c : CoreState). c.log) has.only)
    (ap (λ (c : CoreState). c.inodes) has.only) (ap (λ (c : CoreState). c.records) has.only)
    (ap (λ (c : CoreState). c.boot) has.only) (ap (λ (c : CoreState). c.begun) has.only)

lacked : (tx : ℕ) (old new : CoreState) → HasAborted tx (with_refused old) new → IsUnchanged old new
lacked tx old new has = unchanged_of old new (ap (λ (c : CoreState). c.log) has.only)
    (ap (λ (c : CoreState). c.inodes) has.only) (ap (λ (c : CoreState). c.records) has.only)
    (ap (λ (c : CoreState). c.boot) has.only) (ap (λ (c : CoreState). c.begun) has.only)

given_back : (ok : Bool) (io : Fetch) (old : WorkerAndCore) (made : Step) (new : WorkerAndCore) → HasGivenBack ok io old made new
    → IsUnchanged old.core new.core
given_back ok io old made new has = unchanged_of old.core new.core (ap (λ (c : CoreState). c.log) has.only)
    (ap (λ (c : CoreState). c.inodes) has.only) (ap (λ (c : CoreState). c.records) has.only)
    (ap (λ (c : CoreState). c.boot) has.only) (ap (λ (c : CoreState). c.begun) has.only)

wanted : (old new : CoreState) (tx : ℕ) (addr : Addr) (mode : Mode) (answer : Want)
    → IsWanted old tx addr mode answer new → IsUnchanged old new
wanted old new tx addr mode (want.Held back bytes) is = taken_only old new is.2.only
wanted old new tx addr mode (want.Fetch back io) is = taken_only old new is.2.only
wanted old new tx addr mode (want.Busy back) is = same_core old new is.2
wanted old new tx addr mode (want.Loading back) is = same_core old new is.2
wanted old new tx addr mode (want.Outside back) is = same_core old new is.2
wanted old new tx addr mode (want.NoMemory back error) is = lacking old new is.2

claimed : (old new : CoreState) (tx : ℕ) (addr : Addr) (answer : Claim) → IsClaimed old tx addr answer new
    → IsUnchanged old new
claimed old new tx addr (claim.Held back) is = taken_only old new is.2.only
claimed old new tx addr (claim.Busy back) is = same_core old new is.2
claimed old new tx addr (claim.Loading back) is = same_core old new is.2
claimed old new tx addr (claim.Outside back) is = same_core old new is.2
claimed old new tx addr (claim.NoMemory back error) is = lacking old new is.2

-- ---- what is told

module _ (o : Setting) (run_state : RunState) (number : ℕ) (store : StoreState) (state_agrees : IsRunState o run_state store)
    (worker : State) (new : WorkerAndCore) where
  abbrev old : WorkerAndCore
  old = worker_and_core worker store.core

  abbrev later : Option Step → RunState
  later made = state_after run_state (event.Work number) made

  -- what is told, but for the count of refusals
  record IsLogOf (t : RunState) (next : StoreState) : Type 0 where
    log : t.log ≡ store_log_state o.position next
    begun : t.begun ≡ next.core.begun

  abbrev Tells : Phase → Option Step → Type 0
  Tells phase made = IsLogOf (later made) (with_core store new.core)

  is_preserved : (made : Option Step) → (later made).log ≡ run_state.log → (later made).begun ≡ run_state.begun
      → IsUnchanged store.core new.core → IsLogOf (later made) (with_core store new.core)
  is_preserved made log begun same = record {
    log = log ∙ state_agrees.log
        ∙ ap (λ (l : Log). log_state_of o.position l store.logging store.installing) (sym same.log_unchanged.log);
    begun = begun ∙ state_agrees.begun ∙ sym same.begun;
  }

  begun_agrees : (job : Job) (one : ℕ) → HasBegun job old one new → Tells Planning (Some (step.Begun (Ok one)))
  begun_agrees job one has = record {
    log = state_agrees.log ∙ ap (λ (c : CoreState). log_state_of o.position c.log store.logging store.installing)
        (sym has.core);
    begun = ap (λ (n : ℕ). n + 1) state_agrees.begun ∙ sym (ap (λ (c : CoreState). c.begun) has.core);
  }

  module _ (before : IsLawful store.core.log) (after : IsLawful new.core.log)
      (from : o.position ≤ store.core.log.start + length store.core.log.changes) where
    placed_agrees : (tx : ℕ) (what : Planned) (place : ℕ) → TakesPlace store.core tx what place new.core
        → with_commit run_state.log (blocks_of what.written)
        ≡ log_state_of o.position new.core.log store.logging store.installing
    placed_agrees tx what place took =
        ap (λ (l : LogState). with_commit l (blocks_of what.written)) state_agrees.log
        ∙ sym (commit_moves_log_state o.position store.core.log new.core.log took.group.group
        before after took.group.grown took.still took.group.seen.tail from store.logging store.installing
        ∙ ap (λ (bs : List BlockNo). with_commit (log_state_of o.position store.core.log store.logging store.installing)
        bs) took.group.blocks)

    committed_agrees : (tx : ℕ) (done : Outcome) (answer : Commit Outcome)
        → IsCommit store.core tx (planned_of done) done answer new.core
        → Tells Planning (Some (step.Commit (blocks_of done.written)
        (committing_of answer)))
    committed_agrees tx done (commit.Committed receipt) took = record {
      log = placed_agrees tx (planned_of done) receipt.place.0 took;
      begun = state_agrees.begun ∙ sym (ap (λ (c : CoreState). c.begun) took.only);
    }
    committed_agrees tx done (commit.Full back change) is =
        is_preserved (Some (step.Commit (blocks_of done.written) committing.Full)) refl
        refl (same_core store.core new.core is.0.core)
    committed_agrees tx done (commit.Foreign back change) is =
        is_preserved (Some (step.Commit (blocks_of done.written) committing.Foreign))
        refl refl (same_core store.core new.core is.0.core)
    committed_agrees tx done (commit.NoMemory back change error) is =
        is_preserved (Some (step.Commit (blocks_of done.written) (committing.NoMemory alloc_error)))
        refl refl (lacking store.core new.core is.0.core)
    committed_agrees tx done (commit.Broken back change) is =
        is_preserved (Some (step.Commit (blocks_of done.written) committing.Broken))
        refl refl (same_core store.core new.core is.0.core)
    committed_agrees tx done (commit.Spent back change) is =
        is_preserved (Some (step.Commit (blocks_of done.written) committing.Spent)) refl
        refl (same_core store.core new.core is.0.core)

    given_agrees : (ok : Bool) (io : Fetch) (made : Step) → worker.begun.io ≡ Some io
        → HasGivenBack ok io old made new → Tells (Read ok) (Some (given_step ok io))
    given_agrees true io made io_is has = is_preserved (Some (step.Fetched io.block)) refl refl
        (given_back true io old made new has)
    given_agrees false io made io_is has = is_preserved (Some (step.FetchFailed io.block)) refl refl
        (given_back false io old made new has)

    agreeing_cases : Cases old new Tells
    agreeing_cases = record {
      idle = λ is. is_preserved None refl refl (same_core store.core new.core (ap (λ (s : WorkerAndCore). s.core) is));
      reading = λ is. is_preserved None refl refl (same_core store.core new.core (ap (λ (s : WorkerAndCore). s.core) is));
      begun = λ job one job_is served has. begun_agrees job one has;
      not_begun = λ job why job_is served none core is. is_preserved (Some (step.Begun (Err why))) refl refl
          (not_begun why store.core new.core core);
      replied = λ job job_is served core is. is_preserved (Some step.Replied) refl refl
          (same_core store.core new.core core);
      wanted = λ tx addr mode made tx_is next has.
          is_preserved (Some (step.Wanted addr mode (want_answer has.answer))) refl refl
          (wanted store.core new.core tx addr mode has.answer has.core);
      claimed = λ tx block made tx_is next has.
          is_preserved (Some (step.Claimed block (claim_answer has.answer))) refl refl
          (claimed store.core new.core tx has.core.0 has.answer has.core.2);
      committed = λ job tx done made tx_is next none_left job_is has. committed_agrees tx done has.answer has.core;
      lacked = λ tx made tx_is none_left has. is_preserved (Some (step.Ended (ending.NoMemory alloc_error))) refl refl
          (lacked tx store.core new.core has.core);
      given = given_agrees;
      refused = λ why job tx made job_is tx_is has. is_preserved (Some (step.Ended ending.Refused)) refl refl
          (aborted tx store.core new.core has.core);
      left = λ tx made tx_is has. is_preserved (Some (step.Ended ending.Again)) refl refl
          (aborted tx store.core new.core has.core);
      waited = λ place made has. is_preserved (Some (step.Stable place has.settled)) refl refl
          (same_core store.core new.core has.core);
    }

    pub step_moves_state : (made : Option Step) → GoesOn worker.phase old made new
        → IsRunState o (later made) (with_core store new.core)
    step_moves_state made goes =
        let agrees = by_cases old new Tells agreeing_cases worker.phase made goes in
        record { log = agrees.log; begun = agrees.begun; refused = counted made (counts_refused old new made goes) }
      where
        counted : (made : Option Step) → new.core.refused ≡ next_refused store.core.refused made
            → (later made).refused ≡ new.core.refused
        counted None is = state_agrees.refused ∙ sym is
        counted (Some one) is = ap (λ (n : ℕ). refused_after n one) state_agrees.refused ∙ sym is

-- ---- only a commit moves log and commits

module _ (old new : WorkerAndCore) where
  abbrev Stands : Phase → Option Step → Type 0
  Stands phase made = has_committed made ≡ false → LeavesLogUnchanged old.core new.core

  uncommitted : (tx : ℕ) (done : Outcome) (answer : Commit Outcome) (added : List BlockNo)
      → IsCommit old.core tx (planned_of done) done answer new.core
      → Stands Planning (Some (step.Commit added (committing_of answer)))
  uncommitted tx done (commit.Committed receipt) added is none = absurd (true≢false none)
  uncommitted tx done (commit.Full back change) added is none = (same_core old.core new.core is.0.core).log_unchanged
  uncommitted tx done (commit.Foreign back change) added is none =
      (same_core old.core new.core is.0.core).log_unchanged
  uncommitted tx done (commit.NoMemory back change error) added is none =
      (lacking old.core new.core is.0.core).log_unchanged
  uncommitted tx done (commit.Broken back change) added is none = (same_core old.core new.core is.0.core).log_unchanged
  uncommitted tx done (commit.Spent back change) added is none = (same_core old.core new.core is.0.core).log_unchanged

  stands_cases : Cases old new Stands
  stands_cases = record {
    idle = λ is none. (same_core old.core new.core (ap (λ (s : WorkerAndCore). s.core) is)).log_unchanged;
    reading = λ is none. (same_core old.core new.core (ap (λ (s : WorkerAndCore). s.core) is)).log_unchanged;
    begun = λ job one job_is served has none. record {
      log = ap (λ (c : CoreState). c.log) has.core;
      inodes = ap (λ (c : CoreState). c.inodes) has.core;
      records = ap (λ (c : CoreState). c.records) has.core;
      boot = ap (λ (c : CoreState). c.boot) has.core;
    };
    not_begun = λ job why job_is served why_is core is none. (not_begun why old.core new.core core).log_unchanged;
    replied = λ job job_is served core is none. (same_core old.core new.core core).log_unchanged;
    wanted = λ tx addr mode made tx_is next has none.
        (wanted old.core new.core tx addr mode has.answer has.core).log_unchanged;
    claimed = λ tx block made tx_is next has none.
        (claimed old.core new.core tx has.core.0 has.answer has.core.2).log_unchanged;
    committed = λ job tx done made tx_is next none_left job_is has. uncommitted tx done has.answer
        (blocks_of done.written) has.core;
    lacked = λ tx made tx_is none_left has none. (lacked tx old.core new.core has.core).log_unchanged;
    given = λ ok io made io_is has none. (given_back ok io old made new has).log_unchanged;
    refused = λ why job tx made job_is tx_is has none. (aborted tx old.core new.core has.core).log_unchanged;
    left = λ tx made tx_is has none. (aborted tx old.core new.core has.core).log_unchanged;
    waited = λ place made has none. (same_core old.core new.core has.core).log_unchanged;
  }

  pub leaves_log_unchanged : (made : Option Step) → GoesOn old.worker.phase old made new → has_committed made ≡ false
      → LeavesLogUnchanged old.core new.core
  leaves_log_unchanged made goes none = by_cases old new Stands stands_cases old.worker.phase made goes none
