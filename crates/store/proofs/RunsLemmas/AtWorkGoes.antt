-- A worker's step leaves the run going: with the entries that there were, or, where it took a place, with its
-- own.
use Rattle.std.proofs.Common.{◌≡◌, ◌∙◌, inl, inr, refl, sym, ap, subst, true≢false, ℕ, Bool, true, false}
use Rattle.std.proofs.Common.{Option, Some}
use Rattle.std.proofs.Common.{None, List, [], All, if◌then◌else◌}
use Rattle.std.specs.Prelude.{IsSomeAnd}
use Rattle.std.proofs.lemmas.List.Elements.{All-head, All-weaker}
use Rattle.disk.specs.Crash.{Image}
use Rattle.nfs_spec.specs.Model.Entry.{Entry as Committed}
use Rattle.nfs_spec.specs.Model.Calls.{is_answered_stable}
use Rattle.nfs_types.specs.declared.reply.Reply.{Reply}
use Rattle.procs.specs.Asks.{IsWritable}
use Rattle.procs.specs.Outcome.{Outcome}
use Rattle.procs.specs.Steps.{IsStepOf}
use Rattle.procs.specs.declared.next.Plan.TheVariants as plan
use Rattle.inode.specs.declared.snap.Snap.{Snap}
use Rattle.circ.specs.Log.Log.{IsLawful}
use Rattle.circ.specs.declared.log.outcomes.Seq.{Seq}
use Rattle.txn.specs.Outcomes.{IsCommit}
use Rattle.txn.specs.declared.outcomes.Commit.{Commit}
use Rattle.txn.specs.declared.outcomes.Commit.TheVariants as commit
use Rattle.txn.specs.declared.outcomes.Claim.{Claim}
use Rattle.txn.specs.declared.outcomes.Claim.TheVariants as claim
use Rattle.txn.specs.declared.outcomes.Want.{Want}
use Rattle.txn.specs.declared.outcomes.Want.TheVariants as want
use Rattle.txn_law.specs.Core.{CoreState}
use Rattle.txn_law.specs.CoreWindow.{IsHomeOf}
use Rattle.txn_law.specs.Fetch.{Fetch}
use Rattle.txn_law.specs.Group.{blocks_of}
use Rattle.txn_law.specs.Object.{ObjectBytes}
use Rattle.txn_law.specs.WellFormed.{IsWellFormed}
use Rattle.store_promise.specs.OpenSince.{IsSoundCore, TellsOf}
use Rattle.store_promise.specs.Running.{IsFetchOver}
use Rattle.store_promise.specs.declared.answers.Verdict.TheVariants as verdict
use Rattle.store_promise.specs.declared.events.Step.{Step}
use Rattle.store_promise.specs.declared.events.Step.TheVariants as step
use Rattle.store.proofs.RunsLemmas.AtWorkStays.{some_of}
use Rattle.store_workers.proofs.WorkCases.{Cases, by_cases}
use Rattle.store.specs.Runs.AtWork.{HasTakenPlace, IsSeenIn, entry_by, fetches_in, fetches_of, has_committed}
use Rattle.store_workers.specs.Seen.{Seen, seen_of}
use Rattle.store_workers.specs.Stages.{IsJobIn, IsWorkerAt, StandsAt}
use Rattle.store_workers.specs.WorkerAnswers.{after_commit, begun_claimed, begun_wanted, committing_of}
use Rattle.store_workers.specs.WorkerAnswers.{phase_claimed, phase_off, phase_wanted, answered_or_waiting, with_answer}
use Rattle.store_workers.specs.WorkerAnswers.{with_entry}
use Rattle.store_workers.specs.WorkerSteps.{GoesOn, HasGivenBack, IsFromHome, IsNext, IsReplySent}
use Rattle.store_workers.specs.WorkerSteps.{PreservesHomeOf, WorkerAndCore}
use Rattle.store_workers.specs.WorkerSteps.{given_step, planned_of}
use Rattle.store_workers.specs.declared.workers.parts.Job.{Job}
use Rattle.store_workers.specs.declared.workers.parts.Phase.{Phase}
use Rattle.objects.specs.declared.addr.Addr.{Addr}
use Rattle.objects.specs.declared.mode.Mode.{Mode}
use Rattle.disk.specs.declared.block.BlockNo.{BlockNo}
use Rattle.store_promise.specs.LockRequests.{is_barred}
use Rattle.store_promise.specs.declared.lock_requests.LockRequest.{LockRequest}
use Rattle.store_promise.specs.declared.lock_requests.LockRequest.TheVariants as lock_request
use Rattle.store_workers.specs.declared.workers.parts.Phase.TheVariants.{Idle, Called, Planning}
use Rattle.store_workers.specs.declared.workers.parts.Phase.TheVariants.{Reading, Read}
use Rattle.store_workers.specs.declared.workers.parts.Phase.TheVariants.{Refused, Again, Waiting}
use Rattle.store_workers.specs.declared.workers.parts.State.{State}

-- ---- no read is left that isn't given back

module _ (old new : WorkerAndCore) where
  abbrev NoneLeft : Phase → Option Step → Type 0
  NoneLeft phase made = old.worker.phase ≡ phase → fetches_of new.worker ≡ []

  at : (worker : State) → new.worker ≡ worker → fetches_of worker ≡ [] → fetches_of new.worker ≡ []
  at worker is none = ap fetches_of is ∙ none

  at_old : (phase : Phase) → new.worker ≡ old.worker → old.worker.phase ≡ phase
      → fetches_in phase old.worker.begun.io ≡ [] → fetches_of new.worker ≡ []
  at_old phase is phase_is none =
      at old.worker is (ap (λ (p : Phase). fetches_in p old.worker.begun.io) phase_is ∙ none)

  -- who is kept off fetches nothing
  off_none : (request : LockRequest) → fetches_in (phase_off request old.worker.known) None ≡ []
  off_none request = by (is_barred request old.worker.known.taken)
    where
      by : (above : Bool) → fetches_in (if above then Again else Planning) None ≡ []
      by true = refl
      by false = refl

  wanted_none : (addr : Addr) (mode : Mode) (answer : Want)
      → fetches_in (phase_wanted addr mode answer old.worker.known) (begun_wanted answer).io ≡ []
  wanted_none addr mode (want.Held back bytes) = refl
  wanted_none addr mode (want.Fetch back io) = refl
  wanted_none addr mode (want.Busy back) = off_none (lock_request.Object addr mode)
  wanted_none addr mode (want.Loading back) = off_none (lock_request.Object addr mode)
  wanted_none addr mode (want.Outside back) = refl
  wanted_none addr mode (want.NoMemory back error) = refl

  claimed_none : (block : BlockNo) (answer : Claim)
      → fetches_in (phase_claimed block answer old.worker.known) (begun_claimed answer).io ≡ []
  claimed_none block (claim.Held back) = refl
  claimed_none block (claim.Busy back) = off_none (lock_request.Claim block)
  claimed_none block (claim.Loading back) = off_none (lock_request.Claim block)
  claimed_none block (claim.Outside back) = refl
  claimed_none block (claim.NoMemory back error) = refl

  placed_none : (job : Job) (reply : Reply) (place : Seq) (base : State) (stable : Bool)
      → fetches_of (with_entry job reply (answered_or_waiting stable job reply place base)) ≡ []
  placed_none job reply place base true = refl
  placed_none job reply place base false = refl

  committed_none : {C : Type 0} (job : Job) (reply : Reply) (base : State) (answer : Commit C)
      → fetches_of (after_commit job reply answer base) ≡ []
  committed_none job reply base (commit.Committed receipt) =
      placed_none job reply receipt.place base (is_answered_stable job.call)
  committed_none job reply base (commit.Full back change) = refl
  committed_none job reply base (commit.Foreign back change) = refl
  committed_none job reply base (commit.NoMemory back change error) = refl
  committed_none job reply base (commit.Broken back change) = refl
  committed_none job reply base (commit.Spent back change) = refl

  given_none : (ok : Bool) (io : Fetch) (made : Step) → old.worker.begun.io ≡ Some io
      → HasGivenBack ok io old made new → NoneLeft (Read ok) (Some (given_step ok io))
  given_none true io made io_is has phase_is = at _ has.worker refl
  given_none false io made io_is has phase_is = at _ has.worker refl

  waited_none : (place : Seq) (settled broken : Bool) → old.worker.phase ≡ Waiting place
      → IsReplySent settled broken place old.worker new.worker → fetches_of new.worker ≡ []
  waited_none place true broken phase_is reply_sent = by old.worker.work.reply reply_sent
    where
      by : (reply : Option Reply) → IsSomeAnd reply (λ one. new.worker
          ≡ with_answer (verdict.Reply one) (Some place)
          (record old.worker { work = record old.worker.work { reply = None } })) → fetches_of new.worker ≡ []
      by None reply_sent = absurd reply_sent
      by (Some reply) reply_sent = at _ reply_sent refl
  waited_none place false true phase_is reply_sent = by old.worker.work.broken_reply reply_sent
    where
      by : (reply : Option Reply) → IsSomeAnd reply (λ one. new.worker
          ≡ with_answer (verdict.Reply one) (Some place)
          (record old.worker { work = record old.worker.work { broken_reply = None } }))
          → fetches_of new.worker ≡ []
      by None reply_sent = absurd reply_sent
      by (Some reply) reply_sent = at _ reply_sent refl
  waited_none place false false phase_is reply_sent = at_old (Waiting place) reply_sent phase_is refl

  none_cases : Cases old new NoneLeft
  none_cases = record {
    idle = λ is phase_is. at_old Idle (ap (λ (s : WorkerAndCore). s.worker) is) phase_is refl;
    reading = λ is phase_is. at_old Reading (ap (λ (s : WorkerAndCore). s.worker) is) phase_is refl;
    begun = λ job one job_is served has phase_is. at _ has.worker refl;
    not_begun = λ job why job_is served none core is phase_is. at _ is refl;
    replied = λ job job_is served core is phase_is. at _ is refl;
    wanted = λ tx addr mode made tx_is next has phase_is. at _ has.worker (wanted_none addr mode has.answer);
    claimed = λ tx block made tx_is next has phase_is. at _ has.worker (claimed_none block has.answer);
    committed = λ job tx done made tx_is next none job_is has phase_is.
        at _ has.worker (committed_none job done.reply _ has.answer);
    lacked = λ tx made tx_is none has phase_is. at _ has.worker refl;
    given = given_none;
    refused = λ why job tx made job_is tx_is has phase_is. at _ has.worker refl;
    left = λ tx made tx_is has phase_is. at _ has.worker refl;
    waited = λ place made has phase_is. waited_none place has.settled old.core.log.broken phase_is has.is_reply_sent;
  }

  pub none_left : (made : Option Step) → GoesOn old.worker.phase old made new → fetches_of new.worker ≡ []
  none_left made goes = by_cases old new NoneLeft none_cases old.worker.phase made goes refl

-- ---- a place that was taken

module _ (old new : WorkerAndCore) (boot number : ℕ) (entries : List Committed) where
  abbrev Takes : Phase → Option Step → Type 0
  Takes phase made = StandsAt boot entries phase old.worker → has_committed made ≡ true
      → HasTakenPlace boot number made old new

  some_same : {X : Type 0} (a b : X) → Some a ≡ Some b → a ≡ b
  some_same a b is = cc

  tells : (job : Job) (done : Outcome) (next : IsNext old.worker (plan.Done done)) → next.job ≡ job
      → IsJobIn boot old.worker.begun.tx job
      → TellsOf boot (planned_of done)
      (entry_by number (record { ctx = job.ctx; call = job.call; reply = done.reply }))
  tells job done next same runs = record {
    boot_is = runs.boot_is;
    sound = runs.handed;
    geometry = next.snap.geometry;
    newest = next.snap.newest;
    blocks = next.plan.0.named.blocks;
    inodes = next.plan.0.named.inodes;
    step = subst (λ (j : Job). IsStepOf next.snap.geometry j.ctx j.call done) same next.is_step;
  }

  was_seen : (snap : Snap) (object : ObjectBytes) → IsWritable snap object → IsSeenIn (seen_of snap) object
  was_seen snap object (inl read) = inl read
  was_seen snap object (inr claimed) = inr claimed.0

  place_taken : (job : Job) (tx : ℕ) (done : Outcome) (base : State) (answer : Commit Outcome)
      → IsNext old.worker (plan.Done done) → old.worker.work.job ≡ Some job
      → IsCommit old.core tx (planned_of done) done answer new.core
      → new.worker ≡ after_commit job done.reply answer base
      → Takes Planning (Some (step.Commit (blocks_of done.written) (committing_of answer)))
  place_taken job tx done base (commit.Committed receipt) next job_is took is stands has = record {
    tx = tx;
    plan = planned_of done;
    place = receipt.place.0;
    entry = record { ctx = job.ctx; call = job.call; reply = done.reply };
    took = took;
    ready = ap (λ (w : State). w.work.entry) is;
    tells = tells job done next (some_same next.job job (sym next.job_is ∙ job_is))
        (some_of (λ (j : Job). IsJobIn boot old.worker.begun.tx j) old.worker.work.job job job_is stands);
    own = subst (λ (seen : Option Seen). IsSomeAnd seen (λ seen. All (IsSeenIn seen) done.written))
        (sym next.snap_is) (All-weaker (IsWritable next.snap) (IsSeenIn (seen_of next.snap))
        (was_seen next.snap) done.written next.plan.0.writable);
    named = refl;
  }
  place_taken job tx done base (commit.Full back change) next job_is took is stands has =
      absurd (true≢false (sym has))
  place_taken job tx done base (commit.Foreign back change) next job_is took is stands has =
      absurd (true≢false (sym has))
  place_taken job tx done base (commit.NoMemory back change error) next job_is took is stands has =
      absurd (true≢false (sym has))
  place_taken job tx done base (commit.Broken back change) next job_is took is stands has =
      absurd (true≢false (sym has))
  place_taken job tx done base (commit.Spent back change) next job_is took is stands has =
      absurd (true≢false (sym has))

  given_not : (ok : Bool) (io : Fetch) (made : Step) → old.worker.begun.io ≡ Some io
      → HasGivenBack ok io old made new → Takes (Read ok) (Some (given_step ok io))
  given_not true io made io_is gave stands has = absurd (true≢false (sym has))
  given_not false io made io_is gave stands has = absurd (true≢false (sym has))

  takes_cases : Cases old new Takes
  takes_cases = record {
    idle = λ is stands has. absurd (true≢false (sym has));
    reading = λ is stands has. absurd (true≢false (sym has));
    begun = λ job one job_is served was stands has. absurd (true≢false (sym has));
    not_begun = λ job why job_is served none core is stands has. absurd (true≢false (sym has));
    replied = λ job job_is served core is stands has. absurd (true≢false (sym has));
    wanted = λ tx addr mode made tx_is next was stands has. absurd (true≢false (sym has));
    claimed = λ tx block made tx_is next was stands has. absurd (true≢false (sym has));
    committed = λ job tx done made tx_is next none job_is was.
        place_taken job tx done _ was.answer next job_is was.core was.worker;
    lacked = λ tx made tx_is none was stands has. absurd (true≢false (sym has));
    given = given_not;
    refused = λ why job tx made job_is tx_is was stands has. absurd (true≢false (sym has));
    left = λ tx made tx_is was stands has. absurd (true≢false (sym has));
    waited = λ place made was stands has. absurd (true≢false (sym has));
  }

  pub takes_place : (made : Option Step) → GoesOn old.worker.phase old made new
      → IsWorkerAt boot entries old.worker
      → has_committed made ≡ true → HasTakenPlace boot number made old new
  takes_place made goes worker_at has =
      by_cases old new Takes takes_cases old.worker.phase made goes worker_at.stands has

-- ---- what may be at home

-- what a read brought that was pending is what is at home
pub from_home : (base : Image) (core : CoreState) (phase : Phase) (io : Option Fetch)
    → All (IsFetchOver base core) (fetches_in phase io) → IsFromHome phase io core base
from_home base core (Read true) (Some io) fetched = All-head (IsFetchOver base core) io [] fetched
from_home base core (Read true) None fetched = tt
from_home base core (Read false) io fetched = tt
from_home base core Idle io fetched = tt
from_home base core Called io fetched = tt
from_home base core Planning io fetched = tt
from_home base core Reading io fetched = tt
from_home base core (Refused why) io fetched = tt
from_home base core Again io fetched = tt
from_home base core (Waiting place) io fetched = tt

pub sound_core : (base : Image) (old new : WorkerAndCore) → PreservesHomeOf old new
    → All (IsFetchOver base old.core) (fetches_of old.worker) → IsHomeOf base old.core → IsLawful new.core.log
    → IsWellFormed new.core → IsSoundCore base new.core
sound_core base old new preserves fetched home lawful well_formed = record {
  lawful = lawful;
  well_formed = well_formed;
  home = preserves base (from_home base old.core old.worker.phase old.worker.begun.io fetched) home;
}
