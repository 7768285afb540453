-- What a worker makes of what the core answered it.
use Rattle.std.specs.Prelude.{ℕ, Bool, true, false, if◌then◌else◌, Option, Some, None, List, [], ◌∷◌}
use Rattle.objects.specs.declared.addr.Addr.{Addr}
use Rattle.objects.specs.declared.mode.Mode.{Mode}
use Rattle.disk.specs.declared.block.BlockNo.{BlockNo}
use Rattle.nfs_types.specs.declared.reply.Reply.{Reply}
use Rattle.nfs_types.specs.declared.status.Status.TheVariants as status
use Rattle.nfs_spec.specs.Model.Calls.{is_answered_stable}
use Rattle.nfs_spec.specs.Model.Refused.{refused}
use Rattle.circ.specs.declared.log.outcomes.Seq.{Seq}
use Rattle.txn.specs.declared.outcomes.Claim.{Claim}
use Rattle.txn.specs.declared.outcomes.Claim.TheVariants as claim
use Rattle.txn.specs.declared.outcomes.Commit.{Commit}
use Rattle.txn.specs.declared.outcomes.Commit.TheVariants as commit
use Rattle.txn.specs.declared.outcomes.Want.{Want}
use Rattle.txn.specs.declared.outcomes.Want.TheVariants as want
use Rattle.store_promise.specs.LockRequests.{is_barred}
use Rattle.store_promise.specs.declared.lock_requests.LockRequest.{LockRequest}
use Rattle.store_promise.specs.declared.lock_requests.LockRequest.TheVariants as lock_request
use Rattle.store_promise.specs.declared.answers.Verdict.{Verdict}
use Rattle.store_promise.specs.declared.answers.Verdict.TheVariants as verdict
use Rattle.store_promise.specs.declared.events.Cause.TheVariants as cause
use Rattle.store_promise.specs.declared.events.Committing.{Committing}
use Rattle.store_promise.specs.declared.events.Committing.TheVariants as committing
use Rattle.store_promise.specs.declared.events.LockAnswer.{LockAnswer}
use Rattle.store_promise.specs.declared.events.LockAnswer.TheVariants as lock_answer
use Rattle.store_workers.specs.Asked.{Asking}
use Rattle.store_workers.specs.Knowing.{Knowing, with_lock_request, with_off, without_off}
use Rattle.store_workers.specs.declared.workers.parts.Begun.{Begun}
use Rattle.store_workers.specs.declared.workers.parts.Job.{Job}
use Rattle.store_workers.specs.declared.workers.parts.Phase.{Phase}
use Rattle.store_workers.specs.declared.workers.parts.Phase.TheVariants.{Idle, Planning, Reading}
use Rattle.store_workers.specs.declared.workers.parts.Phase.TheVariants.{Refused, Again}
use Rattle.store_workers.specs.declared.workers.parts.Phase.TheVariants.{Waiting}
use Rattle.store_workers.specs.declared.workers.parts.State.{State}
use Rattle.store_workers.specs.Seen.{Seen, with_claim, with_object}

-- ---- a lock request to read

abbrev pub want_answer : Want → LockAnswer
want_answer (want.Held back bytes) = lock_answer.Held
want_answer (want.Busy back) = lock_answer.Busy
want_answer (want.Fetch back io) = lock_answer.Fetch
want_answer (want.Loading back) = lock_answer.Loading
want_answer (want.Outside back) = lock_answer.Outside
want_answer (want.NoMemory back error) = lock_answer.NoMemory error

-- who is kept off waits, where it has taken nothing that bars the wait, and else begins again
abbrev pub phase_off : LockRequest → Knowing → Phase
phase_off request knowing = if is_barred request knowing.taken then Again else Planning

abbrev pub known_off : LockRequest → Knowing → Knowing
known_off request knowing = if is_barred request knowing.taken then with_off request knowing else knowing

abbrev pub phase_wanted : Addr → Mode → Want → Knowing → Phase
phase_wanted addr mode (want.Held back bytes) knowing = Planning
phase_wanted addr mode (want.Busy back) knowing = phase_off (lock_request.Object addr mode) knowing
phase_wanted addr mode (want.Fetch back io) knowing = Reading
phase_wanted addr mode (want.Loading back) knowing = phase_off (lock_request.Object addr mode) knowing
phase_wanted addr mode (want.Outside back) knowing = Refused cause.Io
phase_wanted addr mode (want.NoMemory back error) knowing = Refused (cause.NoMemory error)

-- what is taken then
abbrev pub known_wanted : Addr → Mode → Want → Knowing → Knowing
known_wanted addr mode (want.Held back bytes) knowing = with_lock_request (lock_request.Object addr mode) knowing
known_wanted addr mode (want.Busy back) knowing = known_off (lock_request.Object addr mode) knowing
known_wanted addr mode (want.Fetch back io) knowing = with_lock_request (lock_request.Object addr mode) knowing
known_wanted addr mode (want.Loading back) knowing = known_off (lock_request.Object addr mode) knowing
known_wanted addr mode (want.Outside back) knowing = knowing
known_wanted addr mode (want.NoMemory back error) knowing = knowing

-- the transaction comes back, with a fetch where the block has to be read
abbrev pub begun_wanted : Want → Begun
begun_wanted (want.Held back bytes) = record { tx = Some back; io = None }
begun_wanted (want.Busy back) = record { tx = Some back; io = None }
begun_wanted (want.Fetch back io) = record { tx = Some back; io = Some io }
begun_wanted (want.Loading back) = record { tx = Some back; io = None }
begun_wanted (want.Outside back) = record { tx = Some back; io = None }
begun_wanted (want.NoMemory back error) = record { tx = Some back; io = None }

-- what was read then: what is taken again isn't looked at
abbrev pub seen_held : List LockRequest → Addr → Mode → List ℕ → Option Seen → Option Seen
seen_held [] addr mode bytes seen = with_object addr mode bytes seen
seen_held (next ∷ later) addr mode bytes seen = seen

abbrev pub seen_wanted : List LockRequest → Addr → Mode → Want → Option Seen → Option Seen
seen_wanted left addr mode (want.Held back bytes) seen = seen_held left addr mode bytes seen
seen_wanted left addr mode (want.Busy back) seen = seen
seen_wanted left addr mode (want.Fetch back io) seen = seen
seen_wanted left addr mode (want.Loading back) seen = seen
seen_wanted left addr mode (want.Outside back) seen = seen
seen_wanted left addr mode (want.NoMemory back error) seen = seen

-- its block is to be fetched then
abbrev pub asked_wanted : Addr → Mode → Want → Asking → Asking
asked_wanted addr mode (want.Fetch back io) asked = record asked { fetch_addr = Some addr; mode = mode }
asked_wanted addr mode (want.Held back bytes) asked = asked
asked_wanted addr mode (want.Busy back) asked = asked
asked_wanted addr mode (want.Loading back) asked = asked
asked_wanted addr mode (want.Outside back) asked = asked
asked_wanted addr mode (want.NoMemory back error) asked = asked

-- ---- a lock request to claim

abbrev pub claim_answer : Claim → LockAnswer
claim_answer (claim.Held back) = lock_answer.Held
claim_answer (claim.Busy back) = lock_answer.Busy
claim_answer (claim.Loading back) = lock_answer.Loading
claim_answer (claim.Outside back) = lock_answer.Outside
claim_answer (claim.NoMemory back error) = lock_answer.NoMemory error

abbrev pub phase_claimed : BlockNo → Claim → Knowing → Phase
phase_claimed block (claim.Held back) knowing = Planning
phase_claimed block (claim.Busy back) knowing = phase_off (lock_request.Claim block) knowing
phase_claimed block (claim.Loading back) knowing = phase_off (lock_request.Claim block) knowing
phase_claimed block (claim.Outside back) knowing = Refused cause.Io
phase_claimed block (claim.NoMemory back error) knowing = Refused (cause.NoMemory error)

abbrev pub known_claimed : BlockNo → Claim → Knowing → Knowing
known_claimed block (claim.Held back) knowing = with_lock_request (lock_request.Claim block) knowing
known_claimed block (claim.Busy back) knowing = known_off (lock_request.Claim block) knowing
known_claimed block (claim.Loading back) knowing = known_off (lock_request.Claim block) knowing
known_claimed block (claim.Outside back) knowing = knowing
known_claimed block (claim.NoMemory back error) knowing = knowing

abbrev pub begun_claimed : Claim → Begun
begun_claimed (claim.Held back) = record { tx = Some back; io = None }
begun_claimed (claim.Busy back) = record { tx = Some back; io = None }
begun_claimed (claim.Loading back) = record { tx = Some back; io = None }
begun_claimed (claim.Outside back) = record { tx = Some back; io = None }
begun_claimed (claim.NoMemory back error) = record { tx = Some back; io = None }

abbrev pub seen_taken : List LockRequest → BlockNo → Option Seen → Option Seen
seen_taken [] block seen = with_claim block seen
seen_taken (next ∷ later) block seen = seen

abbrev pub seen_claimed : List LockRequest → BlockNo → Claim → Option Seen → Option Seen
seen_claimed left block (claim.Held back) seen = seen_taken left block seen
seen_claimed left block (claim.Busy back) seen = seen
seen_claimed left block (claim.Loading back) seen = seen
seen_claimed left block (claim.Outside back) seen = seen
seen_claimed left block (claim.NoMemory back error) seen = seen

-- ---- answers to calls

-- a worker that has answered its call, and is idle
abbrev pub with_answer : Verdict → Option Seq → State → State
with_answer given_verdict place state = record state {
  phase = Idle;
  work = record state.work { answer = Some (record { verdict = given_verdict; place = place }) };
}

-- one that answers its committed procedure once the place is settled: so, or, if the store breaks before, by IO
abbrev pub with_replies : Job → Reply → Seq → State → State
with_replies job reply place state = record state {
  phase = Waiting place;
  work = record state.work { reply = Some reply; broken_reply = Some (refused status.Io job.call) };
  asked = record state.asked { waiting = Some job };
}

-- ---- commits

abbrev pub committing_of : {C : Type 0} → Commit C → Committing
committing_of (commit.Committed receipt) = committing.Committed receipt.place
committing_of (commit.Full back change) = committing.Full
committing_of (commit.Foreign back change) = committing.Foreign
committing_of (commit.NoMemory back change error) = committing.NoMemory error
committing_of (commit.Broken back change) = committing.Broken
committing_of (commit.Spent back change) = committing.Spent

-- the procedure is answered at once, or once it is stable
abbrev pub answered_or_waiting : Bool → Job → Reply → Seq → State → State
answered_or_waiting true job reply place state = with_replies job reply place state
answered_or_waiting false job reply place state = with_answer (verdict.Reply reply) (Some place) state

-- the worker has no call any more, and its entry lies ready
abbrev pub with_entry : Job → Reply → State → State
with_entry job reply state = record state {
  work = record state.work {
    job = None;
    entry = Some (record { ctx = job.ctx; call = job.call; reply = reply });
  };
}

-- the worker once its procedure was committed at this place
abbrev pub committed : Job → Reply → Seq → State → State
committed job reply place state =
    with_entry job reply (answered_or_waiting (is_answered_stable job.call) job reply place state)

-- it has its transaction still, and goes on in this phase
abbrev pub with_tx : ℕ → Phase → State → State
with_tx tx phase state = record state { phase = phase; begun = record { tx = Some tx; io = None } }

-- the worker once its commit was answered
abbrev pub after_commit : {C : Type 0} → Job → Reply → Commit C → State → State
after_commit job reply (commit.Committed receipt) state = committed job reply receipt.place state
after_commit job reply (commit.Full back change) state = with_tx back Planning state
after_commit job reply (commit.Foreign back change) state =
    record (with_tx back Again state) { known = without_off state.known }
after_commit job reply (commit.NoMemory back change error) state = with_tx back (Refused (cause.NoMemory error)) state
after_commit job reply (commit.Broken back change) state = with_tx back (Refused cause.Io) state
after_commit job reply (commit.Spent back change) state = with_tx back (Refused cause.Spent) state
