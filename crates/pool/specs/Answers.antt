-- What a step gives, and what it leaves of a job at its seat.
use Rattle.std.specs.Prelude.{◌≡◌, ◌≤◌, true, false, Option, Some, None, IsSomeAnd}
use Rattle.nfs_spec.specs.Model.Calls.{begins_transaction, is_answered_stable}
use Rattle.nfs_types.specs.declared.call.Call.{Call}
use Rattle.nfs_types.specs.declared.reply.Reply.TheVariants.{Null}
use Rattle.procs.specs.Outcome.{Outcome}
use Rattle.rpc.specs.declared.refusal.Refusal.TheVariants.{SystemError}
use Rattle.session_wire.specs.declared.message.ReplyBody.{ReplyBody}
use Rattle.session_wire.specs.declared.message.ReplyBody.TheVariants as body
use Rattle.store_promise.specs.declared.answers.CallAnswer.{CallAnswer}
use Rattle.store_promise.specs.declared.answers.Verdict.{Verdict}
use Rattle.store_promise.specs.declared.answers.Verdict.TheVariants as verdict
use Rattle.store_promise.specs.declared.events.Committing.{Committing}
use Rattle.store_promise.specs.declared.events.Committing.TheVariants as committing
use Rattle.store_promise.specs.declared.events.Step.{Step}
use Rattle.store_promise.specs.declared.events.Step.TheVariants as step
use Rattle.txn.specs.Core.{CoreState}
use Rattle.txn.specs.Receipts.{Given}
use Rattle.circ.specs.Log.Log.{settled_place}
use Rattle.pool_requests.specs.Answers.Evident.{Answered, IsSubstitute, IsOwn, answer_to as made_of, with_reply}
use Rattle.pool_requests.specs.declared.answers.evidence.Evidence.{Evidence}
use Rattle.pool_requests.specs.declared.answers.evidence.Evidence.TheVariants as evidence
use Rattle.pool_requests.specs.Jobs.Sent.{Sent}
use Rattle.pool.specs.CallInFlight.{CallInFlight}
use Rattle.pool.specs.declared.in_flight.Way.{Way}
use Rattle.pool.specs.declared.in_flight.Way.TheVariants as way

-- what came of a procedure, as the body of a message
abbrev pub body_of : Verdict → ReplyBody
body_of (verdict.Reply reply) = with_reply reply
body_of (verdict.NoMemory error) = body.Refused SystemError

-- what an answer rests on, by the step that gives it
abbrev pub way_at : Committing → Way
way_at (committing.Committed place) = way.Commit
way_at committing.Full = way.Substitute
way_at committing.Foreign = way.Substitute
way_at (committing.NoMemory error) = way.Substitute
way_at committing.Broken = way.Substitute
way_at committing.Spent = way.Substitute

abbrev pub way_by : Option Step → Way
way_by (Some (step.Commit added answer)) = way_at answer
way_by (Some (step.Stable place true)) = way.Settled place
way_by (Some step.Replied) = way.Nothing
way_by _ = way.Substitute

-- the evidence of what is answered in the place of a reply: a system error rests on a refusal of memory
abbrev pub evidence_of_verdict : Sent → Verdict → Evidence
evidence_of_verdict sent (verdict.Reply reply) = evidence.Substitute sent
evidence_of_verdict sent (verdict.NoMemory error) = evidence.Lacking sent error

-- the evidence of it
abbrev pub evidence_by : Way → Sent → Option (Given Outcome) → Verdict → Evidence
evidence_by way.Commit sent (Some given) given_verdict = evidence.Committed sent given None
evidence_by way.Commit sent None given_verdict = evidence_of_verdict sent given_verdict
evidence_by (way.Settled place) sent (Some given) given_verdict = evidence.Committed sent given (Some place.0)
evidence_by (way.Settled place) sent None given_verdict = evidence_of_verdict sent given_verdict
evidence_by way.Nothing sent witness given_verdict = evidence.Nothing sent
evidence_by way.Substitute sent witness given_verdict = evidence_of_verdict sent given_verdict

abbrev pub answer_of : Way → Sent → Option (Given Outcome) → Verdict → Answered
answer_of by sent witness given_verdict = made_of sent.job (body_of given_verdict)
    (evidence_by by sent witness given_verdict)

-- what was committed is the job's own, and this is its reply
pub record IsReplyOf (sent : Sent) (given : Given Outcome) (given_verdict : Verdict) : Type 0 where
  pub own : IsOwn sent given.change
  pub verdict_is_reply : given_verdict ≡ verdict.Reply given.change.reply

-- what is told in the place of a reply: IO, SERVERFAULT, or that memory was refused
abbrev pub IsInPlace : Call → Verdict → Type 0
IsInPlace asked (verdict.Reply reply) = IsSubstitute asked (with_reply reply)
IsInPlace asked (verdict.NoMemory error) = Unit {0}

-- What a step may tell for a job: the reply of its change, at the commit where it needn't be stable, or once its place
-- is settled; the one to a call that begins no transaction; IO or SERVERFAULT in its place; or that memory was refused.
abbrev pub GivesBy : CoreState → Way → Sent → Option (Given Outcome) → Verdict → Type 0
GivesBy core way.Commit sent witness given_verdict = IsSomeAnd witness (λ given. IsReplyOf sent given given_verdict
    × (is_answered_stable sent.job.call ≡ false))
GivesBy core (way.Settled place) sent witness given_verdict = IsSomeAnd witness (λ given. IsReplyOf sent given given_verdict
    × (given.place ≡ place) × (place.0 ≤ settled_place core.log))
GivesBy core way.Nothing sent witness given_verdict = (begins_transaction sent.job.call ≡ false)
    × (given_verdict ≡ verdict.Reply Null)
GivesBy core way.Substitute sent witness given_verdict = IsInPlace sent.job.call given_verdict

-- what shows the last commit
abbrev pub kept : Option (Given Outcome) → Option (Given Outcome) → Option (Given Outcome)
kept witness (Some shown) = Some shown
kept witness None = witness

abbrev pub none_in_flight : CallInFlight
none_in_flight = record { reply_address = None; witness = None; answer = None }

abbrev pub given_to : CoreState → Option Step → Option Sent → Option (Given Outcome) → Option CallAnswer → Type 0
given_to core made reply_address witness None = Unit {0}
given_to core made None witness (Some given) = Unit {0}
given_to core made (Some sent) witness (Some given) = GivesBy core (way_by made) sent witness given.verdict

-- what a step gives may be told for the job
abbrev pub GivesFor : CoreState → Option Step → CallInFlight → Option (Given Outcome) → Option CallAnswer → Type 0
GivesFor core made in_flight shown given = given_to core made in_flight.reply_address (kept in_flight.witness shown) given

-- what a step leaves of a job: with the answer that it gives, the job is answered
abbrev pub in_flight_with : Option Step → Option Sent → Option (Given Outcome) → Option Answered → Option CallAnswer
    → CallInFlight
in_flight_with made reply_address witness ready None = record { reply_address = reply_address; witness = witness; answer = ready }
in_flight_with made None witness ready (Some given) = record { reply_address = None; witness = witness; answer = ready }
in_flight_with made (Some sent) witness ready (Some given) = record {
  reply_address = None;
  witness = None;
  answer = Some (answer_of (way_by made) sent witness given.verdict);
}

abbrev pub in_flight_after : Option Step → CallInFlight → Option (Given Outcome) → Option CallAnswer → CallInFlight
in_flight_after made in_flight shown given =
    in_flight_with made in_flight.reply_address (kept in_flight.witness shown) in_flight.answer given
