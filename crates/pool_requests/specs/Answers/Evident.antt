-- What an answer may be made of.
use Rattle.std.specs.Prelude.{◌≡◌, ◌⊎◌, ℕ, true, false, Option, Some}
use Rattle.nfs_spec.specs.Model.Calls.{begins_transaction, is_answered_stable}
use Rattle.nfs_spec.specs.Model.Refused.{refused}
use Rattle.nfs_types.specs.declared.call.Call.{Call}
use Rattle.nfs_types.specs.declared.program.ProgramReply.TheVariants as program_replies
use Rattle.nfs_types.specs.declared.reply.Reply.{Reply}
use Rattle.nfs_types.specs.declared.reply.Reply.TheVariants.{Null}
use Rattle.nfs_types.specs.declared.status.Status.TheVariants as status
use Rattle.pool_requests.specs.Jobs.Immediate.{IsReplyTo, Replied}
use Rattle.pool_requests.specs.Jobs.Sent.{Sent}
use Rattle.pool_requests.specs.declared.jobs.job.Job.{Job}
use Rattle.procs.specs.Finished.{IsFinished}
use Rattle.procs.specs.Outcome.{Outcome}
use Rattle.rpc.specs.declared.refusal.Refusal.TheVariants.{SystemError}
use Rattle.session_wire.specs.declared.message.ReplyBody.{ReplyBody}
use Rattle.session_wire.specs.declared.message.ReplyBody.TheVariants as body
use Rattle.txn.specs.Receipts.{Given}
use Rattle.pool_requests.specs.declared.answers.evidence.Evidence.{Evidence}
use Rattle.pool_requests.specs.declared.answers.evidence.Evidence.TheVariants as evidence

-- an answer: for which connection, with which number, what it tells, and what shows that it may
pub record Answered : Type 0 where
  pub key : ℕ
  pub number : ℕ
  pub xid : ℕ
  pub body : ReplyBody
  pub evidence : Evidence

-- a reply of a procedure, as the body of a message
abbrev pub with_reply : Reply → ReplyBody
with_reply reply = body.Done (program_replies.Nfs reply)

-- What was committed is the job's own: worked out for its call, for who made it, and at the moment at which it was
-- taken up.
pub record IsOwn (sent : Sent) (done : Outcome) : Type 0 where
  pub call : done.asked ≡ sent.job.call
  pub credential : done.ctx.credential ≡ sent.job.credential
  pub moment : done.ctx.moment ≡ sent.moment

-- where the reply has to be stable, its place was shown to be settled
abbrev pub IsShownStable : Sent → Given Outcome → Option ℕ → Type 0
IsShownStable sent given stable = is_answered_stable sent.job.call ≡ true → stable ≡ Some given.place.0

-- IO or SERVERFAULT, in the place of a reply.
abbrev pub IsSubstitute : Call → ReplyBody → Type 0
IsSubstitute call response = (response ≡ with_reply (refused status.Io call))
    ⊎ (response ≡ with_reply (refused status.ServerFault call))

-- it bears the key and the numbers of the job
pub record Bears (answer : Answered) (job : Job) : Type 0 where
  pub key_is : answer.key ≡ job.key
  pub number_is : answer.number ≡ job.number
  pub xid_is : answer.xid ≡ job.xid

-- it is the reply to a record that begins no transaction
pub record IsImmediate (answer : Answered) (replied : Replied) : Type 0 where
  pub key_is : answer.key ≡ replied.key
  pub number_is : answer.number ≡ replied.number
  pub xid_is : answer.xid ≡ replied.xid
  pub body_is : answer.body ≡ replied.body
  pub replies : IsReplyTo replied.message replied.xid replied.body replied.lacked

-- it is the reply of the job's own procedure, which was committed
pub record IsCommitted (answer : Answered) (sent : Sent) (given : Given Outcome) (stable : Option ℕ) : Type 0 where
  pub bears : Bears answer sent.job
  pub own : IsOwn sent given.change
  pub finished : IsFinished given.change
  pub body_is : answer.body ≡ with_reply given.change.reply
  pub stable_is : IsShownStable sent given stable

-- What an answer may be made of.
abbrev pub RestsOn : Answered → Evidence → Type 0
RestsOn answer (evidence.Immediate replied) = IsImmediate answer replied.value
RestsOn answer (evidence.Committed sent given stable) = IsCommitted answer sent given stable
RestsOn answer (evidence.Substitute sent) = Bears answer sent.job × IsSubstitute sent.job.call answer.body
RestsOn answer (evidence.Lacking sent error) = Bears answer sent.job × (answer.body ≡ body.Refused SystemError)
RestsOn answer (evidence.Nothing sent) = Bears answer sent.job × (begins_transaction sent.job.call ≡ false)
    × (answer.body ≡ with_reply Null)

abbrev pub IsEvident : Answered → Type 0
IsEvident answer = RestsOn answer answer.evidence

-- an answer to this job: with its key and numbers, and made of this evidence
abbrev pub answer_to : Job → ReplyBody → Evidence → Answered
answer_to job response made = record {
  key = job.key;
  number = job.number;
  xid = job.xid;
  body = response;
  evidence = made;
}
