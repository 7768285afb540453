-- The replies of a run.
use Rattle.std.specs.Prelude.{ℕ, Bool, ◌&&◌, true, false, List, [], ◌∷◌, Option, Some, nat_eq, nat_lt}
use Rattle.std.specs.Prelude.{flat_map, slice_get, if◌then◌else◌}
use Rattle.nfs_types.specs.declared.program.ProgramReply.TheVariants as program_replies
use Rattle.rpc.specs.declared.refusal.Refusal.TheVariants.{SystemError}
use Rattle.session_wire.specs.declared.message.ReplyBody.{ReplyBody}
use Rattle.session_wire.specs.declared.message.ReplyBody.TheVariants.{Done, Refused}
use Rattle.session_wire.specs.Replies.{reply_bytes}
use Rattle.store_promise.specs.declared.answers.Verdict.{Verdict}
use Rattle.store_promise.specs.declared.answers.Verdict.TheVariants as verdict
use Rattle.store_promise.specs.declared.events.Step.{Step}
use Rattle.store_promise.specs.declared.events.Step.TheVariants as step
use Rattle.store_promise.specs.declared.transcript.Answer.{Answer}
use Rattle.sim.specs.Lines.{reply_line}
use Rattle.sim.specs.declared.handed.Handed.{Handed}

-- an event handed a call to a worker, who was idle
abbrev pub is_called : Option (Option Step) → Bool
is_called (Some (Some step.Called)) = true
is_called _ = false

-- a message was taken by the worker of an answer, before that
abbrev pub is_before : List (Option Step) → Answer → Handed → Bool
is_before steps answer handed = nat_eq handed.worker answer.worker && nat_lt handed.event answer.event
    && is_called (slice_get steps handed.event)

-- the number of the last of them, or this one where there is none
abbrev pub number_after : ℕ → List Handed → List (Option Step) → Answer → ℕ
number_after xid [] steps answer = xid
number_after xid (handed ∷ others) steps answer =
    number_after (if is_before steps answer handed then handed.xid else xid) others steps answer

-- the number of the message that an answer is to: of those that its worker took before it, the last
abbrev pub number_of : List Handed → List (Option Step) → Answer → ℕ
number_of handed steps answer = number_after 0 handed steps answer

-- memory that was refused is a system error
abbrev pub body_of : Verdict → ReplyBody
body_of (verdict.Reply reply) = Done (program_replies.Nfs reply)
body_of (verdict.NoMemory error) = Refused SystemError

-- an answer to a message of a number
abbrev pub answer_line : ℕ → Answer → List ℕ
answer_line xid answer = reply_line answer.worker (reply_bytes xid (body_of answer.verdict))

-- the lines of the answers, in their order
abbrev pub reply_lines : List Handed → List (Option Step) → List Answer → List ℕ
reply_lines handed steps answers = flat_map (λ answer. answer_line (number_of handed steps answer) answer) answers
