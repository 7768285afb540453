-- What a record that begins no transaction is answered.
use Rattle.std.specs.Prelude.{◌≡◌, ℕ, List, ◌⊎◌, Option, IsSome, false}
use Rattle.std.specs.declared.alloc.AllocError.{AllocError}
use Rattle.nfs_spec.specs.Model.Calls.{begins_transaction}
use Rattle.nfs_spec.specs.Model.Mount.{mount_reply}
use Rattle.nfs_types.specs.declared.program.ProgramCall.TheVariants.{Mount, Nfs}
use Rattle.nfs_types.specs.declared.program.ProgramReply.TheVariants as program_replies
use Rattle.nfs_types.specs.declared.reply.Reply.TheVariants.{Null}
use Rattle.rpc.specs.declared.refusal.Refusal.TheVariants.{SystemError}
use Rattle.session_wire.specs.Judging.{judged}
use Rattle.session_wire.specs.declared.message.Judged.{Judged}
use Rattle.session_wire.specs.declared.message.Judged.TheVariants as judgement
use Rattle.session_wire.specs.declared.message.ReplyBody.{ReplyBody}
use Rattle.session_wire.specs.declared.message.ReplyBody.TheVariants as body

-- a system error, with the refusal of memory that it tells of
abbrev pub IsLacking : ReplyBody → Option AllocError → Type 0
IsLacking reply lacked = (reply ≡ body.Refused SystemError) × IsSome lacked

-- The reply to a record that begins no transaction: its refusal, what MOUNT or NULL is answered, or a system error,
-- where memory was refused to a call.
abbrev pub RepliesWithout : Judged → ℕ → ReplyBody → Option AllocError → Type 0
RepliesWithout judgement.Closed xid reply lacked = ⊥
RepliesWithout (judgement.Refused number why) xid reply lacked = (xid ≡ number) × (reply ≡ body.Refused why)
RepliesWithout (judgement.Call number credential (Mount call)) xid reply lacked = (xid ≡ number)
    × ((reply ≡ body.Done (program_replies.Mount (mount_reply call))) ⊎ IsLacking reply lacked)
RepliesWithout (judgement.Call number credential (Nfs call)) xid reply lacked = (xid ≡ number)
    × (((begins_transaction call ≡ false) × (reply ≡ body.Done (program_replies.Nfs Null)))
    ⊎ IsLacking reply lacked)

-- it is the reply to this record
abbrev pub IsReplyTo : List ℕ → ℕ → ReplyBody → Option AllocError → Type 0
IsReplyTo message xid reply lacked = RepliesWithout (judged message) xid reply lacked

-- the key and the number of the connection, the number of the message, what it is told, and the refusal of memory that
-- it is told of; and the record
pub record Replied : Type 0 where
  pub key : ℕ
  pub number : ℕ
  pub xid : ℕ
  pub body : ReplyBody
  pub lacked : Option AllocError
  pub message : List ℕ
