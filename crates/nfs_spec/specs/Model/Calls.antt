-- What is known of a call before it is served (RFC 1813, section 3.3).
use Rattle.std.specs.Prelude.{Bool}
use Rattle.nfs_types.specs.CallFacts.{facts}
use Rattle.nfs_types.specs.declared.call.Call.{Call}
use Rattle.nfs_types.specs.declared.program.ProgramCall.{ProgramCall}
use Rattle.nfs_types.specs.declared.program.ProgramCall.TheVariants as programs
use Rattle.nfs_types.specs.declared.program.ProgramReply.{ProgramReply}
use Rattle.nfs_types.specs.declared.program.ProgramReply.TheVariants as replies
use Rattle.nfs_types.specs.declared.reply.Reply.TheVariants as reply
use Rattle.nfs_spec.specs.Model.Mount.{mount_reply}

-- Whether a call begins a transaction of its own: each procedure's does but that of NULL, which does nothing.
abbrev pub begins_transaction : Call → Bool
begins_transaction asked = (facts asked).begins_transaction

-- The reply to a call that begins no transaction: a function of the call alone.
abbrev pub plain_reply : ProgramCall → ProgramReply
plain_reply (programs.Nfs asked) = replies.Nfs reply.Null
plain_reply (programs.Mount asked) = replies.Mount (mount_reply asked)

-- the calls that are answered, with refusals too, only once what they changed is stable (RFC 1813, section
-- 4.8)
abbrev pub is_answered_stable : Call → Bool
is_answered_stable asked = (facts asked).is_stable
