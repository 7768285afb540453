-- How replies are spelled (RFC 5531, sections 9 and 11).
use Rattle.std.specs.Prelude.{◌≡◌, ◌<◌, ◌≤◌, ◌^◌, ◌⊎◌, ℕ, Bool, true, false, List, length, ◌++◌}
use Rattle.session_wire.specs.declared.message.RpcReply.{RpcReply}
use Rattle.session_wire.specs.declared.message.RpcReply.TheVariants.{Nfs, Mount, Refused}
use Rattle.session_wire.specs.declared.message.ReplyBody.{ReplyBody}
use Rattle.session_wire.specs.declared.message.ReplyBody.TheVariants as bodies
use Rattle.rpc.specs.Refused.{accepted, refused}
use Rattle.session_wire.specs.declared.message.ReplyMessage.{ReplyMessage}
use Rattle.nfs_types.specs.declared.program.ProgramProcedure.{ProgramProcedure}
use Rattle.nfs_types.specs.declared.program.ProgramReply.TheVariants as program_replies
use Rattle.nfs_codec.specs.Procedures.{replied_to}
use Rattle.nfs_results.specs.Results.{result_bytes, too_long, ReplyFits}

-- the one spelling of a reply
abbrev pub reply_bytes : ℕ → ReplyBody → List ℕ
reply_bytes xid (bodies.Done reply) = accepted xid 0 ++ result_bytes reply
reply_bytes xid (bodies.Refused refusal) = refused xid refusal

-- an answer as the body of a reply
abbrev pub body_of : RpcReply → ReplyBody
body_of (Nfs reply) = bodies.Done (program_replies.Nfs reply.now)
body_of (Mount reply) = bodies.Done (program_replies.Mount reply.now)
body_of (Refused refusal) = bodies.Refused refusal

-- which replies have a spelling
abbrev pub BodyFits : ReplyBody → Type 0
BodyFits (bodies.Done reply) = ReplyFits reply
BodyFits (bodies.Refused refusal) = Unit {0}

-- which bodies have a length that four bytes can't tell
abbrev pub body_too_long : ReplyBody → Bool
body_too_long (bodies.Done reply) = too_long reply
body_too_long (bodies.Refused refusal) = false

-- so it is, or no mark can announce the reply, since it has 2^31 bytes or more
abbrev pub IsTooLong : ℕ → ReplyBody → Type 0
IsTooLong xid body = (body_too_long body ≡ true) ⊎ (2 ^ 31 ≤ length (reply_bytes xid body))

-- a refusal may answer any procedure
abbrev pub RepliesTo : ProgramProcedure → ReplyBody → Type 0
RepliesTo p (bodies.Done reply) = replied_to reply ≡ p
RepliesTo p (bodies.Refused refusal) = Unit {0}

-- the bytes spell the reply to a call of this procedure
pub record SpellsReply (p : ProgramProcedure) (bytes : List ℕ) (m : ReplyMessage) : Type 0 where
  pub xid : m.xid < 2 ^ 32
  pub body_fits : BodyFits m.body
  pub answers : RepliesTo p m.body
  pub spelled : bytes ≡ reply_bytes m.xid m.body
