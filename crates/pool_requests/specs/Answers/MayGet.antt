-- What a call may be answered.
use Rattle.std.specs.Prelude.{◌≡◌}
use Rattle.nfs_spec.specs.Model.Tree.{Tree}
use Rattle.nfs_types.specs.declared.call.Call.{Call}
use Rattle.nfs_types.specs.declared.ctx.Ctx.{Ctx}
use Rattle.nfs_types.specs.declared.reply.Reply.{Reply}
use Rattle.nfs_spec.specs.Procedures.Step.{step}
use Rattle.session_wire.specs.declared.message.ReplyBody.{ReplyBody}
use Rattle.pool_requests.specs.Answers.Evident.{with_reply}

-- it is the reply of a step of the sequential server to the call, from this tree
abbrev pub MayGet : Tree → Ctx → Call → ReplyBody → Type 0
MayGet tree ctx call response = (reply : Reply) × (response ≡ with_reply reply) × (next : Tree) × step tree ctx call reply next
