-- One line of a history.
use Rattle.std.specs.Prelude.{ℕ}
use Rattle.nfs_types.specs.declared.call.Call.{Call}
use Rattle.nfs_types.specs.declared.ctx.Ctx.{Ctx}
use Rattle.nfs_types.specs.declared.reply.Reply.{Reply}

-- a call that was answered: which worker did it, in which context, and with which reply
pub record Entry : Type 0 where
  pub worker : ℕ
  pub ctx : Ctx
  pub call : Call
  pub reply : Reply
