-- A reply with what was read and is written for it.
use Rattle.std.specs.Prelude.{◌≡◌, ℕ, List}
use Rattle.nfs_types.specs.declared.call.Call.{Call}
use Rattle.nfs_types.specs.declared.ctx.Ctx.{Ctx}
use Rattle.nfs_types.specs.declared.reply.Reply.{Reply}
use Rattle.txn.specs.Object.{ObjectBytes}
use Rattle.inode.specs.declared.snap.Snap.{Snap}

-- What comes of a call: with what it was run and which it was; a reply, the objects that were read for it, those
-- that are written with it, and the counts of the image that it was worked out for.
pub record Outcome : Type 0 where
  pub ctx : Ctx
  pub asked : Call
  pub reply : Reply
  pub read : List ObjectBytes
  pub written : List ObjectBytes
  pub blocks : ℕ
  pub inodes : ℕ

-- what is done names all that was read, and the image's counts
pub record IsDoneFor (snap : Snap) (done : Outcome) : Type 0 where
  pub read : done.read ≡ snap.objects.items
  pub blocks : done.blocks ≡ snap.geometry.blocks
  pub inodes : done.inodes ≡ snap.geometry.inodes

-- it was worked out for this call
pub record IsMadeFor (ctx : Ctx) (call : Call) (done : Outcome) : Type 0 where
  pub ctx_is : done.ctx ≡ ctx
  pub call_is : done.asked ≡ call
