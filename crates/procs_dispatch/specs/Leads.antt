-- Where a call that changes files leads.
use Rattle.nfs_types.specs.declared.call.Call.{Call}
use Rattle.nfs_types.specs.declared.ctx.Ctx.{Ctx}
use Rattle.nfs_types.specs.declared.reply.Reply.{Reply}
use Rattle.nfs_spec.specs.Model.Tree.{Tree}
use Rattle.nfs_spec.specs.Procedures.Step.{step}

-- the reply is one that the call may get, and what stands now is the tree that it leads to
pub record IsStepTo (stands : Tree → Type 0) (tree : Tree) (ctx : Ctx) (asked : Call) (reply : Reply) : Type 0
  where
    pub next : Tree
    pub steps : step tree ctx asked reply next
    pub leads : stands next
