-- What is told, and what is written, is a step.
use Rattle.std.proofs.Common.{◌≡◌, sym, subst, List, []}
use Rattle.disk.specs.Crash.{Image}
use Rattle.nfs_types.specs.declared.call.Call.{Call}
use Rattle.nfs_types.specs.declared.ctx.Ctx.{Ctx}
use Rattle.nfs_types.specs.declared.reply.Reply.{Reply}
use Rattle.nfs_spec.specs.Model.Tree.{Tree}
use Rattle.nfs_spec.specs.Procedures.Step.{step}
use Rattle.layout.specs.declared.geometry.Geometry.{Geometry}
use Rattle.layout.specs.Stands.{Stands}
use Rattle.txn.specs.Object.{ObjectBytes}
use Rattle.txn.specs.Window.{with_objects}
use Rattle.inode.specs.Read.{AreAsRead}
use Rattle.procs.specs.Outcome.{Outcome}
use Rattle.procs.specs.Steps.{IsStepOf}

-- a step that writes nothing leads to the same tree
pub unwritten : (g : Geometry) (ctx : Ctx) (c : Call) (done : Outcome) (items : List ObjectBytes) (response : Reply)
    → done.read ≡ items → done.reply ≡ response → done.written ≡ []
    → ((blocks : Image) (tree : Tree) → Stands g blocks tree → AreAsRead blocks items
    → step tree ctx c response tree)
    → IsStepOf g ctx c done
unwritten g ctx c done items response read_is reply_is written_is steps = λ blocks tree sound stands read. (
  tree,
  subst (λ r. step tree ctx c r tree) (sym reply_is)
      (steps blocks tree stands (subst (AreAsRead blocks) read_is read)),
  subst (λ (w : List ObjectBytes). Stands g (with_objects blocks w) tree) (sym written_is) stands,
)
