-- What only tells something is a step that leads to the same tree.
use Rattle.std.proofs.Common.{◌≡◌, ℕ, [], Option}
use Rattle.disk.specs.Crash.{Image}
use Rattle.nfs_types.specs.declared.call.Call.{Call}
use Rattle.nfs_types.specs.declared.ctx.Ctx.{Ctx}
use Rattle.nfs_types.specs.declared.reply.Reply.{Reply}
use Rattle.nfs_spec.specs.Model.Tree.{Tree}
use Rattle.nfs_spec.specs.Procedures.Step.{numbered_step}
use Rattle.nfs_spec.proofs.ProceduresLemmas.Numbers.{new_number}
use Rattle.layout.proofs.Holding.{holds_of}
use Rattle.inode.specs.declared.snap.Snap.{Snap}
use Rattle.inode.specs.declared.suspend.Suspend.{Suspend}
use Rattle.inode.specs.declared.suspend.Suspend.TheVariants as suspend
use Rattle.inode.specs.Over.{IsOver, IsResumable, MaySuspend}
use Rattle.inode.specs.Read.{NoneStand}
use Rattle.inode.specs.Snap.{IsNew}
use Rattle.procs.specs.Asks.{IsAsked}
use Rattle.procs.specs.Outcome.{IsDoneFor, Outcome}
use Rattle.procs.specs.Steps.{IsStepOf}
use Rattle.procs.proofs.StepsOf.{unwritten}

pub query_is_step : (snap : Snap) (ctx : Ctx) (c : Call) (done : Outcome) (response : Reply)
    → IsDoneFor snap done → done.reply ≡ response → done.written ≡ []
    → ((blocks : Image) (tree : Tree) (new : Option ℕ) → IsOver snap blocks tree
    → numbered_step tree ctx new c response tree)
    → IsStepOf snap.geometry ctx c done
query_is_step snap ctx c done response is_done reply_is written_is leads =
    unwritten snap.geometry ctx c done snap.objects.items response is_done.read reply_is written_is
    (λ blocks tree stands saw.
    let number = new_number tree in
    record {
      new = number.new;
      is_new = number.is;
      leads = leads blocks tree number.new
          (record { holds = holds_of snap.geometry blocks tree stands; saw = saw });
    })

-- why it stops

pub is_new : (snap : Snap) (why : Suspend) → MaySuspend snap why → IsNew snap why
is_new snap (suspend.Need addr mode) may = may.0
is_new snap (suspend.Claim block) may = may.0
is_new snap suspend.Io may = tt
is_new snap (suspend.NoMemory error) may = tt

pub is_asked : (snap : Snap) (why : Suspend) → MaySuspend snap why → IsAsked snap why
is_asked snap (suspend.Need addr mode) may = may.1
is_asked snap (suspend.Claim block) may = may.1
is_asked snap suspend.Io may = tt
is_asked snap (suspend.NoMemory error) may = tt

pub none_stand : (snap : Snap) (why : Suspend)
    → ((blocks : Image) (tree : Tree) → IsOver snap blocks tree → IsResumable why) → NoneStand snap why
none_stand snap (suspend.Need addr mode) resumes = tt
none_stand snap (suspend.Claim block) resumes = tt
none_stand snap suspend.Io resumes = λ blocks tree holds saw.
    resumes blocks tree (record { holds = holds; saw = saw })
none_stand snap (suspend.NoMemory error) resumes = tt
