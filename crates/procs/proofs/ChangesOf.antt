-- What changes files is a step, and what is written for it is what a write set wrote.
use Rattle.std.proofs.Common.{◌≡◌, ◌^◌, ◌<◌, sym, subst, List}
use Rattle.disk.specs.Crash.{Image}
use Rattle.nfs_types.specs.Fits.{CallFits}
use Rattle.nfs_types.specs.declared.call.Call.{Call}
use Rattle.nfs_types.specs.declared.ctx.Ctx.{Ctx}
use Rattle.nfs_types.specs.declared.reply.Reply.{Reply}
use Rattle.nfs_spec.specs.Model.Sound.{Sound, SoundCtx}
use Rattle.nfs_spec.specs.Model.Tree.{Tree}
use Rattle.nfs_spec.specs.Procedures.Step.{step}
use Rattle.nfs_spec.proofs.ProceduresLemmas.SoundSteps.{step_sound}
use Rattle.layout.specs.declared.geometry.Geometry.{Geometry}
use Rattle.layout.specs.Holds.{Holds}
use Rattle.layout.specs.Stands.{Stands}
use Rattle.layout.proofs.Holding.{holds_of, stands_of}
use Rattle.txn.specs.Object.{ObjectBytes}
use Rattle.txn.specs.Window.{with_objects}
use Rattle.inode.specs.declared.snap.Snap.{Snap}
use Rattle.inode.specs.declared.suspend.Suspend.{Suspend}
use Rattle.inode.specs.declared.suspend.Suspend.TheVariants as suspend
use Rattle.inode.specs.Over.{IsResumable}
use Rattle.inode.specs.Read.{AreAsRead, NoneStand, Saw}
use Rattle.inode.specs.WriteSets.WriteSetContents.{WriteSetContents, IsWriteSet}
use Rattle.procs_dispatch.specs.Leads.{IsStepTo}
use Rattle.procs.specs.Outcome.{IsDoneFor, Outcome}
use Rattle.procs.specs.SoundCalls.{SoundCall}
use Rattle.procs.specs.Steps.{IsStepOf, NoneStandFor}

-- a call that can be spelled has a sound context, as its transaction's numbers have 64 bits
sound_ctx : (ctx : Ctx) (c : Call) → ctx.boot < 2 ^ 64 → ctx.transaction < 2 ^ 64
    → SoundCall ctx.credential ctx.moment c → SoundCtx ctx
sound_ctx ctx c boot transaction sound = record {
  uid = sound.uid;
  gid = sound.gid;
  moment = sound.timely;
  stamp = record { boot = boot; transaction = transaction };
}

module _ (snap : Snap) (ctx : Ctx) (c : Call) (boot : ctx.boot < 2 ^ 64) (transaction : ctx.transaction < 2 ^ 64)
    (begun : WriteSetContents)
    (begins : (blocks : Image) (tree : Tree) → Holds snap.geometry blocks tree → Saw blocks snap
    → IsWriteSet begun blocks tree) where
  starts : (blocks : Image) (tree : Tree) → Stands snap.geometry blocks tree → Saw blocks snap
      → IsWriteSet begun blocks tree
  starts blocks tree stands saw = begins blocks tree (holds_of snap.geometry blocks tree stands) saw

  pub changed_is_step : (done : Outcome) (response : Reply) (ended : WriteSetContents) → ended.there.geometry ≡ snap.geometry
      → IsDoneFor snap done → done.reply ≡ response → done.written ≡ ended.written
      → ((blocks : Image) (tree : Tree) → IsWriteSet begun blocks tree → Sound tree → SoundCtx ctx → CallFits c
      → IsStepTo (IsWriteSet ended blocks) tree ctx c response)
      → IsStepOf snap.geometry ctx c done
  changed_is_step done response ended geometry is reply_is written_is leads = λ blocks tree sound stands read.
      let at = sound_ctx ctx c boot transaction sound in
      let to = leads blocks tree (starts blocks tree stands (subst (AreAsRead blocks) is.read read))
      stands.parts.sound at sound.fits in
      let preserves : Sound to.next = step_sound tree to.next ctx c response stands.parts.sound at sound.fits to.steps in
      let holds : Holds snap.geometry (with_objects blocks ended.written) to.next =
      subst (λ (g : Geometry). Holds g (with_objects blocks ended.written) to.next) geometry to.leads.holds in (
        to.next,
        subst (λ r. step tree ctx c r to.next) (sym reply_is) to.steps,
        subst (λ (w : List ObjectBytes). Stands snap.geometry (with_objects blocks w) to.next) (sym written_is)
            (stands_of snap.geometry (with_objects blocks ended.written) to.next holds preserves),
      )

  -- where it fails there are no such blocks
  pub changed_fails : (why : Suspend)
      → ((blocks : Image) (tree : Tree) → IsWriteSet begun blocks tree → Sound tree → SoundCtx ctx → CallFits c
      → IsResumable why)
      → NoneStandFor ctx c snap why
  changed_fails (suspend.Need addr mode) resumes = tt
  changed_fails (suspend.Claim block) resumes = tt
  changed_fails (suspend.NoMemory error) resumes = tt
  changed_fails suspend.Io resumes = λ blocks tree sound stands saw.
      resumes blocks tree (starts blocks tree stands saw) stands.parts.sound
      (sound_ctx ctx c boot transaction sound) sound.fits

-- blocks that stand for a tree hold its files
pub for_calls : (ctx : Ctx) (c : Call) (snap : Snap) (why : Suspend) → NoneStand snap why
    → NoneStandFor ctx c snap why
for_calls ctx c snap (suspend.Need addr mode) none = tt
for_calls ctx c snap (suspend.Claim block) none = tt
for_calls ctx c snap (suspend.NoMemory error) none = tt
for_calls ctx c snap suspend.Io none = λ blocks tree sound stands saw.
    none blocks tree (holds_of snap.geometry blocks tree stands) saw
