-- What a plan leads to.
use Rattle.nfs_types.specs.declared.call.Call.{Call}
use Rattle.nfs_types.specs.declared.ctx.Ctx.{Ctx}
use Rattle.nfs_spec.specs.Procedures.Step.{step}
use Rattle.disk.specs.Crash.{Image}
use Rattle.layout.specs.declared.geometry.Geometry.{Geometry}
use Rattle.layout.specs.Stands.{Stands}
use Rattle.nfs_spec.specs.Model.Tree.{Tree}
use Rattle.txn.specs.Window.{with_objects}
use Rattle.inode.specs.declared.snap.Snap.{Snap}
use Rattle.inode.specs.declared.suspend.Suspend.{Suspend}
use Rattle.inode.specs.declared.suspend.Suspend.TheVariants as suspend
use Rattle.inode.specs.Read.{AreAsRead, Saw}
use Rattle.procs.specs.Outcome.{Outcome}
use Rattle.procs.specs.SoundCalls.{SoundCall}

-- What comes of a call is a step of the sequential server: wherever blocks have what was read and stand for a
-- tree, the reply is one that the call may get there, and the blocks with what is written stand for the tree
-- that it then leads to. So it is for any call that can be spelled.
abbrev pub IsStepOf : Geometry → Ctx → Call → Outcome → Type 0
IsStepOf g ctx call done = (blocks : Image) (tree : Tree) → SoundCall ctx.credential ctx.moment call
    → Stands g blocks tree → AreAsRead blocks done.read
    → (next : Tree) × step tree ctx call done.reply next
    × Stands g (with_objects blocks done.written) next

-- A plan failed, which it does for no blocks that stand for a tree, where the call can be spelled.
abbrev pub NoneStandFor : Ctx → Call → Snap → Suspend → Type 0
NoneStandFor ctx call snap suspend.Io = (blocks : Image) (tree : Tree)
    → SoundCall ctx.credential ctx.moment call → Stands snap.geometry blocks tree → Saw blocks snap → ⊥
NoneStandFor ctx call snap (suspend.NoMemory error) = Unit {0}
NoneStandFor ctx call snap (suspend.Need addr mode) = Unit {0}
NoneStandFor ctx call snap (suspend.Claim block) = Unit {0}
