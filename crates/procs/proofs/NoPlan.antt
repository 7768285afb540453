-- What no finished plan has: a reply that no step has, and other bytes than those of a file.
use Rattle.std.proofs.Common.{◌≡◌, ◌∙◌, ◌<◌, ℕ, true, true≢false, ap, cond, sym, subst, Some, Ok, Err}
use Rattle.std.proofs.lemmas.Bool.{lt-ltb}
use Rattle.std.specs.FinSet.{FinSet}
use Rattle.std.specs.Ordering.{nat_cmp}
use Rattle.disk.specs.Crash.{Image}
use Rattle.nfs_types.specs.declared.call.Call.{Call}
use Rattle.nfs_types.specs.declared.call.Call.TheVariants as call
use Rattle.nfs_types.specs.declared.ctx.Ctx.{Ctx}
use Rattle.nfs_types.specs.declared.reply.Reply.TheVariants.{Null}
use Rattle.nfs_spec.specs.Model.Calls.{begins_transaction}
use Rattle.nfs_spec.specs.Model.Node.{Regular}
use Rattle.nfs_spec.specs.Model.Tree.{Tree, node_at}
use Rattle.nfs_spec.specs.Procedures.Step.{step}
use Rattle.layout.specs.Decode.{body_of, file_of, inode_at, mapped_of, node_with, numbers_of}
use Rattle.layout.specs.Parts.{content_in}
use Rattle.layout.specs.Stands.{Stands}
use Rattle.layout.specs.declared.fault.LayoutFault.TheVariants.{Range}
use Rattle.layout.specs.declared.geometry.Geometry.{Geometry}
use Rattle.layout.specs.declared.inode.Inode.{Inode}
use Rattle.layout.specs.declared.inode.InodeKind.{InodeKind}
use Rattle.layout.specs.declared.inode.InodeKind.TheVariants as kinds
use Rattle.txn.specs.Window.{with_objects}
use Rattle.inode.specs.Read.{AreAsRead}
use Rattle.procs.specs.FileBytes.{bytes_in}
use Rattle.procs.specs.Finished.{IsFinished}
use Rattle.procs.specs.Outcome.{Outcome}

no_step : (tree : Tree) (ctx : Ctx) (asked : Call) (next : Tree) → begins_transaction asked ≡ true
    → step tree ctx asked Null next → ⊥
no_step tree ctx call.Null next served s = true≢false (sym served)
no_step tree ctx (call.GetAttr object) next served s = s.leads
no_step tree ctx (call.SetAttr object attributes guard) next served s = s.leads
no_step tree ctx (call.Lookup name) next served s = s.leads
no_step tree ctx (call.Access object bits) next served s = s.leads
no_step tree ctx (call.ReadLink link) next served s = s.leads
no_step tree ctx (call.Read file offset count) next served s = s.leads
no_step tree ctx (call.Write file offset count stability bytes) next served s = s.leads
no_step tree ctx (call.Create name how) next served s = s.leads
no_step tree ctx (call.MkDir name attributes) next served s = s.leads
no_step tree ctx (call.SymLink name attributes target) next served s = s.leads
no_step tree ctx (call.MkNod name special) next served s = s.leads
no_step tree ctx (call.Remove name) next served s = s.leads
no_step tree ctx (call.RmDir name) next served s = s.leads
no_step tree ctx (call.Rename source target) next served s = s.leads
no_step tree ctx (call.Link file name) next served s = s.leads
no_step tree ctx (call.ReadDir directory cookie verifier count) next served s = s.leads
no_step tree ctx (call.ReadDirPlus directory cookie verifier directory_count greatest_count) next served s = s.leads
no_step tree ctx (call.FsStat object) next served s = s.leads
no_step tree ctx (call.FsInfo object) next served s = s.leads
no_step tree ctx (call.PathConf object) next served s = s.leads
no_step tree ctx (call.Commit file offset count) next served s = s.leads

pub no_null : (done : Outcome) (finished : IsFinished done) (blocks : Image) (tree : Tree)
    → Stands finished.snap.geometry blocks tree → AreAsRead blocks done.read → done.reply ≡ Null → ⊥
no_null done finished blocks tree stands read null =
    let made = finished.step blocks tree finished.sound stands read in
    no_step tree done.ctx done.asked made.0 finished.served
    (subst (λ reply. step tree done.ctx done.asked reply made.0) null made.1)

-- the file that blocks have under the number of a regular file's inode
there : (g : Geometry) (blocks : Image) (tree : Tree) (number : ℕ) (inode : Inode) → Stands g blocks tree
    → number < g.inodes → inode_at g blocks number ≡ Ok (Some inode) → inode.kind ≡ kinds.Regular
    → node_at tree number ≡ Some (node_with inode (Regular (bytes_in g blocks inode)
    (mapped_of (numbers_of (content_in g blocks) inode))))
there g blocks tree number inode stands lt is regular =
    stands.parts.has.files number
    ∙ ap (λ t. file_of g.inodes (content_in g blocks) (cond t (inode_at g blocks number) (Err Range)))
    (lt-ltb number g.inodes lt)
    ∙ ap (file_of g.inodes (content_in g blocks)) is
    ∙ ap (λ (kind : InodeKind). Some (node_with inode (body_of g.inodes (content_in g blocks) kind inode))) regular

pub no_other_bytes : (done : Outcome) (finished : IsFinished done) (blocks : Image) (tree : Tree)
    → Stands finished.snap.geometry blocks tree → AreAsRead blocks done.read
    → (number : ℕ) (inode : Inode) → number < finished.snap.geometry.inodes
    → inode_at finished.snap.geometry (with_objects blocks done.written) number ≡ Ok (Some inode)
    → inode.kind ≡ kinds.Regular
    → ((next : Tree) (mapped : FinSet nat_cmp) → step tree done.ctx done.asked done.reply next
    → node_at next number ≡ Some (node_with inode (Regular
    (bytes_in finished.snap.geometry (with_objects blocks done.written) inode) mapped)) → ⊥) → ⊥
no_other_bytes done finished blocks tree stands read number inode lt is regular none =
    let g = finished.snap.geometry in
    let written : Image = with_objects blocks done.written in
    let made = finished.step blocks tree finished.sound stands read in
    none made.0 (mapped_of (numbers_of (content_in g written) inode)) made.1
    (there g written made.0 number inode made.2 lt is regular)
