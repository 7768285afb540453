use Rattle.std.proofs.Common.{List, inl, inr, refl, subst, ℕ}
use Rattle.nfs_types.specs.declared.mount.MountReply.{MountReply}
use Rattle.nfs_types.specs.declared.program.ProgramReply.TheVariants as replies
use Rattle.session_wire.specs.declared.message.ReplyBody.TheVariants as bodies
use Rattle.store_images.specs.Opening.{store_of}
use Rattle.session.specs.Replying.{HasLacked, IsMounted, IsSpelled}
use Rattle.session.proofs.Courses.{delivers_so}
use Rattle.session.proofs.record_reply.serve_mount.Goals as goal

pub returns-in-Ok-clause-serves : goal.returns-in-Ok-clause-serves
returns-in-Ok-clause-serves g c =
    let xid = c.args.xid in
    let old = store_of (g.D.CrashDisk.device c.args.store.now.disk) c.args.store.now.core c.args.store.now.boot in
    delivers_so (IsSpelled xid (bodies.Done (replies.Mount c.in-Ok.reply)))
    (λ (reply : List ℕ). IsMounted old xid c.args.call.now reply old) _ _ _
    (λ reply is. inl (
      refl,
      subst (λ (m : MountReply). IsSpelled xid (bodies.Done (replies.Mount m)) reply)
          c.in-Ok.ensures is,
    )) c.put-answered.ensures

pub returns-in-Err-clause-serves : goal.returns-in-Err-clause-serves
returns-in-Err-clause-serves g c =
    let device = g.D.CrashDisk.device in
    let xid = c.args.xid in
    let old = store_of (device c.args.store.now.disk) c.args.store.now.core c.args.store.now.boot in
    let after = c.lack.new.store in
    let new = store_of (device after.disk) after.core after.boot in
    delivers_so (λ (reply : List ℕ). HasLacked old xid reply new)
    (λ (reply : List ℕ). IsMounted old xid c.args.call.now reply new) _ _ _ (λ reply lacked. inr lacked)
    c.lack.ensures.lacked
