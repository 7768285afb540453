-- A block was read, the object laid over it, and it was written.
use Rattle.std.proofs.Common.{ap}
use Rattle.objects.specs.declared.addr.Addr.{Addr}
use Rattle.store_promise.proofs.Later.{past_more, past_one}
use Rattle.store_images.proofs.ReplaysLemmas.Put.{put_overlaid}
use Rattle.store_images.proofs.replays.home_writes.put_object.Goals as goal

pub returns-clause-later : goal.returns-clause-later
returns-clause-later g c =
    past_more (g.D.CrashDisk.device c.args.disk.now) (g.D.CrashDisk.device c.read.new.self)
    (g.D.CrashDisk.device c.put.new.disk)
    (past_one (g.D.CrashDisk.device c.args.disk.now) (g.D.CrashDisk.device c.read.new.self)
    c.read.ensures.call.later)
    c.put.ensures.later

pub returns-clause-put : goal.returns-clause-put
returns-clause-put g c = λ is_preserved clean.
    put_overlaid (g.D.CrashDisk.device c.args.disk.now) (g.D.CrashDisk.device c.read.new.self)
    (g.D.CrashDisk.device c.put.new.disk) c.args.object.now c.addr.result.block.0 c.read.new.out
    c.splice.new.content c.put.result (ap (λ (addr : Addr). addr.block.0) c.addr.ensures) c.read.ensures.call
    (c.in_ok-read.ensures.newest (c.put.ensures.model is_preserved) (clean c.addr.result.block.0))
    c.splice.ensures.content c.put.ensures.put
