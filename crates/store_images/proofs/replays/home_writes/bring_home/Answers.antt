-- What was put is settled.
use Rattle.std.proofs.Common.{◌∙◌}
use Rattle.txn_law.specs.Window.{with_objects}
use Rattle.circ.specs.Log.Recovery.{image_of}
use Rattle.store_images.proofs.ReplaysLemmas.Put.{comes_home}
use Rattle.store_images.proofs.replays.home_writes.bring_home.Goals as goal

pub returns-clause-home : goal.returns-clause-home
returns-clause-home g c = λ is_preserved clean.
    comes_home (g.D.CrashDisk.device c.args.disk.now) (g.D.CrashDisk.device c.put_objects.new.disk)
    (g.D.CrashDisk.device c.barrier.new.self)
    (with_objects (image_of (g.D.CrashDisk.device c.args.disk.now)) c.args.objects.now) c.barrier.result
    (c.barrier.ensures.call.later.size ∙ c.put_objects.ensures.later.size)
    (c.in_ok-put_objects.ensures.put (c.barrier.ensures.model is_preserved) clean) c.barrier.ensures.call
