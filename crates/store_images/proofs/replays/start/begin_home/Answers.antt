-- All that was put is settled.
use Rattle.std.proofs.Common.{◌∙◌}
use Rattle.disk.specs.Device.{Device}
use Rattle.circ.specs.Log.Recovery.{image_of}
use Rattle.store_images.specs.Replays.Putting.{with_log_home}
use Rattle.store_images.proofs.ReplaysLemmas.Put.{begun_put, comes_home}
use Rattle.store_images.proofs.replays.start.begin_home.Goals as goal

pub returns-clause-home : goal.returns-clause-home
returns-clause-home g c =
    let before : Device = g.D.CrashDisk.device c.args.disk.now in
    let homes : Device = g.D.CrashDisk.device c.put_blocks.new.disk in
    let started : Device = g.D.CrashDisk.device c.put.new.disk in
    let incremented : Device = g.D.CrashDisk.device c.put-2.new.disk in
    let later : Device = g.D.CrashDisk.device c.barrier.new.self in
    comes_home before incremented later (with_log_home (image_of before) c.args.logged.now c.args.end c.args.incremented.now)
    c.barrier.result
    (c.barrier.ensures.call.later.size ∙ c.put-2.ensures.later.size ∙ c.put.ensures.later.size
    ∙ c.put_blocks.ensures.later.size)
    (begun_put before homes started incremented c.args.logged.now c.args.end c.args.incremented.now c.put_start.new.block
    c.put_whole.new.block c.put_start.ensures c.put_whole.ensures c.in_ok-put_blocks.ensures.put
    c.in_ok-put.ensures.put c.in_ok-put-2.ensures.put)
    c.barrier.ensures.call
