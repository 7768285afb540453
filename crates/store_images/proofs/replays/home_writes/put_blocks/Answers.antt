-- One block more is home.
use Rattle.std.proofs.Common.{◌∙◌, arith}
use Rattle.disk.specs.Device.{Device}
use Rattle.store_promise.proofs.Later.{past_more}
use Rattle.store_images.proofs.ReplaysLemmas.Put.{behind_log, blocks_more, home_of}
use Rattle.store_images.proofs.replays.home_writes.put_blocks.Goals as goal

pub put-requires-clause-within : goal.put-requires-clause-within
put-requires-clause-within g c =
    let home = home_of (g.D.CrashDisk.device c.args.disk.now).size c.args.logged.now c.loop-change.change-index
    c.change-item.result c.loop-change-test.true c.change-item.is c.requires in
    let below = home.1 in
    let size = c.loop-change.invariant.later.size in omega (arith, below, size)

pub put-requires-clause-side : goal.put-requires-clause-side
put-requires-clause-side g c =
    behind_log (g.D.CrashDisk.device c.args.disk.now).size c.change-item.result.0
    (home_of (g.D.CrashDisk.device c.args.disk.now).size c.args.logged.now c.loop-change.change-index
    c.change-item.result c.loop-change-test.true c.change-item.is c.requires)

pub loop-change-preserved : goal.loop-change-preserved
loop-change-preserved g c =
    let first : Device = g.D.CrashDisk.device c.args.disk.now in
    let before : Device = g.D.CrashDisk.device c.loop-change.disk in
    let after : Device = g.D.CrashDisk.device c.put.new.disk in
    let inv = c.loop-change.invariant in
    record {
      later = past_more first before after inv.later c.put.ensures.later;
      failures = c.in_ok-put.ensures.failure ∙ inv.failures;
      model = λ is_preserved. inv.model (c.put.ensures.model is_preserved);
      put = blocks_more first before after c.args.logged.now c.loop-change.change-index c.change-item.result
          c.loop-change-test.true c.change-item.is inv.put c.in_ok-put.ensures.put;
    }
