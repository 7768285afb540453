-- One object more is home.
use Rattle.std.proofs.Common.{◌∙◌}
use Rattle.disk.specs.Device.{Device}
use Rattle.store_promise.proofs.Later.{past_more}
use Rattle.store_images.proofs.ReplaysLemmas.Put.{objects_more, put_clean}
use Rattle.store_images.proofs.replays.home_writes.put_objects.Goals as goal

pub loop-object-preserved : goal.loop-object-preserved
loop-object-preserved g c =
    let first : Device = g.D.CrashDisk.device c.args.disk.now in
    let before : Device = g.D.CrashDisk.device c.loop-object.disk in
    let after : Device = g.D.CrashDisk.device c.put_object.new.disk in
    let inv = c.loop-object.invariant in
    record {
      later = past_more first before after inv.later c.put_object.ensures.later;
      failures = c.in_ok-put_object.ensures.failure ∙ inv.failures;
      model = λ is_preserved. inv.model (c.put_object.ensures.model is_preserved);
      put = λ is_preserved clean.
          let put = inv.put (c.put_object.ensures.model is_preserved) clean in
          objects_more first before after c.args.objects.now c.loop-object.object-index c.object-item.result
          c.loop-object-test.true c.object-item.is put
          (c.in_ok-put_object.ensures.put is_preserved (put_clean first before _ put clean));
    }
