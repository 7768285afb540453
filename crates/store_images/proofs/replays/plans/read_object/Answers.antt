-- What was read is as it lies at home.
use Rattle.disk.specs.Device.{Device}
use Rattle.circ.specs.Log.Recovery.{image_of}
use Rattle.store_images.proofs.ReplaysLemmas.Reading.{saw_more}
use Rattle.store_images.proofs.replays.plans.read_object.Goals as goal

pub returns-clause-saw : goal.returns-clause-saw
returns-clause-saw g c = λ is_preserved clean.
    let before : Device = g.D.CrashDisk.device c.args.disk.now in
    saw_more before.size (image_of before) c.args.snap.now c.add.new.self c.args.addr c.args.mode c.read.new.out
    (record {
      bytes = c.in_ok-bytes.bytes;
      geometry = c.add.ensures.geometry;
      objects = c.add.ensures.objects;
      exclusives = c.add.ensures.exclusives;
      claims = c.add.ensures.claims;
    })
    c.requires.home (c.in_default.ensures.newest is_preserved (clean c.args.addr.block.0)) c.in_ok-bytes.ensures.bytes
