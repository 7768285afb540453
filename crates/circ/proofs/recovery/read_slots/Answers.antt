use Rattle.std.proofs.Common.{◌+◌, ◌∙◌, arith, refl}
use Rattle.disk.specs.Device.{Device}
use Rattle.circ.specs.Log.Logger.{slot_block}
use Rattle.circ.specs.Log.Recovery.{image_of}
use Rattle.circ.proofs.LogLemmas.Lawful.{home_more}
use Rattle.circ.proofs.LogLemmas.OnlyRead.{reads_then, image_then, certain_then, positions_more}
use Rattle.disk.specs.declared.block.BlockNo.{BlockNo}
use Rattle.circ.proofs.recovery.read_slots.Goals as goal

pub loop-i-preserved : goal.loop-i-preserved
loop-i-preserved g c =
    let first : Device = g.D.CrashDisk.device c.args.disk.now in
    let before : Device = g.D.CrashDisk.device c.loop-i.disk in
    let with_changes : Device = g.D.CrashDisk.device c.read_block.new.disk in
    let inv = c.loop-i.invariant in
    let home : BlockNo = record { 0 = c.address_at-home.result } in
    record {
      reads = reads_then first before with_changes inv.reads c.read_block.ensures.reads;
      failures = c.in_ok-read_block.ensures.failure ∙ inv.failures;
      model = λ preserves. inv.model (c.read_block.ensures.model preserves);
      count = omega (arith, c.push_reserved.ensures);
      has_space = omega (arith, c.push_reserved.ensures);
      homes = home_more c.args.blocks c.loop-i.logged.items c.push_reserved.new.self.items home
          c.read_block.new.out
          c.push_reserved.ensures.items inv.homes
          (rw c.address_at-home.ensures (c.requires.homes c.loop-i.i c.loop-i-test.true));
      positions = λ preserves certain.
          positions_more c.args.header.now (image_of first) c.args.start c.loop-i.i c.loop-i.logged.items
          c.push_reserved.new.self.items home c.read_block.new.out
          (inv.positions (c.read_block.ensures.model preserves) certain)
          c.push_reserved.ensures.items
          (rw c.address_at-home.ensures refl)
          (c.in_ok-read_block.ensures.newest preserves (certain_then first before inv.reads certain)
          ∙ image_then first before inv.reads (slot_block (c.args.start + c.loop-i.i)));
    }
