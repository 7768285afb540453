use Rattle.std.proofs.Common.{◌≡◌, ◌≤◌, length, All}
use Rattle.std.specs.Vec.{vec_capacity}
use Rattle.circ.specs.Log.Log.{IsHomeOn, blocks_of}
use Rattle.circ.specs.Log.Overlay.{positions}
use Rattle.circ.specs.Log.Recovery.{HasOnlyRead, IsCertain, image_of}
use Rattle.circ.proofs.recovery.read_slots.Given as goal

abbrev pub invariant-loop-i : goal.invariant-loop-i
invariant-loop-i g l = record {
  reads : HasOnlyRead (g.D.CrashDisk.device l.fn.disk) (g.D.CrashDisk.device l.disk);
  failures : (g.D.CrashDisk.device l.disk).failures ≡ (g.D.CrashDisk.device l.fn.disk).failures;
  model : g.D.CrashDisk.keeps_model l.disk → g.D.CrashDisk.keeps_model l.fn.disk;
  count : length l.logged.items ≡ l.i;
  has_space : l.count ≤ vec_capacity l.logged;
  homes : All (IsHomeOn l.blocks) (blocks_of l.logged.items);
  positions : g.D.CrashDisk.keeps_model l.disk → IsCertain (g.D.CrashDisk.device l.fn.disk)
      → l.logged.items ≡ positions l.header (image_of (g.D.CrashDisk.device l.fn.disk)) l.start l.i;
}
