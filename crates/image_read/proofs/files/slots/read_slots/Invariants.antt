use Rattle.std.proofs.Common.{◌≡◌, ◌*◌}
use Rattle.base.specs.declared.TheConstants.{SLOTS_PER_BLOCK}
use Rattle.layout.specs.Decode.{bytes_of}
use Rattle.circ.specs.Log.Recovery.{HasOnlyRead, IsCertain}
use Rattle.image_read.specs.Files.Content.{AreLong, content_on}
use Rattle.image_read.specs.Files.Slots.{AreWithin, HasSlots}
use Rattle.image_read.proofs.files.slots.read_slots.Given as goal

abbrev pub invariant-places : goal.invariant-places
invariant-places g l = record {
  reads : HasOnlyRead (g.D.CrashDisk.device l.fn.disk) (g.D.CrashDisk.device l.disk);
  failures : (g.D.CrashDisk.device l.disk).failures ≡ (g.D.CrashDisk.device l.fn.disk).failures;
  model : g.D.CrashDisk.keeps_model l.disk → g.D.CrashDisk.keeps_model l.fn.disk;
  within : AreWithin l.geometry.inodes l.slots.items;
  slots : g.D.CrashDisk.keeps_model l.disk → IsCertain (g.D.CrashDisk.device l.fn.disk)
      → AreLong (content_on l.geometry l.overlay (g.D.CrashDisk.device l.fn.disk))
      → HasSlots l.geometry.inodes (bytes_of (content_on l.geometry l.overlay (g.D.CrashDisk.device l.fn.disk)) l.numbers)
      (SLOTS_PER_BLOCK * l.index_within) l.slots.items;
}
