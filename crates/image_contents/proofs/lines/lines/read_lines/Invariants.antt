use Rattle.std.proofs.Common.{◌≡◌}
use Rattle.circ.specs.Log.Recovery.{HasOnlyRead, IsCertain}
use Rattle.image_read.specs.Files.Content.{content_on}
use Rattle.image_contents.specs.Lines.Lines.{lines_below}
use Rattle.image_contents.proofs.lines.lines.read_lines.Given as goal

abbrev pub invariant-numbers : goal.invariant-numbers
invariant-numbers g l = record {
  reads : HasOnlyRead (g.D.CrashDisk.device l.fn.disk) (g.D.CrashDisk.device l.disk);
  failures : (g.D.CrashDisk.device l.disk).failures ≡ (g.D.CrashDisk.device l.fn.disk).failures;
  model : g.D.CrashDisk.keeps_model l.disk → g.D.CrashDisk.keeps_model l.fn.disk;
  lines : g.D.CrashDisk.keeps_model l.disk → IsCertain (g.D.CrashDisk.device l.fn.disk)
      → l.lines.items
      ≡ lines_below (content_on l.geometry l.overlay (g.D.CrashDisk.device l.fn.disk)) l.table l.number;
}
