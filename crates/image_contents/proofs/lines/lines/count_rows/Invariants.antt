use Rattle.std.proofs.Common.{◌≡◌, ◌≤◌, ◌*◌}
use Rattle.base.specs.declared.TheConstants.{INDIRECT_INDEXES}
use Rattle.layout.specs.Fields.{count_of}
use Rattle.circ.specs.Log.Recovery.{HasOnlyRead, IsCertain}
use Rattle.image_read.specs.Files.Content.{content_on}
use Rattle.image_read.proofs.FilesLemmas.Rows.{rows_of}
use Rattle.image_contents.proofs.lines.lines.count_rows.Given as goal

abbrev pub invariant-rows : goal.invariant-rows
invariant-rows g l = record {
  reads : HasOnlyRead (g.D.CrashDisk.device l.fn.disk) (g.D.CrashDisk.device l.disk);
  failures : (g.D.CrashDisk.device l.disk).failures ≡ (g.D.CrashDisk.device l.fn.disk).failures;
  model : g.D.CrashDisk.keeps_model l.disk → g.D.CrashDisk.keeps_model l.fn.disk;
  few : l.blocks ≤ INDIRECT_INDEXES * l.index;
  counted : g.D.CrashDisk.keeps_model l.disk → IsCertain (g.D.CrashDisk.device l.fn.disk)
      → l.blocks ≡ count_of
      (rows_of (content_on l.geometry l.overlay (g.D.CrashDisk.device l.fn.disk)) l.inner l.index);
}
