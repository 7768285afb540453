use Rattle.std.proofs.Common.{◌≡◌, ◌-◌, ◌*◌, ◌<◌, ◌++◌, ℕ, List, length, drop, filter, get_or}
use Rattle.base.specs.declared.TheConstants.{BLOCK_BYTES, FIRST_DOUBLE_INDEX}
use Rattle.layout.specs.Decode.{bytes_of}
use Rattle.layout.specs.Fields.{is_zeros}
use Rattle.circ.specs.Log.Recovery.{HasOnlyRead, IsCertain}
use Rattle.image_read.specs.ImageCounts.Tally.{IsOwned}
use Rattle.image_read.specs.Files.Content.{AreLong, content_on}
use Rattle.image_read.specs.Files.RowNumbers.{IsRowMapped}
use Rattle.image_read.proofs.FilesLemmas.Rows.{rows_of}
use Rattle.image_read.specs.Counts.Adds.{is_some}
use Rattle.image_contents.proofs.bodies.inner.scan_rows.Given as goal

abbrev pub invariant-rows : goal.invariant-rows
invariant-rows g l = record {
  reads : HasOnlyRead (g.D.CrashDisk.device l.fn.disk) (g.D.CrashDisk.device l.disk);
  failures : (g.D.CrashDisk.device l.disk).failures ≡ (g.D.CrashDisk.device l.fn.disk).failures;
  model : g.D.CrashDisk.keeps_model l.disk → g.D.CrashDisk.keeps_model l.fn.disk;
  owners : length l.owners.has ≡ length l.fn.owners.has;
  zero : g.D.CrashDisk.keeps_model l.disk → IsCertain (g.D.CrashDisk.device l.fn.disk)
      → AreLong (content_on l.geometry l.overlay (g.D.CrashDisk.device l.fn.disk))
      → l.is_zero ≡ is_zeros (drop (l.size - BLOCK_BYTES * FIRST_DOUBLE_INDEX)
      (bytes_of (content_on l.geometry l.overlay (g.D.CrashDisk.device l.fn.disk))
      (rows_of (content_on l.geometry l.overlay (g.D.CrashDisk.device l.fn.disk)) l.inner l.index)));
  mapped : g.D.CrashDisk.keeps_model l.disk → IsCertain (g.D.CrashDisk.device l.fn.disk)
      → AreLong (content_on l.geometry l.overlay (g.D.CrashDisk.device l.fn.disk))
      → (i : ℕ) → i < l.index → IsRowMapped l.geometry
      (content_on l.geometry l.overlay (g.D.CrashDisk.device l.fn.disk)) (get_or l.inner i 0);
  owned : g.D.CrashDisk.keeps_model l.disk → IsCertain (g.D.CrashDisk.device l.fn.disk)
      → AreLong (content_on l.geometry l.overlay (g.D.CrashDisk.device l.fn.disk))
      → (met : List ℕ) → IsOwned met l.fn.owners → IsOwned (met ++ filter is_some
      (rows_of (content_on l.geometry l.overlay (g.D.CrashDisk.device l.fn.disk)) l.inner l.index)) l.owners;
}
