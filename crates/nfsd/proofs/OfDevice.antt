-- What comes of a look at a device, once its answer was printed or wasn't.
use Rattle.std.proofs.Common.{◌≡◌, ℕ, List, Option, Result, Ok, Err, subst, sym, Vec, Global}
use Rattle.std.specs.Prelude.{IfErr, OnOk}
use Rattle.std.specs.Io.KnownBytes.{Appends}
use Rattle.disk.specs.Device.{Device}
use Rattle.image_check.specs.declared.judgement.Counts.{Counts}
use Rattle.image_contents.specs.declared.lines.line.Line.{Line}
use Rattle.image_contents.specs.Lines.Printed.{lines_text}
use Rattle.nfsd.specs.declared.fault.Fault.{Fault}
use Rattle.nfsd.specs.declared.fault.Fault.TheVariants as fault
use Rattle.nfsd.specs.ImageScans.{ChecksDevice, IsCheckOf, IsShowOf, ShowsDevice, clean_line}

module _ (keeps_model : Type 0) (old new : Device) (written later : Option (List ℕ)) where
  -- its counts were printed
  pub counts_printed : (counts : Counts) (outcome : Result (Unit {0}) Fault)
      → IsCheckOf keeps_model old (Ok counts) new → OnOk outcome (Appends written later (clean_line counts))
      → IfErr outcome (λ why. why ≡ fault.Print) → ChecksDevice keeps_model old written outcome new later
  counts_printed counts (Ok done) check printed print = (counts, check, printed)
  counts_printed counts (Err why) check printed print =
      subst (λ (f : Fault). ChecksDevice keeps_model old written (Err f) new later) (sym print) (counts, check)

  -- the lines of its files were
  pub lines_printed : (lines : Vec Line Global) (outcome : Result (Unit {0}) Fault)
      → IsShowOf keeps_model old (Ok lines) new → OnOk outcome (Appends written later (lines_text lines.items))
      → IfErr outcome (λ why. why ≡ fault.Print) → ShowsDevice keeps_model old written outcome new later
  lines_printed lines (Ok done) show printed print = (lines, show, printed)
  lines_printed lines (Err why) show printed print =
      subst (λ (f : Fault). ShowsDevice keeps_model old written (Err f) new later) (sym print) (lines, show)
