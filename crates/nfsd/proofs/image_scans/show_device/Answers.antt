use Rattle.std.proofs.Common.{OnOk, refl, subst}
use Rattle.std.specs.Io.KnownBytes.{Appends}
use Rattle.image_contents.specs.Lines.Printed.{lines_text}
use Rattle.nfsd.proofs.OfDevice.{lines_printed}
use Rattle.nfsd.proofs.image_scans.show_device.Goals as goal

pub returns-in-Ok : goal.returns-in-Ok
returns-in-Ok g c =
    lines_printed (g.D.CrashDisk.keeps_model c.show.new.disk) (g.D.CrashDisk.device c.args.disk.now)
    (g.D.CrashDisk.device c.show.new.disk) (g.O.Write.contents c.args.writer.now)
    (g.O.Write.contents c.print_files.new.writer) c.in-Ok.lines c.print_files.result
    (record {
      reads = c.in-Ok.ensures.reads;
      failure = c.in-Ok.ensures.failure;
      shown = c.in-Ok.ensures.shown;
    })
    (subst (λ lines. OnOk c.print_files.result (Appends (g.O.Write.contents c.args.writer.now)
    (g.O.Write.contents c.print_files.new.writer) (lines_text lines))) c.deref.ensures.value
    c.print_files.ensures.printed)
    c.print_files.ensures.print

pub returns-in-Err : goal.returns-in-Err
returns-in-Err g c = (
  record {
    reads = c.in-Err.ensures.reads;
    failure = c.in-Err.ensures.failure;
    shown = c.in-Err.ensures.shown;
  },
  refl,
)
