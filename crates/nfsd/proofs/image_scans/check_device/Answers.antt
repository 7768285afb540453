use Rattle.std.proofs.Common.{refl}
use Rattle.nfsd.proofs.OfDevice.{counts_printed}
use Rattle.nfsd.proofs.image_scans.check_device.Goals as goal

pub returns-in-Ok : goal.returns-in-Ok
returns-in-Ok g c =
    counts_printed (g.D.CrashDisk.keeps_model c.check_with_progress.new.disk) (g.D.CrashDisk.device c.args.disk.now)
    (g.D.CrashDisk.device c.check_with_progress.new.disk) (g.O.Write.contents c.args.writer.now)
    (g.O.Write.contents c.print_counts.new.writer) c.in-Ok.counts c.print_counts.result
    (record {
      reads = c.in-Ok.ensures.reads;
      failure = c.in-Ok.ensures.failure;
      checked = c.in-Ok.ensures.checked;
    })
    c.print_counts.ensures.printed c.print_counts.ensures.print

pub returns-in-Err : goal.returns-in-Err
returns-in-Err g c = (
  record {
    reads = c.in-Err.ensures.reads;
    failure = c.in-Err.ensures.failure;
    checked = c.in-Err.ensures.checked;
  },
  refl,
)
