use Rattle.std.proofs.Common.{subst, Ok, Err}
use Rattle.base.specs.declared.TheConstants.{SUPER_BLOCK}
use Rattle.disk.specs.Device.{Content, HasWritten}
use Rattle.store_images.proofs.FormatStops.{blanked_stops, first_written}
use Rattle.store_images.proofs.formatter.blank.Goals as goal

pub returns-in_err-write-clause-stops : goal.returns-in_err-write-clause-stops
returns-in_err-write-clause-stops g c = λ geometry moment.
    first_written (g.D.CrashDisk.device c.args.disk.now) geometry moment (g.D.CrashDisk.device c.write.new.self)
    (Err c.in_err-write.field-0.0) c.requires.some
    (subst (λ (content : Content). HasWritten (g.D.CrashDisk.device c.args.disk.now) SUPER_BLOCK content
    (Err c.in_err-write.field-0.0) (g.D.CrashDisk.device c.write.new.self)) c.requires.zeros
    c.in_err-write.ensures.call)

pub returns-clause-stops : goal.returns-clause-stops
returns-clause-stops g c =
    blanked_stops (g.D.CrashDisk.device c.args.disk.now) (g.D.CrashDisk.device c.write.new.self)
    (g.D.CrashDisk.device c.barrier.new.self) c.barrier.result c.requires.some
    (subst (λ (content : Content). HasWritten (g.D.CrashDisk.device c.args.disk.now) SUPER_BLOCK content
    (Ok tt) (g.D.CrashDisk.device c.write.new.self)) c.requires.zeros c.in_ok-write.ensures.call)
    c.barrier.ensures.call
