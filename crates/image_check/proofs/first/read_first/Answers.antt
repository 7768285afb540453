-- What the super block shows is said of the image.
use Rattle.std.proofs.Common.{sym, subst, Err}
use Rattle.disk.specs.Device.{Device}
use Rattle.layout.specs.declared.super_block.Super.{Super}
use Rattle.circ.specs.Log.Recovery.{image_of}
use Rattle.image_check.specs.Checked.{CountsCheck, IsNotGood}
use Rattle.image_check.specs.Refused.{IsRefusal}
use Rattle.image_check.proofs.Refusing.{counts_open, refused_first}
use Rattle.image_check.proofs.first.read_first.Goals as goal

pub returns-clause-failure : goal.returns-clause-failure
returns-clause-failure g c =
    let old : Device = g.D.CrashDisk.device c.args.disk.now in
    let new : Device = g.D.CrashDisk.device c.read_super.new.disk in
    subst (λ cause. CountsCheck {T = Super} old new (Err cause)) (sym c.of_open.ensures)
    (counts_open Super old new c.in-Err-read_super.cause c.in-Err-read_super.ensures.failure)

pub returns-clause-refused : goal.returns-clause-refused
returns-clause-refused g c = λ preserves clean.
    let old : Device = g.D.CrashDisk.device c.args.disk.now in
    let new : Device = g.D.CrashDisk.device c.read_super.new.disk in
    subst (IsRefusal (IsNotGood old.size (image_of old))) (sym c.of_open.ensures)
    (refused_first (g.D.CrashDisk.keeps_model c.read_super.new.disk) c.in-Err-read_super.cause old new
    c.in-Err-read_super.ensures.refused preserves
    clean)
