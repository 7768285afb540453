-- What the log shows is said of the image.
use Rattle.std.proofs.Common.{◌∙◌, sym, subst, Err, List}
use Rattle.std.specs.Prelude.{Vec}
use Rattle.disk.specs.Device.{Content, Device}
use Rattle.disk.specs.declared.block.BlockNo.{BlockNo}
use Rattle.std.specs.declared.alloc.Global.{Global}
use Rattle.circ.specs.Log.Recovery.{image_of}
use Rattle.image_check.specs.Checked.{CountsCheck, IsNotGood}
use Rattle.image_check.specs.Refused.{IsRefusal}
use Rattle.image_check.proofs.Refusing.{counts_log, no_log}
use Rattle.image_check.proofs.first.read_overlay.Goals as goal

pub returns-in-Err-clause-failure : goal.returns-in-Err-clause-failure
returns-in-Err-clause-failure g c =
    let old : Device = g.D.CrashDisk.device c.args.disk.now in
    let new : Device = g.D.CrashDisk.device c.read_log.new.disk in
    subst (λ cause. CountsCheck {T = List (BlockNo × Content)} old new (Err cause)) (sym c.of_log.ensures)
    (counts_log (List (BlockNo × Content)) (Vec (BlockNo × Content) Global) old new c.in-Err.cause
    c.in-Err.ensures.failure)

pub returns-in-Err-clause-refused : goal.returns-in-Err-clause-refused
returns-in-Err-clause-refused g c = λ preserves clean.
    let old : Device = g.D.CrashDisk.device c.args.disk.now in
    subst (IsRefusal (IsNotGood old.size (image_of old))) (sym c.of_log.ensures)
    (no_log old.size (image_of old) c.in-Err.cause (c.in-Err.ensures.log preserves clean))

pub returns-in-Ok-clause-log : goal.returns-in-Ok-clause-log
returns-in-Ok-clause-log g c = λ preserves clean. c.new.ensures ∙ (c.in-Ok.ensures.log preserves clean).0

pub returns-in-Ok-clause-range : goal.returns-in-Ok-clause-range
returns-in-Ok-clause-range g c = λ preserves clean. (c.in-Ok.ensures.log preserves clean).1

pub returns-in-Ok-clause-homes : goal.returns-in-Ok-clause-homes
returns-in-Ok-clause-homes g c = λ preserves clean. (c.in-Ok.ensures.log preserves clean).2
