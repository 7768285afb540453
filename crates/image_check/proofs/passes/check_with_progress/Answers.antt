-- What the parts of a check say, it says of the image.
use Rattle.std.proofs.Common.{◌≡◌, sym, subst}
use Rattle.disk.specs.Crash.{Image}
use Rattle.disk.specs.Device.{Device}
use Rattle.base.specs.declared.TheConstants.{SUPER_BLOCK}
use Rattle.layout.specs.declared.super_block.Super.{Super}
use Rattle.layout.specs.SuperForm.{IsSuper}
use Rattle.circ.specs.Log.Recovery.{image_of}
use Rattle.circ.proofs.LogLemmas.OnlyRead.{certain_then}
use Rattle.image_check.specs.Checked.{IsChecked}
use Rattle.image_check.specs.declared.judgement.Counts.{Counts}
use Rattle.image_check.proofs.Refusing.{as_checked, counts_as, counts_then, image_is}
use Rattle.image_check.proofs.passes.check_with_progress.Goals as goal

pub returns-in-Err-clause-failure : goal.returns-in-Err-clause-failure
returns-in-Err-clause-failure g c =
    counts_as Counts Super (g.D.CrashDisk.device c.args.disk.now) (g.D.CrashDisk.device c.read_first.new.disk)
    c.in-Err.cause c.in-Err.ensures.failure

pub returns-in-Err-clause-checked : goal.returns-in-Err-clause-checked
returns-in-Err-clause-checked g c = λ preserves clean.
    let old : Device = g.D.CrashDisk.device c.args.disk.now in
    as_checked old.size (image_of old) c.in-Err.cause (c.in-Err.ensures.refused preserves clean)

pub returns-in-Ok-clause-failure : goal.returns-in-Ok-clause-failure
returns-in-Ok-clause-failure g c =
    counts_then (g.D.CrashDisk.device c.args.disk.now) (g.D.CrashDisk.device c.read_first.new.disk)
    (g.D.CrashDisk.device c.check_log.new.disk) c.check_log.result c.in-Ok.ensures.failure c.check_log.ensures.failure

pub returns-in-Ok-clause-checked : goal.returns-in-Ok-clause-checked
returns-in-Ok-clause-checked g c = λ preserves clean.
    let old : Device = g.D.CrashDisk.device c.args.disk.now in
    let middle : Device = g.D.CrashDisk.device c.read_first.new.disk in
    let reads = c.in-Ok.ensures.reads in
    let found = c.in-Ok.found in
    let same : image_of middle ≡ image_of old = image_is old middle reads in
    let is = c.in-Ok.ensures.found (c.check_log.ensures.model preserves) clean in
    let said : IsChecked middle.size (image_of middle) c.check_log.result =
    c.check_log.ensures.checked preserves (certain_then old middle reads clean)
    (subst (λ (image : Image). IsSuper (image SUPER_BLOCK) found) (sym same) is) in
    subst (λ (image : Image). IsChecked old.size image c.check_log.result) same
    (subst (λ n. IsChecked n (image_of middle) c.check_log.result) reads.size said)
