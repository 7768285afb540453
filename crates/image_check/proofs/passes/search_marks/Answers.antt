-- What is said by the marks and the links is said of the image.
use Rattle.std.proofs.Common.{◌∙◌, rules, ap, sym, subst, Bool, Err, arith}
use Rattle.disk.specs.Crash.{Image}
use Rattle.disk.specs.Device.{Device}
use Rattle.circ.specs.Log.Recovery.{image_of}
use Rattle.image_read.specs.LoggedImage.WithOverlay.{with_overlay}
use Rattle.image_read.specs.Counts.Linked.{HasCounts}
use Rattle.image_check.specs.Checked.{CountsCheck}
use Rattle.image_check.specs.Searched.{IsSearched}
use Rattle.image_check.specs.declared.judgement.Counts.{Counts}
use Rattle.image_check.proofs.Judged.{judged, no_marks, no_shared}
use Rattle.image_check.proofs.Refusing.{counts_none, counts_part, of_range}
use Rattle.image_check.proofs.passes.search_marks.Goals as goal

pub judge-requires-clause-some : goal.judge-requires-clause-some
judge-requires-clause-some g c =
    let least = c.args.found.now.geometry.lawful.1.0 in omega (arith, least, c.requires.table)

pub judge-requires-clause-few : goal.judge-requires-clause-few
judge-requires-clause-few g c =
    let most = c.args.found.now.geometry.lawful.1.1 in omega (arith, most, c.requires.table)

pub judge-requires-clause-counts : goal.judge-requires-clause-counts
judge-requires-clause-counts g c =
    subst (λ n. HasCounts n c.args.files.now.links) (sym c.requires.table) c.requires.fits.links

pub returns-then-is_shared-clause-searched : goal.returns-then-is_shared-clause-searched
returns-then-is_shared-clause-searched g c = λ preserves clean read seen.
    let old : Device = g.D.CrashDisk.device c.args.disk.now in
    let found = c.args.found.now in
    let image : Image = with_overlay c.args.overlay.now (image_of old) in
    no_shared found.geometry found.boot image c.args.table.now read c.args.files.now c.requires.fits seen
    (sym c.is_shared.ensures ∙ c.if-is_shared.true)

pub returns-in-Ok-true-clause-failure : goal.returns-in-Ok-true-clause-failure
returns-in-Ok-true-clause-failure g c =
    counts_none (g.D.CrashDisk.device c.args.disk.now) (g.D.CrashDisk.device c.are_marked.new.disk) c.judge.result
    c.in-Ok-true.ensures.failure c.judge.ensures.device

pub returns-in-Ok-true-clause-searched : goal.returns-in-Ok-true-clause-searched
returns-in-Ok-true-clause-searched g c = λ preserves clean read seen.
    let old : Device = g.D.CrashDisk.device c.args.disk.now in
    let found = c.args.found.now in
    let image : Image = with_overlay c.args.overlay.now (image_of old) in
    judged found.geometry found.boot image c.args.table.now read c.args.files.now c.requires.fits seen
    (sym c.is_shared.ensures ∙ c.if-is_shared.false) (c.in-Ok-true.ensures.yes preserves clean (search rules))
    c.judge.result
    c.judge.ensures.yes c.judge.ensures.no

pub returns-in-Ok-false-clause-searched : goal.returns-in-Ok-false-clause-searched
returns-in-Ok-false-clause-searched g c = λ preserves clean read seen.
    let old : Device = g.D.CrashDisk.device c.args.disk.now in
    let found = c.args.found.now in
    let image : Image = with_overlay c.args.overlay.now (image_of old) in
    no_marks found.geometry found.boot image c.args.table.now read c.args.files.now c.requires.fits seen
    (c.in-Ok-false.ensures.no preserves clean (search rules))

pub returns-in-Err-clause-failure : goal.returns-in-Err-clause-failure
returns-in-Err-clause-failure g c =
    let old : Device = g.D.CrashDisk.device c.args.disk.now in
    let new : Device = g.D.CrashDisk.device c.are_marked.new.disk in
    subst (λ cause. CountsCheck {T = Counts} old new (Err cause)) (sym c.of_part.ensures)
    (counts_part Counts Bool old new c.in-Err.cause c.in-Err.ensures.failure)

pub returns-in-Err-clause-searched : goal.returns-in-Err-clause-searched
returns-in-Err-clause-searched g c = λ preserves clean read seen.
    let old : Device = g.D.CrashDisk.device c.args.disk.now in
    let found = c.args.found.now in
    let image : Image = with_overlay c.args.overlay.now (image_of old) in
    subst (λ cause. IsSearched found.geometry found.boot image (Err cause)) (sym c.of_part.ensures)
    (of_range found.geometry found.boot image c.in-Err.cause (λ is. absurd (c.in-Err.ensures.other (ap Err is))))
