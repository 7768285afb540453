-- What is said by the files is said of the image.
use Rattle.std.proofs.Common.{◌≡◌, ap, sym, subst, Err}
use Rattle.disk.specs.Crash.{Image}
use Rattle.disk.specs.Device.{Device}
use Rattle.layout.specs.Parts.{content_in}
use Rattle.circ.specs.Log.Recovery.{image_of}
use Rattle.circ.proofs.LogLemmas.OnlyRead.{certain_then}
use Rattle.image_read.specs.LoggedImage.WithOverlay.{with_overlay}
use Rattle.image_contents.specs.declared.bodies.found.Found.{Found}
use Rattle.image_contents.specs.Bodies.Bodies.{IsFound}
use Rattle.image_check.specs.Checked.{CountsCheck}
use Rattle.image_check.specs.Searched.{IsRead, IsSearched}
use Rattle.image_check.specs.declared.judgement.Counts.{Counts}
use Rattle.image_check.proofs.Judged.{as_read, no_blocks}
use Rattle.image_check.proofs.Refusing.{counts_part, counts_then, image_is, of_range}
use Rattle.image_check.proofs.passes.search_files.Goals as goal

pub returns-in-Err-clause-failure : goal.returns-in-Err-clause-failure
returns-in-Err-clause-failure g c =
    let old : Device = g.D.CrashDisk.device c.args.disk.now in
    let new : Device = g.D.CrashDisk.device c.scan_all_files.new.disk in
    subst (λ cause. CountsCheck {T = Counts} old new (Err cause)) (sym c.of_part.ensures)
    (counts_part Counts Found old new c.in-Err.cause c.in-Err.ensures.failure)

pub returns-in-Err-clause-searched : goal.returns-in-Err-clause-searched
returns-in-Err-clause-searched g c = λ preserves clean read.
    let old : Device = g.D.CrashDisk.device c.args.disk.now in
    let found = c.args.found.now in
    let image : Image = with_overlay c.args.overlay.now (image_of old) in
    let table = c.args.table.now in
    subst (λ cause. IsSearched found.geometry found.boot image (Err cause)) (sym c.of_part.ensures)
    (of_range found.geometry found.boot image c.in-Err.cause (λ is.
    no_blocks found.geometry found.boot image table read
    (c.in-Err.ensures.refused preserves clean (as_read found.geometry found.boot image table read) (ap Err is))))

pub returns-in-Ok-clause-failure : goal.returns-in-Ok-clause-failure
returns-in-Ok-clause-failure g c =
    counts_then (g.D.CrashDisk.device c.args.disk.now) (g.D.CrashDisk.device c.scan_all_files.new.disk)
    (g.D.CrashDisk.device c.search_marks.new.disk) c.search_marks.result c.in-Ok.ensures.failure
    c.search_marks.ensures.failure

pub returns-in-Ok-clause-searched : goal.returns-in-Ok-clause-searched
returns-in-Ok-clause-searched g c = λ preserves clean read.
    let old : Device = g.D.CrashDisk.device c.args.disk.now in
    let middle : Device = g.D.CrashDisk.device c.scan_all_files.new.disk in
    let reads = c.in-Ok.ensures.reads in
    let found = c.args.found.now in
    let logged = c.args.overlay.now in
    let table = c.args.table.now in
    let files = c.in-Ok.files in
    let same : image_of middle ≡ image_of old = image_is old middle reads in
    let seen : IsFound found.geometry (content_in found.geometry (with_overlay logged (image_of old))) table
    found.geometry.inodes files =
    c.in-Ok.ensures.found (c.search_marks.ensures.model preserves) clean
    (as_read found.geometry found.boot (with_overlay logged (image_of old)) table read) in
    subst (λ (image : Image). IsSearched found.geometry found.boot (with_overlay logged image) c.search_marks.result) same
    (c.search_marks.ensures.searched preserves (certain_then old middle reads clean)
    (subst (λ (image : Image). IsRead found.geometry (with_overlay logged image) table) (sym same) read)
    (subst (λ (image : Image). IsFound found.geometry (content_in found.geometry (with_overlay logged image)) table
    found.geometry.inodes files) (sym same) seen))
