-- What is said by the table is said of the image.
use Rattle.std.proofs.Common.{◌≡◌, ap, sym, subst, Err, List, Option}
use Rattle.std.specs.Prelude.{Vec}
use Rattle.std.specs.declared.alloc.Global.{Global}
use Rattle.disk.specs.Crash.{Image}
use Rattle.disk.specs.Device.{Device}
use Rattle.layout.specs.declared.inode.Inode.{Inode}
use Rattle.circ.specs.Log.Recovery.{image_of}
use Rattle.circ.proofs.LogLemmas.OnlyRead.{certain_then}
use Rattle.image_read.specs.LoggedImage.WithOverlay.{with_overlay}
use Rattle.image_check.specs.Checked.{CountsCheck}
use Rattle.image_check.specs.Searched.{IsRead, IsSearched}
use Rattle.image_check.specs.declared.judgement.Counts.{Counts}
use Rattle.image_check.proofs.Judged.{no_table}
use Rattle.image_check.proofs.Refusing.{counts_part, counts_then, image_is, of_range}
use Rattle.image_check.proofs.passes.search.Goals as goal

pub returns-in-Err-clause-failure : goal.returns-in-Err-clause-failure
returns-in-Err-clause-failure g c =
    let old : Device = g.D.CrashDisk.device c.args.disk.now in
    let new : Device = g.D.CrashDisk.device c.read_table.new.disk in
    subst (λ cause. CountsCheck {T = Counts} old new (Err cause)) (sym c.of_part.ensures)
    (counts_part Counts (Vec (Option Inode) Global) old new c.in-Err.cause c.in-Err.ensures.failure)

pub returns-in-Err-clause-searched : goal.returns-in-Err-clause-searched
returns-in-Err-clause-searched g c = λ preserves clean blocks.
    let old : Device = g.D.CrashDisk.device c.args.disk.now in
    let found = c.args.found.now in
    let image : Image = with_overlay c.args.overlay.now (image_of old) in
    subst (λ cause. IsSearched found.geometry found.boot image (Err cause)) (sym c.of_part.ensures)
    (of_range found.geometry found.boot image c.in-Err.cause (λ is. no_table found.geometry found.boot image
    (c.in-Err.ensures.refused preserves clean (ap Err is))))

pub returns-in-Ok-clause-failure : goal.returns-in-Ok-clause-failure
returns-in-Ok-clause-failure g c =
    counts_then (g.D.CrashDisk.device c.args.disk.now) (g.D.CrashDisk.device c.read_table.new.disk)
    (g.D.CrashDisk.device c.search_files.new.disk) c.search_files.result c.in-Ok.ensures.failure
    c.search_files.ensures.failure

pub returns-in-Ok-clause-searched : goal.returns-in-Ok-clause-searched
returns-in-Ok-clause-searched g c = λ preserves clean blocks.
    let old : Device = g.D.CrashDisk.device c.args.disk.now in
    let middle : Device = g.D.CrashDisk.device c.read_table.new.disk in
    let reads = c.in-Ok.ensures.reads in
    let found = c.args.found.now in
    let logged = c.args.overlay.now in
    let same : image_of middle ≡ image_of old = image_is old middle reads in
    let read : IsRead found.geometry (with_overlay logged (image_of old)) c.in-Ok.table.items = record {
      blocks = blocks;
      inodes = c.in-Ok.ensures.table (c.search_files.ensures.model preserves) clean;
    } in
    let there : IsRead found.geometry (with_overlay logged (image_of middle)) c.deref.result.now =
    subst (λ (image : Image). IsRead found.geometry (with_overlay logged image) c.deref.result.now) (sym same)
    (subst (λ (l : List (Option Inode)). IsRead found.geometry (with_overlay logged (image_of old)) l)
    (sym c.deref.ensures.value) read) in
    subst (λ (image : Image). IsSearched found.geometry found.boot (with_overlay logged image) c.search_files.result) same
    (c.search_files.ensures.searched preserves (certain_then old middle reads clean) there)
