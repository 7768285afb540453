use Rattle.std.proofs.Common.{rules, ◌≡◌, ◌∙◌, ap, subst, sym, get_or, length, None, Err}
use Rattle.disk.specs.Crash.{Image}
use Rattle.disk.specs.Device.{Device}
use Rattle.layout.specs.Parts.{content_in}
use Rattle.circ.specs.Log.Effects.{newest_in}
use Rattle.circ.specs.Log.Overlay.{content_or, over}
use Rattle.circ.specs.Log.Recovery.{image_of}
use Rattle.circ.proofs.LogLemmas.OnlyRead.{certain_then}
use Rattle.image_read.specs.LoggedImage.WithOverlay.{with_overlay}
use Rattle.image_read.specs.Parts.Table.{HasRefusedInode, IsTable}
use Rattle.image_read.proofs.FilesLemmas.Then.{contents_then}
use Rattle.image_contents.specs.Lines.Lines.{IsCountedIfAny, lines_below}
use Rattle.image_contents.proofs.LinesLemmas.Files.{each_counted, lines_are, none_refused}
use Rattle.image_contents.proofs.LinesLemmas.OfTable.{as_lines, for_cause}
use Rattle.image_contents.proofs.lines.shown_files.all_lines.Goals as goal

pub returns-in_err-table-clause-lines : goal.returns-in_err-table-clause-lines
returns-in_err-table-clause-lines g c = λ preserves certain tree is stands.
    let image : Image = image_of (g.D.CrashDisk.device c.args.disk.now) in
    let geometry = c.args.geometry.now in
    let overlaid_image : with_overlay c.args.overlay.now image ≡ over image =
    λ i block. content_or (newest_in (is i) block) (image block) in
    let same : c.from_residual.result ≡ Err c.in_err-table.field-0.0 = search rules in
    rw same (for_cause tree c.in_err-table.field-0.0 (λ range. none_refused geometry (over image) tree stands
    (subst (HasRefusedInode geometry) overlaid_image (c.in_err-table.ensures.refused preserves certain (ap (λ f. Err f) range)))))

pub returns-clause-lines : goal.returns-clause-lines
returns-clause-lines g c = λ preserves certain tree is stands.
    let first : Device = g.D.CrashDisk.device c.args.disk.now in
    let middle : Device = g.D.CrashDisk.device c.read_table.new.disk in
    let image : Image = image_of first in
    let geometry = c.args.geometry.now in
    let logged = c.args.overlay.now in
    let table = c.deref.result.now in
    let reads = c.in_ok-table.ensures.reads in
    let later = certain_then first middle reads certain in
    let overlaid_image : with_overlay logged image ≡ over image = λ i block. content_or (newest_in (is i) block) (image block) in
    let moved : content_in geometry (with_overlay logged (image_of middle)) ≡ content_in geometry (over image) =
    contents_then geometry logged first middle reads ∙ ap (content_in geometry) overlaid_image in
    let read = subst (λ t. IsTable geometry (over image) geometry.inodes t) (sym c.deref.ensures.value)
    (subst (λ k. IsTable geometry k geometry.inodes c.in_ok-table.table.items) overlaid_image
    (c.in_ok-table.ensures.table (c.read_lines.ensures.model preserves) certain)) in
    as_lines tree c.read_lines.result
    (lines_below (content_in geometry (with_overlay logged (image_of middle))) table (length table))
    (c.read_lines.ensures.lines preserves later)
    (ap (λ k. lines_below k table (length table)) moved ∙ lines_are geometry (over image) tree stands table read)
    (λ range. c.read_lines.ensures.refused preserves later range (λ number less.
    subst (λ k. IsCountedIfAny geometry k (get_or table number None)) (sym moved)
    (each_counted geometry (over image) tree stands table read number less)))
