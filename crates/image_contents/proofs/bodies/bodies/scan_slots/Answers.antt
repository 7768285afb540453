use Rattle.std.proofs.Common.{◌∙◌, ap, sym, subst, Ok}
use Rattle.disk.specs.Crash.{Image}
use Rattle.layout.specs.Parts.{content_in}
use Rattle.circ.specs.Log.Recovery.{image_of}
use Rattle.image_read.specs.LoggedImage.WithOverlay.{with_overlay}
use Rattle.image_contents.specs.Names.Names.{AreNames}
use Rattle.image_contents.proofs.BodiesLemmas.NoDouble.{no_double_in_directory}
use Rattle.image_contents.proofs.BodiesLemmas.FileScans.{AddsSlots, slots_scanned}
use Rattle.image_contents.proofs.bodies.bodies.scan_slots.Goals as goal

pub returns-clause-scanned : goal.returns-clause-scanned
returns-clause-scanned g c = λ preserves certain as_read sound kind are.
    let geometry = c.args.geometry.now in
    let inode = c.args.inode.now in
    let content : Image = content_in geometry
    (with_overlay c.args.overlay.now (image_of (g.D.CrashDisk.device c.args.disk.now))) in
    slots_scanned geometry content inode c.args.table.now c.args.number c.args.numbers.now
    c.in_ok-slots.slots.items c.args.links.now c.count_names.new.links c.in_ok-are_names.field-0
    sound.fits.count (no_double_in_directory geometry inode sound kind) c.requires.numbers are
    (c.in_ok-slots.ensures.spanned preserves certain as_read.long)
    (c.in_ok-slots.ensures.slots preserves certain as_read.long)
    (subst (λ l. AddsSlots c.args.table.now c.args.number c.args.links.now c.count_names.new.links l)
    c.deref.ensures.value c.count_names.ensures.named)
    (λ t. subst (λ l. AreNames l) c.deref-2.ensures.value (c.are_names.ensures.yes (c.in_ok-are_names.was ∙ ap Ok t)))
    (λ f names. c.are_names.ensures.no (c.in_ok-are_names.was ∙ ap Ok f)
    (subst (λ l. AreNames l) (sym c.deref-2.ensures.value) names))
