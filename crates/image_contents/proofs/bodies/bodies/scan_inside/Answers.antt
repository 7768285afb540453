use Rattle.std.proofs.Common.{◌≡◌, ◌≤◌, ◌&&◌, sym, subst, drop, length, arith}
use Rattle.std.proofs.lemmas.Result.{IfOk-weaker}
use Rattle.disk.specs.Crash.{Image}
use Rattle.layout.specs.declared.inode.InodeKind.TheVariants.{Directory}
use Rattle.layout.specs.Decode.{bytes_of}
use Rattle.layout.specs.Fields.{is_zeros}
use Rattle.layout.specs.Parts.{content_in}
use Rattle.circ.specs.Log.Recovery.{image_of}
use Rattle.image_read.specs.LoggedImage.WithOverlay.{with_overlay}
use Rattle.image_read.specs.Files.Slots.{IsSpanned}
use Rattle.image_contents.specs.Bodies.Bodies.{HasBlocksOf, IsScanned}
use Rattle.image_contents.specs.Bodies.Inner.{is_zero_below}
use Rattle.image_contents.proofs.BodiesLemmas.NoDouble.{few_in_directory, no_double_in_directory, no_double_in_link}
use Rattle.image_contents.proofs.BodiesLemmas.FileScans.{link_scanned, none_below, regular_scanned}
use Rattle.image_contents.proofs.BodiesLemmas.SlotsBeforeDouble.{spanned_before_double}
use Rattle.image_contents.proofs.bodies.bodies.scan_inside.Goals as goal

pub returns-in-Directory-clause-scanned : goal.returns-in-Directory-clause-scanned
returns-in-Directory-clause-scanned g c = λ preserves certain as_read sound are.
    let geometry = c.args.geometry.now in
    let inode = c.args.inode.now in
    let table = c.args.table.now in
    let content : Image =
    content_in geometry (with_overlay c.args.overlay.now (image_of (g.D.CrashDisk.device c.args.disk.now))) in
    let kind = c.in-Directory.is in
    let none = no_double_in_directory geometry inode sound kind in
    IfOk-weaker c.scan_slots.result
    (λ is_clean. IsScanned geometry content table c.args.number Directory inode c.args.links.now
    c.scan_slots.new.links is_clean)
    (λ is_clean. IsScanned geometry content table c.args.number inode.kind inode c.args.links.now c.scan_slots.new.links
    (is_clean && is_zero_below content inode))
    (λ is_clean scanned. subst (λ k. IsScanned geometry content table c.args.number k inode c.args.links.now
    c.scan_slots.new.links (is_clean && is_zero_below content inode)) (sym kind)
    (none_below geometry content inode table c.args.number as_read.long Directory c.args.links.now
    c.scan_slots.new.links is_clean none scanned))
    (c.scan_slots.ensures.scanned preserves certain as_read sound kind are)

pub returns-in-Directory-clause-refused : goal.returns-in-Directory-clause-refused
returns-in-Directory-clause-refused g c = λ preserves certain as_read sound are range has.
    let geometry = c.args.geometry.now in
    let inode = c.args.inode.now in
    let content : Image =
    content_in geometry (with_overlay c.args.overlay.now (image_of (g.D.CrashDisk.device c.args.disk.now))) in
    let kind = c.in-Directory.is in
    let both = subst (λ k. HasBlocksOf geometry content k inode) kind has in
    c.scan_slots.ensures.refused preserves certain as_read are range
    (subst (IsSpanned geometry.inodes content inode) (sym are)
    (spanned_before_double content inode sound.fits.count (no_double_in_directory geometry inode sound kind) geometry.inodes
    (few_in_directory geometry inode sound kind) both.1))

pub returns-in-Regular-clause-scanned : goal.returns-in-Regular-clause-scanned
returns-in-Regular-clause-scanned g c = λ preserves certain as_read sound are.
    let geometry = c.args.geometry.now in
    let inode = c.args.inode.now in
    let links = c.args.links.now in
    let table = c.args.table.now in
    let content : Image =
    content_in geometry (with_overlay c.args.overlay.now (image_of (g.D.CrashDisk.device c.args.disk.now))) in
    IfOk-weaker c.is_zero_past.result
    (λ yes. yes ≡ is_zeros (drop inode.size (bytes_of content c.args.numbers.now)))
    (λ is_clean. IsScanned geometry content table c.args.number inode.kind inode links links
    (is_clean && is_zero_below content inode))
    (λ is_clean zeros. subst (λ k. IsScanned geometry content table c.args.number k inode links links
    (is_clean && is_zero_below content inode)) (sym c.in-Regular.is)
    (regular_scanned geometry content inode table c.args.number as_read.long c.args.numbers.now links is_clean
    sound.fits.count are zeros))
    (c.is_zero_past.ensures.zeros preserves certain as_read.long)

pub returns-in-Link-clause-scanned : goal.returns-in-Link-clause-scanned
returns-in-Link-clause-scanned g c = λ preserves certain as_read sound are.
    let geometry = c.args.geometry.now in
    let inode = c.args.inode.now in
    let links = c.args.links.now in
    let table = c.args.table.now in
    let content : Image =
    content_in geometry (with_overlay c.args.overlay.now (image_of (g.D.CrashDisk.device c.args.disk.now))) in
    let count = sound.fits.count in
    let long : 1 ≤ length inode.direct = omega (arith, count) in
    let kind = c.in-Link.is in
    let none = no_double_in_link geometry inode sound kind in
    IfOk-weaker c.is_zero_past-in-Link.result
    (λ yes. yes ≡ is_zeros (drop inode.size (bytes_of content c.split_at.result.0.now)))
    (λ is_clean. IsScanned geometry content table c.args.number inode.kind inode links links
    (is_clean && is_zero_below content inode))
    (λ is_clean zeros. none_below geometry content inode table c.args.number as_read.long inode.kind links links is_clean none
    (subst (λ k. IsScanned geometry content table c.args.number k inode links links is_clean) (sym kind)
    (link_scanned geometry content inode table c.args.number c.args.numbers.now c.split_at.result.0.now links is_clean are
    c.split_at.ensures.front long zeros)))
    (c.is_zero_past-in-Link.ensures.zeros preserves certain as_read.long)
