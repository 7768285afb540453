use Rattle.std.proofs.Common.{rules, ◌≡◌, ◌∙◌, ◌&&◌, ◌++◌, ◌∷◌, ap, sym, subst, filter, length, true, Err}
use Rattle.std.specs.List.{list_all}
use Rattle.disk.specs.Crash.{Image}
use Rattle.disk.specs.Device.{Device}
use Rattle.layout.specs.Parts.{content_in}
use Rattle.circ.specs.Log.Recovery.{image_of}
use Rattle.circ.proofs.LogLemmas.OnlyRead.{reads_then, certain_then}
use Rattle.image_read.specs.LoggedImage.WithOverlay.{with_overlay}
use Rattle.image_read.specs.ImageCounts.Tally.{IsOwned}
use Rattle.image_read.specs.declared.parts.fault.PartFault.TheVariants.{Range}
use Rattle.image_read.specs.Files.RowNumbers.{IsBelowMapped, numbers_before_double}
use Rattle.image_read.proofs.FilesLemmas.AllMapped.{all_mapped, below_of_mapped, before_double_of_mapped}
use Rattle.image_read.proofs.FilesLemmas.Then.{contents_then}
use Rattle.image_read.specs.Counts.Adds.{is_none_or_below, is_some}
use Rattle.image_contents.specs.Bodies.Bodies.{AreAsRead, HasBlocksOf, IsScanned, first_unclean}
use Rattle.image_contents.specs.Bodies.Inner.{below_of, is_zero_below}
use Rattle.image_contents.proofs.BodiesLemmas.Finding.{file_added}
use Rattle.image_contents.proofs.BodiesLemmas.FileScans.{all_below, has_blocks, mapped_of_blocks, none_or_below}
use Rattle.image_contents.proofs.BodiesLemmas.AllMet.{all_met}
use Rattle.image_contents.proofs.bodies.bodies.scan_file.Goals as goal

pub meet_blocks-requires-clause-indirect : goal.meet_blocks-requires-clause-indirect
meet_blocks-requires-clause-indirect g c =
    none_or_below c.args.geometry.now (length c.args.found.now.owners.has) c.requires.fits.owners
    c.args.inode.now.indirect c.in_ok-numbers.ensures.indirect

pub meet_blocks-requires-clause-numbers : goal.meet_blocks-requires-clause-numbers
meet_blocks-requires-clause-numbers g c =
    let size = length c.args.found.now.owners.has in
    subst (λ l. list_all (is_none_or_below size) l ≡ true) (sym c.deref.ensures.value)
    (all_below c.args.geometry.now size c.requires.fits.owners c.in_ok-numbers.numbers.items
    c.in_ok-numbers.ensures.placed)

pub returns-in_err-numbers-clause-refused : goal.returns-in_err-numbers-clause-refused
returns-in_err-numbers-clause-refused g c = λ preserves certain as_read sound range has.
    let geometry = c.args.geometry.now in
    let inode = c.args.inode.now in
    let content : Image = content_in geometry
    (with_overlay c.args.overlay.now (image_of (g.D.CrashDisk.device c.args.disk.now))) in
    let fault : c.in_err-numbers.field-0.0 ≡ Range = search rules in
    c.in_err-numbers.ensures.refused preserves certain sound (ap Err fault)
    (before_double_of_mapped geometry content inode (mapped_of_blocks geometry content inode inode.kind has))

pub returns-in_err-further-clause-refused : goal.returns-in_err-further-clause-refused
returns-in_err-further-clause-refused g c = λ preserves certain as_read sound range has.
    let first : Device = g.D.CrashDisk.device c.args.disk.now in
    let middle : Device = g.D.CrashDisk.device c.read_numbers.new.disk in
    let geometry = c.args.geometry.now in
    let inode = c.args.inode.now in
    let reads = c.read_numbers.ensures.reads in
    let same = contents_then geometry c.args.overlay.now first middle reads in
    let content : Image = content_in geometry (with_overlay c.args.overlay.now (image_of middle)) in
    let fault : c.in_err-further.field-0.0 ≡ Range = search rules in
    c.in_err-further.ensures.refused preserves (certain_then first middle reads certain) (ap Err fault)
    (below_of_mapped geometry content inode (mapped_of_blocks geometry content inode inode.kind
    (subst (λ k. HasBlocksOf geometry k inode.kind inode) (sym same) has)))

pub returns-in_err-is_clean-clause-refused : goal.returns-in_err-is_clean-clause-refused
returns-in_err-is_clean-clause-refused g c = λ preserves certain as_read sound range has.
    let first : Device = g.D.CrashDisk.device c.args.disk.now in
    let middle : Device = g.D.CrashDisk.device c.read_numbers.new.disk in
    let later : Device = g.D.CrashDisk.device c.scan_below.new.disk in
    let geometry = c.args.geometry.now in
    let inode = c.args.inode.now in
    let reads = reads_then first middle later c.read_numbers.ensures.reads c.scan_below.ensures.reads in
    let same = contents_then geometry c.args.overlay.now first later reads in
    let fault : c.in_err-is_clean.field-0.0 ≡ Range = search rules in
    let is_preserved = c.scan_below.ensures.model (c.scan_inside.ensures.model preserves) in
    c.in_err-is_clean.ensures.refused preserves (certain_then first later reads certain)
    (subst (λ k. AreAsRead geometry k c.args.table.now) (sym same) as_read) sound
    (c.deref-2.ensures.value ∙ (c.in_ok-numbers.ensures.numbers is_preserved certain).0
    ∙ ap (λ k. numbers_before_double k inode) (sym same)) (ap Err fault)
    (subst (λ k. HasBlocksOf geometry k inode.kind inode) (sym same) has)

pub returns-clause-blocks : goal.returns-clause-blocks
returns-clause-blocks g c = λ preserves certain as_read sound.
    let first : Device = g.D.CrashDisk.device c.args.disk.now in
    let middle : Device = g.D.CrashDisk.device c.read_numbers.new.disk in
    let later : Device = g.D.CrashDisk.device c.scan_below.new.disk in
    let geometry = c.args.geometry.now in
    let table = c.args.table.now in
    let inode = c.args.inode.now in
    let reads = reads_then first middle later c.read_numbers.ensures.reads c.scan_below.ensures.reads in
    let same_middle = contents_then geometry c.args.overlay.now first middle c.read_numbers.ensures.reads in
    let same = contents_then geometry c.args.overlay.now first later reads in
    let content : Image = content_in geometry (with_overlay c.args.overlay.now (image_of first)) in
    let model_later = c.scan_inside.ensures.model preserves in
    let is_preserved = c.scan_below.ensures.model model_later in
    let read = c.in_ok-numbers.ensures.numbers is_preserved certain in
    let below = c.in_ok-further.ensures.scanned model_later
    (certain_then first middle c.read_numbers.ensures.reads certain)
    (subst (λ k. AreAsRead geometry k table) (sym same_middle) as_read).long in
    let scanned : IsScanned geometry content table c.args.number inode.kind inode c.args.found.now.links
    c.scan_inside.new.links (c.in_ok-is_clean.is_clean && is_zero_below content inode) =
    subst (λ k. IsScanned geometry k table c.args.number inode.kind inode c.args.found.now.links
    c.scan_inside.new.links (c.in_ok-is_clean.is_clean && is_zero_below k inode)) same
    (c.in_ok-is_clean.ensures.scanned preserves (certain_then first later reads certain)
    (subst (λ k. AreAsRead geometry k table) (sym same) as_read) sound
    (c.deref-2.ensures.value ∙ read.0 ∙ ap (λ k. numbers_before_double k inode) (sym same))) in
    has_blocks geometry content inode inode.kind
    (all_mapped geometry content inode read.1
    (subst (λ k. IsBelowMapped geometry k inode.double) same_middle below.1)) scanned.spans

pub returns-clause-added : goal.returns-clause-added
returns-clause-added g c = λ preserves certain as_read sound.
    let first : Device = g.D.CrashDisk.device c.args.disk.now in
    let middle : Device = g.D.CrashDisk.device c.read_numbers.new.disk in
    let later : Device = g.D.CrashDisk.device c.scan_below.new.disk in
    let geometry = c.args.geometry.now in
    let table = c.args.table.now in
    let inode = c.args.inode.now in
    let reads = reads_then first middle later c.read_numbers.ensures.reads c.scan_below.ensures.reads in
    let same_middle = contents_then geometry c.args.overlay.now first middle c.read_numbers.ensures.reads in
    let same = contents_then geometry c.args.overlay.now first later reads in
    let content : Image = content_in geometry (with_overlay c.args.overlay.now (image_of first)) in
    let model_later = c.scan_inside.ensures.model preserves in
    let is_preserved = c.scan_below.ensures.model model_later in
    let read = c.in_ok-numbers.ensures.numbers is_preserved certain in
    let below = c.in_ok-further.ensures.scanned model_later
    (certain_then first middle c.read_numbers.ensures.reads certain)
    (subst (λ k. AreAsRead geometry k table) (sym same_middle) as_read).long in
    let scanned : IsScanned geometry content table c.args.number inode.kind inode c.args.found.now.links
    c.scan_inside.new.links (c.in_ok-is_clean.is_clean && is_zero_below content inode) =
    subst (λ k. IsScanned geometry k table c.args.number inode.kind inode c.args.found.now.links
    c.scan_inside.new.links (c.in_ok-is_clean.is_clean && is_zero_below k inode)) same
    (c.in_ok-is_clean.ensures.scanned preserves (certain_then first later reads certain)
    (subst (λ k. AreAsRead geometry k table) (sym same) as_read) sound
    (c.deref-2.ensures.value ∙ read.0 ∙ ap (λ k. numbers_before_double k inode) (sym same))) in
    let further : c.in_ok-further.further ≡ is_zero_below content inode =
    below.0 ∙ ap (λ k. is_zero_below k inode) same_middle in
    file_added geometry content table c.args.number inode c.args.found.now c.scan_below.new.owners
    c.scan_inside.new.links (c.in_ok-is_clean.is_clean && is_zero_below content inode) c.first_unclean-found.result
    (λ met before. all_met content inode met c.scan_below.new.owners
    (subst (λ k. IsOwned (met ++ filter is_some (inode.indirect ∷ numbers_before_double content inode) ++ below_of k inode.double)
    c.scan_below.new.owners) same_middle
    (below.2 (met ++ filter is_some (inode.indirect ∷ numbers_before_double content inode))
    (subst (λ l. IsOwned (met ++ filter is_some (inode.indirect ∷ l)) c.meet_blocks.new.owners)
    (c.deref.ensures.value ∙ read.0) (c.meet_blocks.ensures.met met before)))))
    scanned
    (c.first_unclean-found.ensures
    ∙ ap (first_unclean c.args.found.now.unclean c.args.number)
    (c.both.ensures ∙ ap (λ b. c.in_ok-is_clean.is_clean && b) further))
