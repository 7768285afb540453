use Rattle.std.proofs.Common.{rules, ◌≡◌, ◌+◌, ◌∙◌, ap, sym, subst, Err, arith}
use Rattle.disk.specs.Crash.{Image}
use Rattle.disk.specs.Device.{Device}
use Rattle.layout.specs.Decode.{doubled_in}
use Rattle.layout.specs.Fields.{count_of}
use Rattle.layout.specs.Parts.{content_in}
use Rattle.circ.specs.Log.Recovery.{image_of}
use Rattle.circ.proofs.LogLemmas.OnlyRead.{certain_then}
use Rattle.image_read.specs.LoggedImage.WithOverlay.{with_overlay}
use Rattle.image_read.specs.declared.parts.fault.PartFault.TheVariants.{Range}
use Rattle.image_read.specs.Files.RowNumbers.{IsBelowMapped, numbers_before_double}
use Rattle.image_read.proofs.FilesLemmas.AllMapped.{below_of_mapped, before_double_of_mapped}
use Rattle.image_read.proofs.FilesLemmas.Then.{contents_then}
use Rattle.image_contents.proofs.LinesLemmas.Counted.{counted_all}
use Rattle.image_contents.proofs.lines.lines.count_regular.Goals as goal

pub returns-in_err-numbers-clause-refused : goal.returns-in_err-numbers-clause-refused
returns-in_err-numbers-clause-refused g c = λ preserves certain range sound mapped.
    let content : Image = content_in c.args.geometry.now
    (with_overlay c.args.overlay.now (image_of (g.D.CrashDisk.device c.args.disk.now))) in
    let fault : c.in_err-numbers.field-0.0 ≡ Range = search rules in
    c.in_err-numbers.ensures.refused preserves certain sound (ap Err fault)
    (before_double_of_mapped c.args.geometry.now content c.args.inode.now mapped)

pub count_below-requires : goal.count_below-requires
count_below-requires g c = omega (arith, c.requires, c.read_numbers.ensures.reads.size)

pub returns-in_err-further-clause-refused : goal.returns-in_err-further-clause-refused
returns-in_err-further-clause-refused g c = λ preserves certain range sound mapped.
    let first : Device = g.D.CrashDisk.device c.args.disk.now in
    let middle : Device = g.D.CrashDisk.device c.read_numbers.new.disk in
    let geometry = c.args.geometry.now in
    let inode = c.args.inode.now in
    let reads = c.read_numbers.ensures.reads in
    let same = contents_then geometry c.args.overlay.now first middle reads in
    let content : Image = content_in geometry (with_overlay c.args.overlay.now (image_of first)) in
    let fault : c.in_err-further.field-0.0 ≡ Range = search rules in
    c.in_err-further.ensures.refused preserves (certain_then first middle reads certain) (ap Err fault)
    (subst (λ k. IsBelowMapped geometry k inode.double) (sym same) (below_of_mapped geometry content inode mapped))

pub returns-clause-blocks : goal.returns-clause-blocks
returns-clause-blocks g c = λ preserves certain.
    let first : Device = g.D.CrashDisk.device c.args.disk.now in
    let middle : Device = g.D.CrashDisk.device c.read_numbers.new.disk in
    let geometry = c.args.geometry.now in
    let inode = c.args.inode.now in
    let reads = c.read_numbers.ensures.reads in
    let same = contents_then geometry c.args.overlay.now first middle reads in
    let content : Image = content_in geometry (with_overlay c.args.overlay.now (image_of first)) in
    let lower_part : c.count.result ≡ count_of (numbers_before_double content inode) =
    c.count.ensures ∙ ap count_of (c.deref.ensures.value
    ∙ (c.in_ok-numbers.ensures.numbers (c.count_below.ensures.model preserves) certain).0) in
    let further : c.in_ok-further.further ≡ count_of (doubled_in content inode.double) =
    c.in_ok-further.ensures.blocks preserves (certain_then first middle reads certain)
    ∙ ap (λ k. count_of (doubled_in k inode.double)) same in
    (λ i. lower_part i + further i) ∙ sym (counted_all content inode)
