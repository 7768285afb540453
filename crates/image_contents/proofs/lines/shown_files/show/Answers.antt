use Rattle.disk.specs.Device.{Device}
use Rattle.std.proofs.Common.{rules, ◌≡◌, ◌∙◌, subst, Err}
use Rattle.circ.proofs.LogLemmas.OnlyRead.{reads_then, certain_then}
use Rattle.image_read.specs.declared.parts.fault.PartFault.TheVariants.{Range}
use Rattle.image_contents.specs.Lines.Shown.{AreLines}
use Rattle.image_contents.proofs.LinesLemmas.OfGood.{same_log, stands_for}
use Rattle.image_contents.proofs.lines.shown_files.show.Goals as goal

pub returns-in-Ok-clause-shown : goal.returns-in-Ok-clause-shown
returns-in-Ok-clause-shown g c = λ preserves certain tree boot good.
    let before : Device = g.D.CrashDisk.device c.args.disk.now in
    let first : Device = g.D.CrashDisk.device c.read_super.new.disk in
    let second : Device = g.D.CrashDisk.device c.read_overlay.new.disk in
    let one = c.in_ok-found.ensures.reads in
    let two = reads_then before first second one c.in_ok-overlay.ensures.reads in
    let is_preserved = c.all_lines.ensures.model preserves in
    let logged = c.in_ok-overlay.ensures.overlay is_preserved (certain_then before first one certain) in
    c.in-Ok.ensures.lines preserves (certain_then before second two certain) tree
    (logged ∙ same_log before tree boot good first second one two)
    (stands_for before tree boot good c.in_ok-found.found
    (c.in_ok-found.ensures.found (c.in_ok-overlay.ensures.model is_preserved) certain) second two)

pub returns-in-Err-Range-clause-shown : goal.returns-in-Err-Range-clause-shown
returns-in-Err-Range-clause-shown g c = λ preserves certain tree boot good.
    let before : Device = g.D.CrashDisk.device c.args.disk.now in
    let first : Device = g.D.CrashDisk.device c.read_super.new.disk in
    let second : Device = g.D.CrashDisk.device c.read_overlay.new.disk in
    let one = c.in_ok-found.ensures.reads in
    let two = reads_then before first second one c.in_ok-overlay.ensures.reads in
    let is_preserved = c.all_lines.ensures.model preserves in
    let logged = c.in_ok-overlay.ensures.overlay is_preserved (certain_then before first one certain) in
    let range : c.in-Err-Range.field-0 ≡ Range = search rules in
    absurd (subst (λ f. AreLines tree (Err f)) range
    (c.in-Err-Range.ensures.lines preserves (certain_then before second two certain) tree
    (logged ∙ same_log before tree boot good first second one two)
    (stands_for before tree boot good c.in_ok-found.found
    (c.in_ok-found.ensures.found (c.in_ok-overlay.ensures.model is_preserved) certain) second two)))
