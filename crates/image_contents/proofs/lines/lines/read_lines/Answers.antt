use Rattle.std.proofs.Common.{rules, ◌∙◌, refl, subst, sym, get_or, None}
use Rattle.disk.specs.Crash.{Image}
use Rattle.disk.specs.Device.{Device}
use Rattle.layout.specs.Parts.{content_in}
use Rattle.circ.specs.Log.Recovery.{image_of}
use Rattle.circ.proofs.LogLemmas.OnlyRead.{no_read, reads_then, certain_then}
use Rattle.image_read.specs.LoggedImage.WithOverlay.{with_overlay}
use Rattle.image_read.proofs.FilesLemmas.Then.{contents_then}
use Rattle.image_contents.specs.Lines.Lines.{IsCountedIfAny}
use Rattle.image_contents.proofs.LinesLemmas.OfTable.{no_lines, one_line}
use Rattle.image_contents.proofs.lines.lines.read_lines.Goals as goal

pub numbers-init : goal.numbers-init
numbers-init g c = record {
  reads = no_read (g.D.CrashDisk.device c.args.disk.now);
  failures = refl;
  model = λ preserves. preserves;
  lines = λ preserves certain.
      let content : Image = content_in c.args.geometry.now
      (with_overlay c.args.overlay.now (image_of (g.D.CrashDisk.device c.args.disk.now))) in
      no_lines content c.args.table.now c.new-lines.result.items c.new-lines.ensures.items;
}

pub returns-in_err-push_line-clause-refused : goal.returns-in_err-push_line-clause-refused
returns-in_err-push_line-clause-refused g c = λ preserves certain range all.
    let first : Device = g.D.CrashDisk.device c.args.disk.now in
    let before : Device = g.D.CrashDisk.device c.numbers.disk in
    let inv = c.numbers.invariant in
    let geometry = c.args.geometry.now in
    let same = contents_then geometry c.args.overlay.now first before inv.reads in
    c.push_line.ensures.refused preserves (certain_then first before inv.reads certain) (search rules)
    (subst (λ k. IsCountedIfAny geometry k (get_or c.args.table.now c.numbers.number None)) (sym same)
    (all c.numbers.number c.numbers-test.true))

pub numbers-preserved : goal.numbers-preserved
numbers-preserved g c =
    let first : Device = g.D.CrashDisk.device c.args.disk.now in
    let before : Device = g.D.CrashDisk.device c.numbers.disk in
    let after : Device = g.D.CrashDisk.device c.push_line.new.disk in
    let inv = c.numbers.invariant in
    let geometry = c.args.geometry.now in
    let logged = c.args.overlay.now in
    record {
      reads = reads_then first before after inv.reads c.push_line.ensures.reads;
      failures = c.in_ok-push_line.ensures.failure ∙ inv.failures;
      model = λ preserves. inv.model (c.push_line.ensures.model preserves);
      lines = λ preserves certain.
          one_line (content_in geometry (with_overlay logged (image_of first))) c.args.table.now
          (content_in geometry (with_overlay logged (image_of before)))
          (contents_then geometry logged first before inv.reads) c.numbers.number c.numbers.lines.items
          c.push_line.new.lines.items (inv.lines (c.push_line.ensures.model preserves) certain)
          (c.in_ok-push_line.ensures.pushed preserves (certain_then first before inv.reads certain));
    }
