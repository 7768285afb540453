use Rattle.std.proofs.Common.{rules, ◌+◌, ◌∙◌, ap, sym, refl, subst, get_or, arith}
use Rattle.std.specs.List.{flat_map}
use Rattle.std.proofs.lemmas.List.{take_all}
use Rattle.disk.specs.Crash.{Image}
use Rattle.disk.specs.Device.{Device}
use Rattle.layout.specs.Decode.{numbers_in}
use Rattle.layout.specs.Fields.{count_of}
use Rattle.layout.specs.Parts.{content_in}
use Rattle.circ.specs.Log.Recovery.{image_of}
use Rattle.circ.proofs.LogLemmas.OnlyRead.{no_read, reads_then, certain_then}
use Rattle.image_read.specs.LoggedImage.WithOverlay.{with_overlay}
use Rattle.image_read.specs.Files.RowNumbers.{IsRowMapped}
use Rattle.image_read.proofs.FilesLemmas.Then.{contents_then}
use Rattle.image_contents.proofs.LinesLemmas.Counted.{counted_more}
use Rattle.image_contents.proofs.lines.lines.count_rows.Goals as goal

pub rows-init : goal.rows-init
rows-init g c = record {
  reads = no_read (g.D.CrashDisk.device c.args.disk.now);
  failures = refl;
  model = λ preserves. preserves;
  few = omega arith;
  counted = λ preserves certain. refl;
}

pub count_row-requires : goal.count_row-requires
count_row-requires g c = omega (arith, c.requires.size, c.rows.invariant.reads.size)

pub returns-in_err-row-clause-refused : goal.returns-in_err-row-clause-refused
returns-in_err-row-clause-refused g c = λ preserves certain range rows.
    let first : Device = g.D.CrashDisk.device c.args.disk.now in
    let before : Device = g.D.CrashDisk.device c.rows.disk in
    let inv = c.rows.invariant in
    let geometry = c.args.geometry.now in
    let same = contents_then geometry c.args.overlay.now first before inv.reads in
    c.in_err-row.ensures.refused preserves (certain_then first before inv.reads certain) (search rules)
    (subst (λ k. IsRowMapped geometry k (get_or c.args.inner.now c.rows.index 0)) (sym same)
    (rows c.rows.index c.rows-test.true))

pub rows-preserved : goal.rows-preserved
rows-preserved g c =
    let first : Device = g.D.CrashDisk.device c.args.disk.now in
    let before : Device = g.D.CrashDisk.device c.rows.disk in
    let after : Device = g.D.CrashDisk.device c.count_row.new.disk in
    let inv = c.rows.invariant in
    let geometry = c.args.geometry.now in
    let logged = c.args.overlay.now in
    let content : Image = content_in geometry (with_overlay logged (image_of first)) in
    let inner = c.args.inner.now in
    let index = c.rows.index in
    let same = contents_then geometry logged first before inv.reads in
    record {
      reads = reads_then first before after inv.reads c.count_row.ensures.reads;
      failures = c.in_ok-row.ensures.failure ∙ inv.failures;
      model = λ preserves. inv.model (c.count_row.ensures.model preserves);
      few = (let so_far = inv.few in let more = c.in_ok-row.ensures.few in omega (arith, so_far, more));
      counted = λ preserves certain.
          let so_far = inv.counted (c.count_row.ensures.model preserves) certain in
          let row = c.in_ok-row.ensures.blocks preserves (certain_then first before inv.reads certain) in
          let here = row ∙ ap (λ k. count_of (numbers_in k (get_or inner index 0))) same in
          (λ i. so_far i + here i) ∙ sym (counted_more content inner index c.rows-test.true);
    }

pub returns-clause-few : goal.returns-clause-few
returns-clause-few g c =
    let few = c.rows.invariant.few in
    omega (arith, few, c.requires.count, c.rows-test.false, c.rows.auto.index-end)

pub returns-clause-blocks : goal.returns-clause-blocks
returns-clause-blocks g c = λ preserves certain.
    let content : Image = content_in c.args.geometry.now
    (with_overlay c.args.overlay.now (image_of (g.D.CrashDisk.device c.args.disk.now))) in
    let inner = c.args.inner.now in
    let end = c.rows-test.false in
    c.rows.invariant.counted preserves certain
    ∙ ap (λ l. count_of (flat_map (numbers_in content) l)) (take_all c.rows.index inner (omega (arith, end)))
