use Rattle.std.proofs.Common.{rules, ◌≡◌, ◌-◌, ◌*◌, ◌∙◌, ◌&&◌, ◌++◌, ap, sym, refl, subst, filter, drop, take}
use Rattle.std.proofs.Common.{[], get_or, below_more, arith}
use Rattle.std.specs.List.{flat_map}
use Rattle.std.proofs.lemmas.List.{append-nil, take_all}
use Rattle.base.specs.declared.TheConstants.{BLOCK_BYTES, FIRST_DOUBLE_INDEX}
use Rattle.disk.specs.Crash.{Image}
use Rattle.disk.specs.Device.{Device}
use Rattle.layout.specs.Decode.{bytes_of, numbers_in}
use Rattle.layout.specs.Fields.{is_zeros}
use Rattle.layout.specs.Parts.{content_in}
use Rattle.circ.specs.Log.Recovery.{image_of}
use Rattle.circ.proofs.LogLemmas.OnlyRead.{no_read, reads_then, certain_then}
use Rattle.image_read.specs.LoggedImage.WithOverlay.{with_overlay}
use Rattle.image_read.specs.ImageCounts.Tally.{IsOwned}
use Rattle.image_read.specs.Files.RowNumbers.{IsRowMapped}
use Rattle.image_read.proofs.FilesLemmas.Rows.{rows_of}
use Rattle.image_read.proofs.FilesLemmas.TailBytes.{none_yet}
use Rattle.image_read.proofs.FilesLemmas.Then.{contents_then, long_then}
use Rattle.image_read.specs.Counts.Adds.{is_some}
use Rattle.image_contents.specs.Bodies.Inner.{is_zero_row}
use Rattle.image_contents.proofs.BodiesLemmas.BelowBytes.{rows_zero}
use Rattle.image_contents.proofs.BodiesLemmas.AllMet.{met_more}
use Rattle.image_contents.proofs.bodies.inner.scan_rows.Goals as goal

pub rows-init : goal.rows-init
rows-init g c = record {
  reads = no_read (g.D.CrashDisk.device c.args.disk.now);
  failures = refl;
  model = λ preserves. preserves;
  owners = refl;
  zero = λ preserves certain long.
      let image : Image = with_overlay c.args.overlay.now (image_of (g.D.CrashDisk.device c.args.disk.now)) in
      sym (none_yet (content_in c.args.geometry.now image) long (c.args.size - BLOCK_BYTES * FIRST_DOUBLE_INDEX) []);
  mapped = λ preserves certain long i less. absurd (omega (arith, less));
  owned = λ preserves certain long met before. subst (λ l. IsOwned l c.args.owners.now) (sym (append-nil met)) before;
}

pub scan_row-requires-clause-size : goal.scan_row-requires-clause-size
scan_row-requires-clause-size g c = omega (arith, c.requires.size, c.rows.invariant.reads.size)

pub scan_row-requires-clause-inner : goal.scan_row-requires-clause-inner
scan_row-requires-clause-inner g c = omega (arith, c.requires.count, c.rows-test.true)

pub scan_row-requires-clause-owners : goal.scan_row-requires-clause-owners
scan_row-requires-clause-owners g c = c.rows.invariant.owners ∙ c.requires.owners

pub returns-in_err-row-clause-refused : goal.returns-in_err-row-clause-refused
returns-in_err-row-clause-refused g c = λ preserves certain range rows.
    let first : Device = g.D.CrashDisk.device c.args.disk.now in
    let before : Device = g.D.CrashDisk.device c.rows.disk in
    let inv = c.rows.invariant in
    let geometry = c.args.geometry.now in
    let same = contents_then geometry c.args.overlay.now first before inv.reads in
    c.in_err-row.ensures.refused preserves (certain_then first before inv.reads certain) (search rules)
    (subst (λ k. IsRowMapped geometry k (get_or c.args.inner.now c.rows.index 0)) (sym same)
    (rows c.rows.index c.rows-test.true))

pub rows-preserved : goal.rows-preserved
rows-preserved g c =
    let first : Device = g.D.CrashDisk.device c.args.disk.now in
    let before : Device = g.D.CrashDisk.device c.rows.disk in
    let after : Device = g.D.CrashDisk.device c.scan_row.new.disk in
    let inv = c.rows.invariant in
    let geometry = c.args.geometry.now in
    let logged = c.args.overlay.now in
    let content : Image = content_in geometry (with_overlay logged (image_of first)) in
    let inner = c.args.inner.now in
    let index = c.rows.index in
    let number = get_or inner index 0 in
    let same = contents_then geometry logged first before inv.reads in
    record {
      reads = reads_then first before after inv.reads c.scan_row.ensures.reads;
      failures = c.in_ok-row.ensures.failure ∙ inv.failures;
      model = λ preserves. inv.model (c.scan_row.ensures.model preserves);
      owners = c.scan_row.ensures.owners ∙ inv.owners;
      zero = λ preserves certain long.
          let row = c.in_ok-row.ensures.scanned preserves (certain_then first before inv.reads certain)
          (long_then geometry logged first before inv.reads long) in
          let here : c.in_ok-row.row ≡ is_zero_row content c.args.size number index =
          row.0 ∙ ap (λ k. is_zero_row k c.args.size number index) same in
          let earlier = inv.zero (c.scan_row.ensures.model preserves) certain long in
          c.both-is_zero.ensures ∙ (λ i. earlier i && here i)
          ∙ sym (rows_zero content long c.args.size index inner c.rows-test.true);
      mapped = λ preserves certain long.
          let row = c.in_ok-row.ensures.scanned preserves (certain_then first before inv.reads certain)
          (long_then geometry logged first before inv.reads long) in
          below_more (λ i. IsRowMapped geometry content (get_or inner i 0)) index
          (inv.mapped (c.scan_row.ensures.model preserves) certain long)
          (subst (λ k. IsRowMapped geometry k number) same row.1);
      owned = λ preserves certain long met first_met.
          let row = c.in_ok-row.ensures.scanned preserves (certain_then first before inv.reads certain)
          (long_then geometry logged first before inv.reads long) in
          let earlier = inv.owned (c.scan_row.ensures.model preserves) certain long met first_met in
          subst (λ l. IsOwned l c.scan_row.new.owners) (met_more content inner met index c.rows-test.true)
          (subst (λ k. IsOwned ((met ++ filter is_some (rows_of content inner index))
          ++ filter is_some (numbers_in k number)) c.scan_row.new.owners) same
          (row.2 (met ++ filter is_some (rows_of content inner index)) earlier));
    }

pub returns-clause-scanned : goal.returns-clause-scanned
returns-clause-scanned g c = λ preserves certain long.
    let content : Image = content_in c.args.geometry.now
    (with_overlay c.args.overlay.now (image_of (g.D.CrashDisk.device c.args.disk.now))) in
    let inner = c.args.inner.now in
    let inv = c.rows.invariant in
    let end = c.rows-test.false in
    let all : take c.rows.index inner ≡ inner = take_all c.rows.index inner (omega (arith, end)) in (
      inv.zero preserves certain long
          ∙ ap (λ l. is_zeros (drop (c.args.size - BLOCK_BYTES * FIRST_DOUBLE_INDEX)
          (bytes_of content (flat_map (numbers_in content) l)))) all,
      λ i less. inv.mapped preserves certain long i (omega (arith, end, less)),
      λ met before. subst (λ l. IsOwned (met ++ filter is_some (flat_map (numbers_in content) l)) c.rows.owners) all
          (inv.owned preserves certain long met before),
    )
