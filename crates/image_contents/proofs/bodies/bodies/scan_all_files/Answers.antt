use Rattle.std.proofs.Common.{rules, ◌≡◌, ◌∙◌, refl, subst, sym, get_or, None, arith}
use Rattle.disk.specs.Crash.{Image}
use Rattle.disk.specs.Device.{Device}
use Rattle.layout.specs.Parts.{content_in}
use Rattle.circ.specs.Log.Recovery.{image_of}
use Rattle.circ.proofs.LogLemmas.OnlyRead.{no_read, reads_then, certain_then}
use Rattle.image_read.specs.LoggedImage.WithOverlay.{with_overlay}
use Rattle.image_read.proofs.FilesLemmas.Then.{contents_then}
use Rattle.image_contents.specs.Bodies.Bodies.{AreAsRead, HasBlocks, IsAdded, IsFound}
use Rattle.image_contents.proofs.BodiesLemmas.Finding.{none_found, one_found}
use Rattle.image_contents.proofs.bodies.bodies.scan_all_files.Goals as goal

pub numbers-init : goal.numbers-init
numbers-init g c = record {
  reads = no_read (g.D.CrashDisk.device c.args.disk.now);
  failures = refl;
  model = λ preserves. preserves;
  fits = c.in_ok-found.ensures.fits;
  found = λ preserves certain as_read.
      let geometry = c.args.geometry.now in
      let content : Image =
      content_in geometry (with_overlay c.args.overlay.now (image_of (g.D.CrashDisk.device c.args.disk.now))) in
      none_found geometry content c.args.table.now c.in_ok-found.found c.in_ok-found.ensures.owned
      c.in_ok-found.ensures.named c.in_ok-found.ensures.is_clean;
}

pub scan_body-requires-clause-size : goal.scan_body-requires-clause-size
scan_body-requires-clause-size g c = omega (arith, c.requires.size, c.numbers.invariant.reads.size)

pub scan_body-requires-clause-number : goal.scan_body-requires-clause-number
scan_body-requires-clause-number g c = omega (arith, c.requires.table, c.numbers-test.true)

pub returns-in_err-scan_body-clause-refused : goal.returns-in_err-scan_body-clause-refused
returns-in_err-scan_body-clause-refused g c = λ preserves certain as_read range all.
    let first : Device = g.D.CrashDisk.device c.args.disk.now in
    let before : Device = g.D.CrashDisk.device c.numbers.disk in
    let inv = c.numbers.invariant in
    let geometry = c.args.geometry.now in
    let logged = c.args.overlay.now in
    let table = c.args.table.now in
    let same = contents_then geometry logged first before inv.reads in
    c.scan_body.ensures.refused preserves (certain_then first before inv.reads certain)
    (subst (λ k. AreAsRead geometry k table) (sym same) as_read) (search rules)
    (subst (λ k. HasBlocks geometry k (get_or table c.numbers.number None)) (sym same)
    (all c.numbers.number (omega (arith, c.requires.table, c.numbers-test.true))))

pub numbers-preserved : goal.numbers-preserved
numbers-preserved g c =
    let first : Device = g.D.CrashDisk.device c.args.disk.now in
    let before : Device = g.D.CrashDisk.device c.numbers.disk in
    let after : Device = g.D.CrashDisk.device c.scan_body.new.disk in
    let inv = c.numbers.invariant in
    let geometry = c.args.geometry.now in
    let logged = c.args.overlay.now in
    let table = c.args.table.now in
    let number = c.numbers.number in
    let same = contents_then geometry logged first before inv.reads in
    record {
      reads = reads_then first before after inv.reads c.scan_body.ensures.reads;
      failures = c.in_ok-scan_body.ensures.failure ∙ inv.failures;
      model = λ preserves. inv.model (c.scan_body.ensures.model preserves);
      fits = c.in_ok-scan_body.ensures.fits;
      found = λ preserves certain as_read.
          let later = certain_then first before inv.reads certain in
          let there : AreAsRead geometry (content_in geometry (with_overlay logged (image_of before))) table =
          subst (λ k. AreAsRead geometry k table) (sym same) as_read in
          one_found geometry (content_in geometry (with_overlay logged (image_of first))) table number c.numbers.found
          c.scan_body.new.found (inv.found (c.scan_body.ensures.model preserves) certain as_read)
          (subst (λ k. HasBlocks geometry k (get_or table number None)) same
          (c.in_ok-scan_body.ensures.blocks preserves later there))
          (subst (λ k. IsAdded geometry k table number (get_or table number None) c.numbers.found c.scan_body.new.found)
          same
          (c.in_ok-scan_body.ensures.added preserves later there));
    }

pub returns-clause-found : goal.returns-clause-found
returns-clause-found g c = λ preserves certain as_read.
    let geometry = c.args.geometry.now in
    let content : Image =
    content_in geometry (with_overlay c.args.overlay.now (image_of (g.D.CrashDisk.device c.args.disk.now))) in
    let all : c.numbers.number ≡ geometry.inodes =
    omega (arith, c.requires.table, c.numbers-test.false, c.numbers.auto.number-end) in
    subst (λ n. IsFound geometry content c.args.table.now n c.numbers.found) all
    (c.numbers.invariant.found preserves certain as_read)
