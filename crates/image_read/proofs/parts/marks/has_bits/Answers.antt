use Rattle.std.proofs.Common.{◌≡◌, ◌+◌, ◌∙◌, ◌/◌, length, arith}
use Rattle.base.specs.declared.TheConstants.{BITS_PER_BLOCK}
use Rattle.disk.specs.Crash.{Image}
use Rattle.disk.specs.Device.{Device}
use Rattle.circ.specs.Log.Recovery.{image_of}
use Rattle.circ.proofs.LogLemmas.OnlyRead.{reads_then, certain_then}
use Rattle.image_read.specs.LoggedImage.WithOverlay.{with_overlay}
use Rattle.image_read.proofs.PartsLemmas.Bits.{bits_here, more_bits}
use Rattle.image_read.proofs.PartsLemmas.OverlayThen.{overlay_then}
use Rattle.image_read.proofs.parts.marks.has_bits.Goals as goal

pub overflow_cast-index : goal.overflow_cast-index
overflow_cast-index g c = omega (arith, c.requires.few, c.indexes-test.true)

pub overflow_add-first : goal.overflow_add-first
overflow_add-first g c = omega (arith, c.requires.few, c.indexes-test.true)

pub returns-then-not-has_bits_of-clause-reads : goal.returns-then-not-has_bits_of-clause-reads
returns-then-not-has_bits_of-clause-reads g c =
    reads_then (g.D.CrashDisk.device c.args.disk.now) (g.D.CrashDisk.device c.indexes.disk)
    (g.D.CrashDisk.device c.read.new.disk) c.indexes.invariant.reads c.read.ensures.reads

pub returns-then-not-has_bits_of-clause-no : goal.returns-then-not-has_bits_of-clause-no
returns-then-not-has_bits_of-clause-no g c = λ preserves certain no all.
    let first : Device = g.D.CrashDisk.device c.args.disk.now in
    let before : Device = g.D.CrashDisk.device c.indexes.disk in
    let inv = c.indexes.invariant in
    let image : Image = with_overlay c.args.overlay.now (image_of first) in
    let is : c.as_slice.result.now ≡ image (c.args.first.0 + c.indexes.index) =
    c.as_slice.ensures.bytes
    ∙ c.in_ok-read.ensures.overlaid_content preserves (certain_then first before inv.reads certain)
    ∙ overlay_then c.args.overlay.now first before inv.reads (c.args.first.0 + c.indexes.index) in
    c.has_bits_of.ensures.no c.if-not-has_bits_of.true
    (bits_here image c.args.first.0 c.args.marks.now c.indexes.index c.as_slice.result.now is
    (length c.args.marks.now / BITS_PER_BLOCK) c.indexes-test.true all)

pub indexes-preserved : goal.indexes-preserved
indexes-preserved g c =
    let first : Device = g.D.CrashDisk.device c.args.disk.now in
    let before : Device = g.D.CrashDisk.device c.indexes.disk in
    let after : Device = g.D.CrashDisk.device c.read.new.disk in
    let inv = c.indexes.invariant in
    let image : Image = with_overlay c.args.overlay.now (image_of first) in
    record {
      reads = reads_then first before after inv.reads c.read.ensures.reads;
      failures = c.in_ok-read.ensures.failure ∙ inv.failures;
      model = λ preserves. inv.model (c.read.ensures.model preserves);
      bits = λ preserves certain.
          let is : c.as_slice.result.now ≡ image (c.args.first.0 + c.indexes.index) =
          c.as_slice.ensures.bytes
          ∙ c.in_ok-read.ensures.overlaid_content preserves (certain_then first before inv.reads certain)
          ∙ overlay_then c.args.overlay.now first before inv.reads (c.args.first.0 + c.indexes.index) in
          more_bits image c.args.first.0 c.args.marks.now c.indexes.index c.as_slice.result.now is
          (inv.bits (c.read.ensures.model preserves) certain) (c.has_bits_of.ensures.yes c.if-not-has_bits_of.false);
    }
