use Rattle.std.proofs.Common.{rules, ◌≡◌, ◌+◌, ◌∙◌, ap, sym, inl, inr, arith}
use Rattle.disk.specs.Crash.{Image}
use Rattle.disk.specs.Device.{Device}
use Rattle.layout.specs.Geometry.{table_at}
use Rattle.circ.specs.Log.Recovery.{image_of}
use Rattle.circ.proofs.LogLemmas.OnlyRead.{reads_then, certain_then}
use Rattle.image_read.specs.LoggedImage.WithOverlay.{with_overlay}
use Rattle.image_read.specs.declared.parts.fault.PartFault.TheVariants.{Range}
use Rattle.image_read.proofs.PartsLemmas.OverlayThen.{overlay_then}
use Rattle.image_read.proofs.PartsLemmas.Pushed.{block_more, refused_there}
use Rattle.image_read.proofs.parts.table.read_table.Goals as goal

pub returns-in_err-push_inodes-clause-refused : goal.returns-in_err-push_inodes-clause-refused
returns-in_err-push_inodes-clause-refused g c = λ preserves certain range.
    let first : Device = g.D.CrashDisk.device c.args.disk.now in
    let before : Device = g.D.CrashDisk.device c.indexes.disk in
    let inv = c.indexes.invariant in
    let geometry = c.args.geometry.now in
    let image : Image = with_overlay c.args.overlay.now (image_of first) in
    let is : c.as_slice.result.now ≡ image (table_at geometry.blocks geometry.inodes + c.indexes.index) =
    c.as_slice.ensures.bytes
    ∙ c.in_ok-read.ensures.overlaid_content preserves (certain_then first before inv.reads certain)
    ∙ overlay_then c.args.overlay.now first before inv.reads (c.inode_table.result.0 + c.indexes.index)
    ∙ ap (λ n. image (n + c.indexes.index)) c.inode_table.ensures in
    let fault : c.in_err-push_inodes.field-0.0 ≡ Range = search rules in
    elim c.in_err-push_inodes.ensures.refused [
      | inl memory ↦ absurd (let never = sym memory ∙ fault in cc)
      | inr refused ↦
          refused_there geometry image c.indexes.index c.as_slice.result.now is c.indexes-test.true refused.1
    ]

pub indexes-preserved : goal.indexes-preserved
indexes-preserved g c =
    let first : Device = g.D.CrashDisk.device c.args.disk.now in
    let before : Device = g.D.CrashDisk.device c.indexes.disk in
    let after : Device = g.D.CrashDisk.device c.read.new.disk in
    let inv = c.indexes.invariant in
    let geometry = c.args.geometry.now in
    let image : Image = with_overlay c.args.overlay.now (image_of first) in
    record {
      reads = reads_then first before after inv.reads c.read.ensures.reads;
      failures = c.in_ok-read.ensures.failure ∙ inv.failures;
      model = λ preserves. inv.model (c.read.ensures.model preserves);
      long = omega (arith, inv.long, c.in_ok-push_inodes.ensures.pushed.long);
      table = λ preserves certain.
          let is : c.as_slice.result.now ≡ image (table_at geometry.blocks geometry.inodes + c.indexes.index) =
          c.as_slice.ensures.bytes
          ∙ c.in_ok-read.ensures.overlaid_content preserves (certain_then first before inv.reads certain)
          ∙ overlay_then c.args.overlay.now first before inv.reads (c.inode_table.result.0 + c.indexes.index)
          ∙ ap (λ n. image (n + c.indexes.index)) c.inode_table.ensures in
          block_more geometry image c.indexes.index c.as_slice.result.now is c.indexes.table.items
          c.push_inodes.new.table.items (inv.table (c.read.ensures.model preserves) certain)
          c.in_ok-push_inodes.ensures.pushed;
    }

pub returns-clause-len : goal.returns-clause-len
returns-clause-len g c =
    let whole = c.args.geometry.now.lawful.1.2 in
    omega (arith, c.indexes.invariant.long, c.indexes-test.false, c.indexes.auto.index-end, whole)
