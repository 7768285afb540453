use Rattle.std.proofs.Common.{rules, ◌≡◌, ◌∙◌, ap, sym, drop, true, arith}
use Rattle.disk.specs.Crash.{Image}
use Rattle.layout.specs.Decode.{content_of}
use Rattle.layout.specs.Fields.{is_zeros}
use Rattle.layout.specs.Parts.{content_in}
use Rattle.layout.specs.Places.{is_data}
use Rattle.circ.specs.Log.Recovery.{image_of}
use Rattle.image_read.specs.LoggedImage.WithOverlay.{with_overlay}
use Rattle.image_read.proofs.FilesLemmas.Data.{data_content, is_there, within}
use Rattle.image_read.proofs.FilesLemmas.TailBytes.{no_block, nothing_left}
use Rattle.image_read.proofs.files.tail.is_zero_block.Goals as goal

pub returns-then-number-eq0-clause-zeros : goal.returns-then-number-eq0-clause-zeros
returns-then-number-eq0-clause-zeros g c = λ preserves certain long.
    let image : Image = with_overlay c.args.overlay.now (image_of (g.D.CrashDisk.device c.args.disk.now)) in
    sym (no_block (content_in c.args.geometry.now image) long c.args.number c.args.from
    (let h = c.if-number-eq0.true in search rules))

pub returns-then-from-ge-BLOCK_BYTES-clause-zeros : goal.returns-then-from-ge-BLOCK_BYTES-clause-zeros
returns-then-from-ge-BLOCK_BYTES-clause-zeros g c = λ preserves certain long.
    let image : Image = with_overlay c.args.overlay.now (image_of (g.D.CrashDisk.device c.args.disk.now)) in
    sym (nothing_left (content_in c.args.geometry.now image) long c.args.number c.args.from
    (let h = c.if-from-ge-BLOCK_BYTES.true in omega (arith, h)))

pub read-requires : goal.read-requires
read-requires g c =
    let lies : is_data c.args.geometry.now c.args.number ≡ true =
    is_there c.args.geometry.now c.args.number c.requires.placed (let h = c.if-number-eq0.false in search rules) in
    let less = within c.args.geometry.now c.args.number lies in
    omega (arith, less, c.requires.size)

pub returns-clause-zeros : goal.returns-clause-zeros
returns-clause-zeros g c = λ preserves certain long.
    let geometry = c.args.geometry.now in
    let image : Image = with_overlay c.args.overlay.now (image_of (g.D.CrashDisk.device c.args.disk.now)) in
    let lies : is_data geometry c.args.number ≡ true =
    is_there geometry c.args.number c.requires.placed (let h = c.if-number-eq0.false in search rules) in
    let is : c.as_slice.result.now ≡ content_of (content_in geometry image) c.args.number =
    c.as_slice.ensures.bytes ∙ c.in_ok-read.ensures.overlaid_content preserves certain
    ∙ sym (data_content geometry image c.args.number lies) in
    c.is_zero_from.ensures ∙ ap (λ l. is_zeros (drop c.args.from l)) is
