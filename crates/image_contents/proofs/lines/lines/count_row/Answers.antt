use Rattle.std.proofs.Common.{rules, ◌≡◌, ◌∙◌, ap, sym, length, true, false, nat_eq, ℕ, Err, arith}
use Rattle.std.proofs.lemmas.List.Sums.{count_by-le-length}
use Rattle.base.specs.declared.TheConstants.{INDIRECT_INDEXES}
use Rattle.disk.specs.Crash.{Image}
use Rattle.layout.specs.Fields.{count_of}
use Rattle.layout.specs.Parts.{content_in}
use Rattle.layout.proofs.NumbersIn.{none_count}
use Rattle.circ.specs.Log.Recovery.{image_of}
use Rattle.image_read.specs.LoggedImage.WithOverlay.{with_overlay}
use Rattle.image_read.specs.declared.parts.fault.PartFault.TheVariants.{Range}
use Rattle.image_read.proofs.FilesLemmas.Data.{is_some}
use Rattle.image_read.proofs.FilesLemmas.Mapped.{numbers_of_row, row_numbers}
use Rattle.image_contents.proofs.lines.lines.count_row.Goals as goal

pub returns-then-pointer-eq0-clause-blocks : goal.returns-then-pointer-eq0-clause-blocks
returns-then-pointer-eq0-clause-blocks g c = λ preserves certain.
    let content : Image = content_in c.args.geometry.now
    (with_overlay c.args.overlay.now (image_of (g.D.CrashDisk.device c.args.disk.now))) in
    let none : nat_eq c.args.pointer 0 ≡ true = (let h = c.if-pointer-eq0.true in search rules) in
    sym (none_count content c.args.pointer none)

pub returns-in_err-numbers-clause-refused : goal.returns-in_err-numbers-clause-refused
returns-in_err-numbers-clause-refused g c = λ preserves certain range row.
    let image : Image = with_overlay c.args.overlay.now (image_of (g.D.CrashDisk.device c.args.disk.now)) in
    let fault : c.in_err-numbers.field-0.0 ≡ Range = search rules in
    let some : nat_eq c.args.pointer 0 ≡ false = (let h = c.if-pointer-eq0.false in search rules) in
    c.in_err-numbers.ensures.refused preserves certain (ap Err fault) _
    (numbers_of_row c.args.geometry.now image c.args.pointer some row)

pub returns-clause-few : goal.returns-clause-few
returns-clause-few g c =
    let few = count_by-le-length is_some c.as_slice.result.now in
    let wide : length c.numbers.inside.numbers.items ≡ INDIRECT_INDEXES = c.numbers.invariant in
    let long : length c.as_slice.result.now ≡ INDIRECT_INDEXES =
    ap (length {A = ℕ}) (c.as_slice.ensures ∙ sym c.numbers.view_is) ∙ wide in
    let is = c.count.ensures in
    omega (arith, few, long, is)

pub returns-clause-blocks : goal.returns-clause-blocks
returns-clause-blocks g c = λ preserves certain.
    let image : Image = with_overlay c.args.overlay.now (image_of (g.D.CrashDisk.device c.args.disk.now)) in
    c.count.ensures ∙ ap count_of (c.as_slice.ensures
    ∙ sym (row_numbers c.args.geometry.now image c.args.pointer c.in_ok-numbers.numbers
    (c.in_ok-numbers.ensures.numbers preserves certain)))
