use Rattle.std.proofs.Common.{rules, ◌≡◌, ◌∙◌, ap, sym, subst, length, true, false, nat_eq, get_or, ℕ, List, Err, arith}
use Rattle.std.specs.List.{flat_map}
use Rattle.std.proofs.lemmas.Result.{IfOk-weaker}
use Rattle.disk.specs.Crash.{Image}
use Rattle.disk.specs.Device.{Device}
use Rattle.layout.specs.Decode.{doubled_in, numbers_in}
use Rattle.layout.specs.Fields.{count_of}
use Rattle.layout.specs.Parts.{content_in}
use Rattle.layout.proofs.NumbersIn.{in_length, left_count, no_double_left}
use Rattle.circ.specs.Log.Recovery.{image_of}
use Rattle.circ.proofs.LogLemmas.OnlyRead.{certain_then}
use Rattle.image_read.specs.LoggedImage.WithOverlay.{with_overlay}
use Rattle.image_read.specs.declared.parts.fault.PartFault.TheVariants.{Range}
use Rattle.image_read.specs.Files.RowNumbers.{IsRowMapped}
use Rattle.image_read.proofs.FilesLemmas.AllMapped.{row_below}
use Rattle.image_read.proofs.FilesLemmas.Mapped.{numbers_of_row, row_numbers}
use Rattle.image_read.proofs.FilesLemmas.Rows.{all_rows}
use Rattle.image_read.proofs.FilesLemmas.Then.{contents_then}
use Rattle.image_contents.proofs.lines.lines.count_below.Goals as goal

pub returns-then-double-eq0-clause-blocks : goal.returns-then-double-eq0-clause-blocks
returns-then-double-eq0-clause-blocks g c = λ preserves certain.
    let content : Image = content_in c.args.geometry.now
    (with_overlay c.args.overlay.now (image_of (g.D.CrashDisk.device c.args.disk.now))) in
    let none : nat_eq c.args.double 0 ≡ true = (let h = c.if-double-eq0.true in search rules) in
    sym (left_count (doubled_in content c.args.double) (no_double_left content c.args.double none))

pub returns-in_err-inner-clause-refused : goal.returns-in_err-inner-clause-refused
returns-in_err-inner-clause-refused g c = λ preserves certain range below.
    let image : Image = with_overlay c.args.overlay.now (image_of (g.D.CrashDisk.device c.args.disk.now)) in
    let fault : c.in_err-inner.field-0.0 ≡ Range = search rules in
    let some : nat_eq c.args.double 0 ≡ false = (let h = c.if-double-eq0.false in search rules) in
    c.in_err-inner.ensures.refused preserves certain (ap Err fault) _
    (numbers_of_row c.args.geometry.now image c.args.double some below.double_mapped)

pub count_rows-requires-clause-size : goal.count_rows-requires-clause-size
count_rows-requires-clause-size g c = omega (arith, c.requires, c.read_pointers.ensures.reads.size)

pub returns-clause-blocks : goal.returns-clause-blocks
returns-clause-blocks g c = λ preserves certain.
    let first : Device = g.D.CrashDisk.device c.args.disk.now in
    let middle : Device = g.D.CrashDisk.device c.read_pointers.new.disk in
    let geometry = c.args.geometry.now in
    let logged = c.args.overlay.now in
    let double = c.args.double in
    let inner : List ℕ = c.in_ok-inner.inner in
    let image : Image = with_overlay logged (image_of first) in
    let content : Image = content_in geometry image in
    let there : Image = content_in geometry (with_overlay logged (image_of middle)) in
    let reads = c.read_pointers.ensures.reads in
    let same : there ≡ content = contents_then geometry logged first middle reads in
    let are = c.in_ok-inner.ensures.numbers (c.count_rows.ensures.model preserves) certain in
    let given : c.as_slice.result.now ≡ numbers_in content double =
    c.as_slice.ensures ∙ sym (row_numbers geometry image double inner are) in
    let reached : flat_map (numbers_in there) c.as_slice.result.now ≡ doubled_in content double =
    (λ i. flat_map (numbers_in (same i)) (given i)) ∙ all_rows content double in
    IfOk-weaker c.count_rows.result
    (λ blocks. blocks ≡ count_of (flat_map (numbers_in there) c.as_slice.result.now))
    (λ blocks. blocks ≡ count_of (doubled_in content double))
    (λ blocks is. is ∙ ap count_of reached)
    (c.count_rows.ensures.blocks preserves (certain_then first middle reads certain))

pub returns-clause-refused : goal.returns-clause-refused
returns-clause-refused g c = λ preserves certain range below.
    let first : Device = g.D.CrashDisk.device c.args.disk.now in
    let middle : Device = g.D.CrashDisk.device c.read_pointers.new.disk in
    let geometry = c.args.geometry.now in
    let logged = c.args.overlay.now in
    let double = c.args.double in
    let inner : List ℕ = c.in_ok-inner.inner in
    let image : Image = with_overlay logged (image_of first) in
    let content : Image = content_in geometry image in
    let reads = c.read_pointers.ensures.reads in
    let same = contents_then geometry logged first middle reads in
    let are = c.in_ok-inner.ensures.numbers (c.count_rows.ensures.model preserves) certain in
    let given : c.as_slice.result.now ≡ numbers_in content double =
    c.as_slice.ensures ∙ sym (row_numbers geometry image double inner are) in
    c.count_rows.ensures.refused preserves (certain_then first middle reads certain) range
    (λ i less. subst (λ k. IsRowMapped geometry k (get_or c.as_slice.result.now i 0)) (sym same)
    (subst (λ l. IsRowMapped geometry content (get_or l i 0)) (sym given)
    (row_below geometry content double below i
    (let long = in_length content double in let as_long = ap length given in omega (arith, less, long, as_long)))))
