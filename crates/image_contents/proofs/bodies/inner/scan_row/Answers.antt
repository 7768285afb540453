use Rattle.std.proofs.Common.{rules, ◌≡◌, ◌+◌, ◌-◌, ◌*◌, ◌∙◌, ◌++◌, ap, sym, subst, filter, length, drop}
use Rattle.std.proofs.Common.{true, false, nat_eq, ℕ, List, Err, arith}
use Rattle.std.specs.List.{list_all}
use Rattle.std.proofs.lemmas.List.{append-nil}
use Rattle.std.proofs.lemmas.Result.{IfOk-weaker}
use Rattle.base.specs.declared.TheConstants.{BLOCK_BYTES, FIRST_DOUBLE_INDEX, INDIRECT_INDEXES}
use Rattle.disk.specs.Crash.{Image}
use Rattle.disk.specs.Device.{Device}
use Rattle.layout.specs.Decode.{bytes_of, numbers_in}
use Rattle.layout.specs.Fields.{is_zeros}
use Rattle.layout.specs.InodeForm.{is_data_block_or_none}
use Rattle.layout.specs.Parts.{content_in}
use Rattle.layout.proofs.NumbersIn.{none_left}
use Rattle.circ.specs.Log.Recovery.{image_of}
use Rattle.circ.proofs.LogLemmas.OnlyRead.{certain_then}
use Rattle.image_read.specs.LoggedImage.WithOverlay.{with_overlay}
use Rattle.image_read.specs.ImageCounts.Tally.{IsOwned}
use Rattle.image_read.specs.declared.parts.fault.PartFault.TheVariants.{Range}
use Rattle.image_read.specs.Files.RowNumbers.{IsRowMapped}
use Rattle.image_read.proofs.FilesLemmas.AllMapped.{no_row}
use Rattle.image_read.proofs.FilesLemmas.Mapped.{numbers_of_row, row_mapped, row_numbers}
use Rattle.image_read.proofs.FilesLemmas.Then.{contents_then, long_then}
use Rattle.image_read.specs.Counts.Adds.{is_none_or_below, is_some}
use Rattle.image_contents.specs.Bodies.Inner.{is_zero_row}
use Rattle.image_contents.proofs.BodiesLemmas.BelowBytes.{zero_row}
use Rattle.image_contents.proofs.BodiesLemmas.FileScans.{all_below}
use Rattle.image_contents.proofs.bodies.inner.scan_row.Goals as goal

pub returns-then-pointer-eq0-clause-scanned : goal.returns-then-pointer-eq0-clause-scanned
returns-then-pointer-eq0-clause-scanned g c = λ preserves certain long.
    let content : Image = content_in c.args.geometry.now
    (with_overlay c.args.overlay.now (image_of (g.D.CrashDisk.device c.args.disk.now))) in
    let none : nat_eq c.args.pointer 0 ≡ true = (let h = c.if-pointer-eq0.true in search rules) in (
      sym (zero_row content long
          (c.args.size - BLOCK_BYTES * (FIRST_DOUBLE_INDEX + INDIRECT_INDEXES * c.args.inner)) c.args.pointer none),
      no_row c.args.geometry.now content c.args.pointer none,
      λ met before. subst (λ l. IsOwned l c.args.owners.now)
          (sym (ap (λ l. met ++ l) (none_left content c.args.pointer none) ∙ append-nil met)) before,
    )

pub returns-in_err-numbers-clause-refused : goal.returns-in_err-numbers-clause-refused
returns-in_err-numbers-clause-refused g c = λ preserves certain range row.
    let image : Image = with_overlay c.args.overlay.now (image_of (g.D.CrashDisk.device c.args.disk.now)) in
    let fault : c.in_err-numbers.field-0.0 ≡ Range = search rules in
    let some : nat_eq c.args.pointer 0 ≡ false = (let h = c.if-pointer-eq0.false in search rules) in
    c.in_err-numbers.ensures.refused preserves certain (ap Err fault) _
    (numbers_of_row c.args.geometry.now image c.args.pointer some row)

pub meet_blocks-requires-clause-numbers : goal.meet_blocks-requires-clause-numbers
meet_blocks-requires-clause-numbers g c =
    let size = length c.args.owners.now.has in
    subst (λ l. list_all (is_none_or_below size) l ≡ true) (sym c.as_slice.ensures)
    (all_below c.args.geometry.now size c.requires.owners c.in_ok-numbers.numbers c.in_ok-numbers.ensures.placed)

pub is_zero_past-requires-clause-size : goal.is_zero_past-requires-clause-size
is_zero_past-requires-clause-size g c = omega (arith, c.requires.size, c.read_pointers.ensures.reads.size)

pub is_zero_past-requires-clause-placed : goal.is_zero_past-requires-clause-placed
is_zero_past-requires-clause-placed g c =
    subst (λ l. list_all (is_data_block_or_none c.args.geometry.now) l ≡ true) (sym c.as_slice-2.ensures)
    c.in_ok-numbers.ensures.placed

pub returns-clause-scanned : goal.returns-clause-scanned
returns-clause-scanned g c = λ preserves certain long.
    let first : Device = g.D.CrashDisk.device c.args.disk.now in
    let middle : Device = g.D.CrashDisk.device c.read_pointers.new.disk in
    let geometry = c.args.geometry.now in
    let logged = c.args.overlay.now in
    let pointer = c.args.pointer in
    let numbers : List ℕ = c.in_ok-numbers.numbers in
    let image : Image = with_overlay logged (image_of first) in
    let content : Image = content_in geometry image in
    let reads = c.read_pointers.ensures.reads in
    let same = contents_then geometry logged first middle reads in
    let are = c.in_ok-numbers.ensures.numbers (c.is_zero_past.ensures.model preserves) certain in
    let inside : numbers_in content pointer ≡ numbers = row_numbers geometry image pointer numbers are in
    let from : c.saturating_sub-rest.result
    ≡ c.args.size - BLOCK_BYTES * (FIRST_DOUBLE_INDEX + INDIRECT_INDEXES * c.args.inner) =
    c.saturating_sub-rest.ensures in
    IfOk-weaker c.is_zero_past.result
    (λ yes. yes ≡ is_zeros (drop c.saturating_sub-rest.result
    (bytes_of (content_in geometry (with_overlay logged (image_of middle))) c.as_slice-2.result.now)))
    (λ yes. (yes ≡ is_zero_row content c.args.size pointer c.args.inner) × IsRowMapped geometry content pointer
    × ((met : List ℕ) → IsOwned met c.args.owners.now
    → IsOwned (met ++ filter is_some (numbers_in content pointer)) c.meet_blocks.new.owners))
    (λ yes zeros. (
      zeros ∙ (λ i. is_zeros (drop (from i) (bytes_of (same i) ((c.as_slice-2.ensures ∙ sym inside) i)))),
      row_mapped geometry image pointer numbers are,
      λ met before. subst (λ l. IsOwned (met ++ filter is_some l) c.meet_blocks.new.owners)
          (c.as_slice.ensures ∙ sym inside) (c.meet_blocks.ensures.met met before),
    ))
    (c.is_zero_past.ensures.zeros preserves (certain_then first middle reads certain)
    (long_then geometry logged first middle reads long))
