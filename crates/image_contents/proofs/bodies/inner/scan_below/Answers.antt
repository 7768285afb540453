use Rattle.std.proofs.Common.{rules, ◌≡◌, ◌-◌, ◌*◌, ◌<◌, ◌∙◌, ◌++◌, ◌∷◌, ap, sym, subst, filter, length}
use Rattle.std.proofs.Common.{true, false, nat_eq, ℕ, Bool, List, drop, get_or, Err, arith}
use Rattle.std.specs.List.{flat_map, list_all}
use Rattle.std.proofs.lemmas.List.{append-nil, append_assoc}
use Rattle.std.proofs.lemmas.Result.{IfOk-weaker}
use Rattle.base.specs.declared.TheConstants.{BLOCK_BYTES, FIRST_DOUBLE_INDEX}
use Rattle.disk.specs.Crash.{Image}
use Rattle.disk.specs.Device.{Device}
use Rattle.layout.specs.Decode.{bytes_of, doubled_in, numbers_in}
use Rattle.layout.specs.Fields.{is_zeros}
use Rattle.layout.specs.Parts.{content_in}
use Rattle.layout.proofs.NumbersIn.{in_length}
use Rattle.circ.specs.Log.Recovery.{image_of}
use Rattle.circ.proofs.LogLemmas.OnlyRead.{certain_then}
use Rattle.image_read.specs.LoggedImage.WithOverlay.{with_overlay}
use Rattle.image_read.specs.ImageCounts.Tally.{IsOwned}
use Rattle.image_read.specs.declared.parts.fault.PartFault.TheVariants.{Range}
use Rattle.image_read.specs.Files.RowNumbers.{IsBelowMapped, IsRowMapped}
use Rattle.image_read.proofs.FilesLemmas.AllMapped.{no_below, row_below, rows_below}
use Rattle.image_read.proofs.FilesLemmas.Data.{none_or_data}
use Rattle.image_read.proofs.FilesLemmas.Mapped.{numbers_of_row, row_mapped, row_numbers}
use Rattle.image_read.proofs.FilesLemmas.Rows.{all_rows}
use Rattle.image_read.proofs.FilesLemmas.Then.{contents_then, long_then}
use Rattle.image_read.specs.Counts.Adds.{is_none_or_below, is_some}
use Rattle.image_contents.specs.Bodies.Inner.{are_zero_rows, below_of, is_zero_below}
use Rattle.image_contents.proofs.BodiesLemmas.BelowBytes.{zero_doubled}
use Rattle.image_contents.proofs.BodiesLemmas.FileScans.{all_below, none_or_below}
use Rattle.image_contents.proofs.BodiesLemmas.AllMet.{nothing_below}
use Rattle.image_contents.proofs.bodies.inner.scan_below.Goals as goal

-- these numbers are those of blocks with nothing but zeros past a size
abbrev zero_past : Image → ℕ → List ℕ → Bool
zero_past content size numbers =
    is_zeros (drop (size - BLOCK_BYTES * FIRST_DOUBLE_INDEX) (bytes_of content numbers))

pub returns-then-inode-eq0-clause-scanned : goal.returns-then-inode-eq0-clause-scanned
returns-then-inode-eq0-clause-scanned g c = λ preserves certain long.
    let content : Image = content_in c.args.geometry.now
    (with_overlay c.args.overlay.now (image_of (g.D.CrashDisk.device c.args.disk.now))) in
    let inode = c.args.inode.now in
    let none : nat_eq inode.double 0 ≡ true = (let h = c.if-inode-eq0.true in search rules) in (
      sym (zero_doubled content long (inode.size - BLOCK_BYTES * FIRST_DOUBLE_INDEX) inode.double none),
      no_below c.args.geometry.now content inode.double none,
      λ met before. subst (λ l. IsOwned l c.args.owners.now)
          (sym (ap (λ l. met ++ l) (nothing_below content inode.double none) ∙ append-nil met)) before,
    )

pub returns-in_err-inner-clause-refused : goal.returns-in_err-inner-clause-refused
returns-in_err-inner-clause-refused g c = λ preserves certain range below.
    let image : Image = with_overlay c.args.overlay.now (image_of (g.D.CrashDisk.device c.args.disk.now)) in
    let fault : c.in_err-inner.field-0.0 ≡ Range = search rules in
    let some : nat_eq c.args.inode.now.double 0 ≡ false = (let h = c.if-inode-eq0.false in search rules) in
    c.in_err-inner.ensures.refused preserves certain (ap Err fault) _
    (numbers_of_row c.args.geometry.now image c.args.inode.now.double some below.double_mapped)

pub meet_blocks-requires-clause-indirect : goal.meet_blocks-requires-clause-indirect
meet_blocks-requires-clause-indirect g c =
    none_or_below c.args.geometry.now (length c.args.owners.now.has) c.requires.owners c.args.inode.now.double
    (none_or_data c.args.geometry.now c.args.inode.now.double c.in_ok-inner.ensures.lies)

pub meet_blocks-requires-clause-numbers : goal.meet_blocks-requires-clause-numbers
meet_blocks-requires-clause-numbers g c =
    let size = length c.args.owners.now.has in
    subst (λ l. list_all (is_none_or_below size) l ≡ true) (sym c.as_slice.ensures)
    (all_below c.args.geometry.now size c.requires.owners c.in_ok-inner.inner c.in_ok-inner.ensures.placed)

pub scan_rows-requires-clause-size : goal.scan_rows-requires-clause-size
scan_rows-requires-clause-size g c = omega (arith, c.requires.size, c.read_pointers.ensures.reads.size)

pub scan_rows-requires-clause-owners : goal.scan_rows-requires-clause-owners
scan_rows-requires-clause-owners g c = c.meet_blocks.ensures.size ∙ c.requires.owners

pub returns-clause-scanned : goal.returns-clause-scanned
returns-clause-scanned g c = λ preserves certain long.
    let first : Device = g.D.CrashDisk.device c.args.disk.now in
    let middle : Device = g.D.CrashDisk.device c.read_pointers.new.disk in
    let geometry = c.args.geometry.now in
    let logged = c.args.overlay.now in
    let inode = c.args.inode.now in
    let double = inode.double in
    let inner : List ℕ = c.in_ok-inner.inner in
    let image : Image = with_overlay logged (image_of first) in
    let content : Image = content_in geometry image in
    let there : Image = content_in geometry (with_overlay logged (image_of middle)) in
    let reads = c.read_pointers.ensures.reads in
    let same : there ≡ content = contents_then geometry logged first middle reads in
    let are = c.in_ok-inner.ensures.numbers (c.scan_rows.ensures.model preserves) certain in
    let inside : numbers_in content double ≡ inner = row_numbers geometry image double inner are in
    let given : c.as_slice-2.result.now ≡ numbers_in content double = c.as_slice-2.ensures ∙ sym inside in
    let met_first : c.as_slice.result.now ≡ numbers_in content double = c.as_slice.ensures ∙ sym inside in
    let reached : flat_map (numbers_in there) c.as_slice-2.result.now ≡ doubled_in content double =
    (λ i. flat_map (numbers_in (same i)) (given i)) ∙ all_rows content double in
    IfOk-weaker c.scan_rows.result
    (λ yes. (yes ≡ are_zero_rows there inode.size c.as_slice-2.result.now)
    × ((i : ℕ) → i < length c.as_slice-2.result.now → IsRowMapped geometry there (get_or c.as_slice-2.result.now i 0))
    × ((met : List ℕ) → IsOwned met c.meet_blocks.new.owners
    → IsOwned (met ++ filter is_some (flat_map (numbers_in there) c.as_slice-2.result.now)) c.scan_rows.new.owners))
    (λ yes. (yes ≡ is_zero_below content inode) × IsBelowMapped geometry content double
    × ((met : List ℕ) → IsOwned met c.args.owners.now
    → IsOwned (met ++ below_of content double) c.scan_rows.new.owners))
    (λ yes rows. (
      rows.0 ∙ (λ i. are_zero_rows (same i) inode.size (given i))
          ∙ ap (λ l. zero_past content inode.size l) (all_rows content double),
      rows_below geometry content double (row_mapped geometry image double inner are)
          (λ i less. subst (λ k. IsRowMapped geometry k (get_or (numbers_in content double) i 0)) same
          (subst (λ l. IsRowMapped geometry there (get_or l i 0)) given
          (rows.1 i (let long = in_length content double in let as_long = ap length given in
          omega (arith, less, long, as_long))))),
      λ met before. subst (λ l. IsOwned l c.scan_rows.new.owners)
          (append_assoc met (filter is_some (double ∷ numbers_in content double))
          (filter is_some (doubled_in content double)))
          (subst (λ l. IsOwned ((met ++ filter is_some (double ∷ numbers_in content double)) ++ filter is_some l)
          c.scan_rows.new.owners) reached
          (rows.2 (met ++ filter is_some (double ∷ numbers_in content double))
          (subst (λ l. IsOwned (met ++ filter is_some (double ∷ l)) c.meet_blocks.new.owners) met_first
          (c.meet_blocks.ensures.met met before)))),
    ))
    (c.scan_rows.ensures.scanned preserves (certain_then first middle reads certain)
    (long_then geometry logged first middle reads long))

pub returns-clause-refused : goal.returns-clause-refused
returns-clause-refused g c = λ preserves certain range below.
    let first : Device = g.D.CrashDisk.device c.args.disk.now in
    let middle : Device = g.D.CrashDisk.device c.read_pointers.new.disk in
    let geometry = c.args.geometry.now in
    let logged = c.args.overlay.now in
    let double = c.args.inode.now.double in
    let inner : List ℕ = c.in_ok-inner.inner in
    let image : Image = with_overlay logged (image_of first) in
    let content : Image = content_in geometry image in
    let reads = c.read_pointers.ensures.reads in
    let same = contents_then geometry logged first middle reads in
    let are = c.in_ok-inner.ensures.numbers (c.scan_rows.ensures.model preserves) certain in
    let given : c.as_slice-2.result.now ≡ numbers_in content double =
    c.as_slice-2.ensures ∙ sym (row_numbers geometry image double inner are) in
    c.scan_rows.ensures.refused preserves (certain_then first middle reads certain) range
    (λ i less. subst (λ k. IsRowMapped geometry k (get_or c.as_slice-2.result.now i 0)) (sym same)
    (subst (λ l. IsRowMapped geometry content (get_or l i 0)) (sym given)
    (row_below geometry content double below i
    (let long = in_length content double in let as_long = ap length given in omega (arith, less, long, as_long)))))
