use Rattle.std.proofs.Common.{rules, ◌≡◌, ◌∙◌, ◌++◌, ap, sym, true, false, nat_eq, replicate, Err}
use Rattle.std.specs.List.{list_all}
use Rattle.base.specs.declared.TheConstants.{INDIRECT_INDEXES}
use Rattle.disk.specs.Crash.{Image}
use Rattle.layout.specs.InodeForm.{is_data_block_or_none}
use Rattle.layout.specs.Parts.{content_in}
use Rattle.circ.specs.Log.Recovery.{image_of}
use Rattle.image_read.specs.LoggedImage.WithOverlay.{with_overlay}
use Rattle.image_read.specs.declared.parts.fault.PartFault.TheVariants.{Range}
use Rattle.image_read.proofs.FilesLemmas.AllMapped.{mapped_direct, mapped_row, mapped_before_double, no_row}
use Rattle.image_read.proofs.FilesLemmas.Mapped.{numbers_of_row, numbers_without_indirect, row_mapped, row_numbers}
use Rattle.image_read.proofs.files.numbers.read_numbers.Goals as goal

pub returns-then-not-are_placed-clause-refused : goal.returns-then-not-are_placed-clause-refused
returns-then-not-are_placed-clause-refused g c = λ preserves certain sound range mapped.
    let image : Image = with_overlay c.args.overlay.now (image_of (g.D.CrashDisk.device c.args.disk.now)) in
    let direct_part = mapped_direct c.args.geometry.now (content_in c.args.geometry.now image) c.args.inode.now mapped in
    let clash : true ≡ false = sym direct_part ∙ sym c.are_placed.ensures ∙ c.if-not-are_placed.true in cc

pub returns-then-inode-eq0-clause-numbers : goal.returns-then-inode-eq0-clause-numbers
returns-then-inode-eq0-clause-numbers g c = λ preserves certain.
    let image : Image = with_overlay c.args.overlay.now (image_of (g.D.CrashDisk.device c.args.disk.now)) in
    let geometry = c.args.geometry.now in
    let inode = c.args.inode.now in
    let none : nat_eq inode.indirect 0 ≡ true = (let h = c.if-inode-eq0.true in search rules) in
    let direct_part : list_all (is_data_block_or_none geometry) inode.direct ≡ true =
    sym c.are_placed.ensures ∙ c.if-not-are_placed.false in (
      c.in_ok-extend_from_slice.ensures.items ∙ ap (λ l. l ++ replicate INDIRECT_INDEXES 0) c.in_ok-numbers.ensures.items
          ∙ numbers_without_indirect geometry image inode none,
      mapped_before_double geometry (content_in geometry image) inode direct_part
          (no_row geometry (content_in geometry image) inode.indirect none),
    )

pub returns-in_err-indirect_part-clause-refused : goal.returns-in_err-indirect_part-clause-refused
returns-in_err-indirect_part-clause-refused g c = λ preserves certain sound range mapped.
    let image : Image = with_overlay c.args.overlay.now (image_of (g.D.CrashDisk.device c.args.disk.now)) in
    let geometry = c.args.geometry.now in
    let inode = c.args.inode.now in
    let fault : c.in_err-indirect_part.field-0.0 ≡ Range = search rules in
    let some : nat_eq inode.indirect 0 ≡ false = (let h = c.if-inode-eq0.false in search rules) in
    c.in_err-indirect_part.ensures.refused preserves certain (ap Err fault) _
    (numbers_of_row geometry image inode.indirect some (mapped_row geometry (content_in geometry image) inode mapped))

pub returns-clause-numbers : goal.returns-clause-numbers
returns-clause-numbers g c = λ preserves certain.
    let image : Image = with_overlay c.args.overlay.now (image_of (g.D.CrashDisk.device c.args.disk.now)) in
    let geometry = c.args.geometry.now in
    let inode = c.args.inode.now in
    let indirect_part = c.in_ok-indirect_part.ensures.numbers preserves certain in
    let direct_part : list_all (is_data_block_or_none geometry) inode.direct ≡ true =
    sym c.are_placed.ensures ∙ c.if-not-are_placed.false in (
      c.in_ok-extend_from_slice-2.ensures.items
          ∙ (λ i. c.in_ok-numbers.ensures.items i ++ c.as_slice.ensures i)
          ∙ ap (λ l. inode.direct ++ l) (sym (row_numbers geometry image inode.indirect c.in_ok-indirect_part.indirect_part indirect_part)),
      mapped_before_double geometry (content_in geometry image) inode direct_part
          (row_mapped geometry image inode.indirect c.in_ok-indirect_part.indirect_part indirect_part),
    )
