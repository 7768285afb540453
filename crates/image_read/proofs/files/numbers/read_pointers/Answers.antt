use Rattle.std.proofs.Common.{◌≡◌, ◌∙◌, ap, sym, subst, true, nat_eq, IfOk}
use Rattle.std.specs.List.{list_all}
use Rattle.base.specs.declared.TheConstants.{INDIRECT_INDEXES}
use Rattle.disk.specs.Crash.{Image}
use Rattle.layout.specs.Fields.{numbers_at}
use Rattle.layout.specs.InodeForm.{is_data_block_or_none}
use Rattle.circ.specs.Log.Recovery.{image_of}
use Rattle.image_read.specs.LoggedImage.WithOverlay.{with_overlay}
use Rattle.image_read.proofs.FilesLemmas.Mapped.{all_none, not_all}
use Rattle.image_read.proofs.files.numbers.read_pointers.Goals as goal

pub returns-then-are_none-clause-refused : goal.returns-then-are_none-clause-refused
returns-then-are_none-clause-refused g c = λ preserves certain range numbers indirect_part.
    let image : Image = with_overlay c.args.overlay.now (image_of (g.D.CrashDisk.device c.args.disk.now)) in
    let read : c.in_ok-numbers.numbers ≡ numbers_at INDIRECT_INDEXES 0 c.as_slice.result.now =
    subst (λ r. IfOk r (λ n. n ≡ numbers_at INDIRECT_INDEXES 0 c.as_slice.result.now)) c.in_ok-numbers.was
    c.in_ok-read-2.ensures.ok in
    let is : c.in_ok-numbers.numbers ≡ numbers =
    read ∙ ap (numbers_at INDIRECT_INDEXES 0) (c.as_slice.ensures.bytes ∙ c.in_ok-read.ensures.overlaid_content preserves certain)
    ∙ sym indirect_part.are in
    all_none numbers
    (ap (list_all (λ n. nat_eq n 0)) (sym is ∙ sym c.as_slice-2.ensures) ∙ sym c.are_none.ensures ∙ c.if-are_none.true)
    indirect_part.some

pub returns-clause-numbers : goal.returns-clause-numbers
returns-clause-numbers g c = λ preserves certain.
    let read : c.in_ok-numbers.numbers ≡ numbers_at INDIRECT_INDEXES 0 c.as_slice.result.now =
    subst (λ r. IfOk r (λ n. n ≡ numbers_at INDIRECT_INDEXES 0 c.as_slice.result.now)) c.in_ok-numbers.was
    c.in_ok-read-2.ensures.ok in
    record {
      lies = sym c.is_data.ensures ∙ c.if-not-is_data.false;
      are = read ∙ ap (numbers_at INDIRECT_INDEXES 0)
          (c.as_slice.ensures.bytes ∙ c.in_ok-read.ensures.overlaid_content preserves certain);
      placed = subst (λ r. IfOk r (λ n. list_all (is_data_block_or_none c.args.geometry.now) n ≡ true)) c.in_ok-numbers.was
          c.in_ok-read-2.ensures.places;
      some = not_all c.in_ok-numbers.numbers
          (ap (list_all (λ n. nat_eq n 0)) (sym c.as_slice-2.ensures) ∙ sym c.are_none.ensures ∙ c.if-are_none.false);
    }
