use Rattle.std.proofs.Common.{◌≡◌, ℕ, ◌-◌, ◌*◌, ◌∷◌, [], sym, ap, ◌∙◌, refl, ◌&&◌, true, List, length}
use Rattle.std.proofs.Common.{length-append, arith}
use Rattle.std.specs.List.{list_all}
use Rattle.base.specs.declared.TheConstants.{INDIRECT_INDEXES}
use Rattle.layout.specs.Decode.{numbers_in}
use Rattle.layout.specs.InodeForm.{is_data_block_or_none}
use Rattle.layout.specs.Parts.{content_in}
use Rattle.layout.proofs.NumbersIn.{in_length, none_some}
use Rattle.inode_sizes.proofs.CutNumbers.{all_both}
use Rattle.inode_sizes.proofs.InnersCut.{cut_not_through, cut_none, cut_through}
use Rattle.inode_sizes.proofs.ReadBack.{left_over_passes}
use Rattle.inode_sizes.proofs.doubles.cut_inner.Goals as goal

pub returns-then-pointer-eq0-clause-ok : goal.returns-then-pointer-eq0-clause-ok
returns-then-pointer-eq0-clause-ok c = λ blocks tree pointers before over is.
    let content = content_in c.args.snap.now.geometry blocks in
    let inners = c.args.inners.now in
    cut_none (numbers_in content) (in_length content) pointers c.args.count before inners.numbers.items inners.part
    inners.part_numbers.items inners.used c.args.gone.now.items is c.args.pointer c.add.new.numbers.items
    (none_some content 0 refl) (omega (arith, c.if-pointer-eq0.true)) c.in_ok-add.ensures

pub returns-then-pointer-eq0-clause-fits : goal.returns-then-pointer-eq0-clause-fits
returns-then-pointer-eq0-clause-fits c = λ placed.
    let test = is_data_block_or_none c.args.snap.now.geometry in
    let was = c.args.inners.now.numbers.items in
    let few = c.requires.fits.few in
    let more = ap (λ (l : List ℕ). length l) c.in_ok-add.ensures ∙ length-append was (0 ∷ []) in
    record {
      placed = ap (list_all test) c.in_ok-add.ensures ∙ all_both test was (0 ∷ []) c.requires.fits.placed refl;
      part_placed = c.requires.fits.part_placed;
      part_count = c.requires.fits.part_count;
      few = omega (arith, few, more);
    }

pub returns-then-index-through-clause-ok : goal.returns-then-index-through-clause-ok
returns-then-index-through-clause-ok c = λ blocks tree pointers before over is.
    let content = content_in c.args.snap.now.geometry blocks in
    let inners = c.args.inners.now in
    let row = c.in_ok-row.row in
    let at : c.len-index.result ≡ length inners.numbers.items = omega (arith, c.len-index.ensures) in
    cut_not_through (numbers_in content) (in_length content) pointers c.args.count before inners.numbers.items inners.part
    inners.part_numbers.items inners.used c.args.gone.now.items is c.args.pointer c.add-2.new.numbers.items
    row.pointer row.numbers.items row.used c.cut_row.new.gone.items c.deref.result.now c.saturating_sub.result
    c.in_ok-row.ensures.is (c.deref.ensures.value ∙ c.in_ok-numbers.ensures.ok blocks tree over)
    (c.saturating_sub.ensures ∙ ap (λ (n : ℕ). c.args.count - INDIRECT_INDEXES * n) at)
    c.in_ok-add-2.ensures (λ e. c.if-index-through.true (at ∙ e))

pub returns-then-index-through-clause-fits : goal.returns-then-index-through-clause-fits
returns-then-index-through-clause-fits c = λ placed.
    let test = is_data_block_or_none c.args.snap.now.geometry in
    let was = c.args.inners.now.numbers.items in
    let row = c.in_ok-row.row in
    let few = c.requires.fits.few in
    let row_few = c.in_ok-row.ensures.few in
    let more = ap (λ (l : List ℕ). length l) c.in_ok-add-2.ensures ∙ length-append was (row.pointer ∷ []) in
    let now = left_over_passes test c.args.pointer row.pointer row.numbers.items refl
    c.in_ok-row.ensures.is.pointer_is placed in
    record {
      placed = ap (list_all test) c.in_ok-add-2.ensures
          ∙ all_both test was (row.pointer ∷ []) c.requires.fits.placed (λ i. now i && true);
      part_placed = c.requires.fits.part_placed;
      part_count = c.requires.fits.part_count;
      few = omega (arith, few, row_few, more);
    }

pub returns-clause-ok : goal.returns-clause-ok
returns-clause-ok c = λ blocks tree pointers before over is.
    let content = content_in c.args.snap.now.geometry blocks in
    let inners = c.args.inners.now in
    let row = c.in_ok-row.row in
    let at : c.len-index.result ≡ length inners.numbers.items = omega (arith, c.len-index.ensures) in
    cut_through (numbers_in content) (in_length content) pointers c.args.count before inners.numbers.items inners.part
    inners.part_numbers.items inners.used c.args.gone.now.items is c.args.pointer c.add-2.new.numbers.items
    row.pointer row.numbers.items row.used c.cut_row.new.gone.items c.deref.result.now c.saturating_sub.result
    c.in_ok-row.ensures.is (c.deref.ensures.value ∙ c.in_ok-numbers.ensures.ok blocks tree over)
    (c.saturating_sub.ensures ∙ ap (λ (n : ℕ). c.args.count - INDIRECT_INDEXES * n) at)
    c.in_ok-add-2.ensures (sym at ∙ c.if-index-through.false)

pub returns-clause-fits : goal.returns-clause-fits
returns-clause-fits c = λ placed.
    let test = is_data_block_or_none c.args.snap.now.geometry in
    let was = c.args.inners.now.numbers.items in
    let row = c.in_ok-row.row in
    let few = c.requires.fits.few in
    let row_few = c.in_ok-row.ensures.few in
    let more = ap (λ (l : List ℕ). length l) c.in_ok-add-2.ensures ∙ length-append was (row.pointer ∷ []) in
    let now = left_over_passes test c.args.pointer row.pointer row.numbers.items refl
    c.in_ok-row.ensures.is.pointer_is placed in
    record {
      placed = ap (list_all test) c.in_ok-add-2.ensures
          ∙ all_both test was (row.pointer ∷ []) c.requires.fits.placed (λ i. now i && true);
      part_placed = now;
      part_count = c.in_ok-row.ensures.len;
      few = omega (arith, few, row_few, more);
    }
