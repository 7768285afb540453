use Rattle.std.proofs.Common.{rules, ℕ, sym, ap, ◌∙◌, refl, subst, List, length, take, arith}
use Rattle.std.specs.List.{list_all}
use Rattle.std.proofs.lemmas.List.{take_all, take_more}
use Rattle.layout.specs.Decode.{numbers_in}
use Rattle.layout.specs.InodeForm.{is_data_block_or_none}
use Rattle.layout.specs.Parts.{content_in}
use Rattle.layout.proofs.NumbersIn.{none_pass, some_in}
use Rattle.inode.proofs.Placed.{passes_at}
use Rattle.inode.proofs.Stops.{at_err}
use Rattle.inode_sizes.specs.Doubles.{AreInnersCut}
use Rattle.inode_sizes.proofs.InnersCut.{none_yet}
use Rattle.inode_sizes.proofs.doubles.cut_inners.Goals as goal

pub loop-pointer-init : goal.loop-pointer-init
loop-pointer-init c =
    let test = is_data_block_or_none c.args.snap.now.geometry in
    let inners = c.in_ok-inners.inners in
    let none = c.in_ok-inners.ensures.numbers in
    let no_use = c.in_ok-inners.ensures.used in (
      ap (λ (l : List ℕ). length l) none,
      record {
        placed = ap (list_all test) none;
        part_placed = ap test c.in_ok-inners.ensures.part;
        part_count = c.in_ok-inners.ensures.count;
        few = omega (arith, no_use);
      },
      λ blocks tree over. none_yet (numbers_in (content_in c.args.snap.now.geometry blocks)) c.args.count
          c.args.gone.now.items inners.numbers.items inners.part inners.part_numbers.items inners.used none
          c.in_ok-inners.ensures.part no_use,
    )

pub loop-pointer-preserved : goal.loop-pointer-preserved
loop-pointer-preserved c =
    let i = c.loop-pointer.pointer-index in
    let pointers = c.args.pointers.now in
    let count = c.loop-pointer.invariant.0 in
    let more = c.in_ok-cut_inner.ensures.len in (
      omega (arith, count, more),
      c.in_ok-cut_inner.ensures.fits
          (passes_at (is_data_block_or_none c.args.snap.now.geometry) pointers i refl c.requires.placed),
      λ blocks tree over.
          subst (λ l. AreInnersCut (numbers_in (content_in c.args.snap.now.geometry blocks)) l c.args.count
          c.args.gone.now.items c.cut_inner.new.inners.numbers.items c.cut_inner.new.inners.part
          c.cut_inner.new.inners.part_numbers.items c.cut_inner.new.inners.used c.cut_inner.new.gone.items)
          (sym (take_more pointers i 0 c.loop-pointer-test.true))
          (c.in_ok-cut_inner.ensures.ok blocks tree (take i pointers) c.args.gone.now.items over
          (c.loop-pointer.invariant.2 blocks tree over)),
    )

pub cut_inner-requires-clause-less : goal.cut_inner-requires-clause-less
cut_inner-requires-clause-less c =
    let count = c.loop-pointer.invariant.0 in
    let less = c.loop-pointer-test.true in
    let all = c.requires.len in omega (arith, count, less, all)

pub returns-clause-len : goal.returns-clause-len
returns-clause-len c =
    let count = c.loop-pointer.invariant.0 in
    let past = c.loop-pointer-test.false in
    let all = c.requires.len in omega (arith, count, past, all)

pub returns-clause-ok : goal.returns-clause-ok
returns-clause-ok c = λ blocks tree over.
    let past = c.loop-pointer-test.false in
    subst (λ l. AreInnersCut (numbers_in (content_in c.args.snap.now.geometry blocks)) l c.args.count
    c.args.gone.now.items c.loop-pointer.inners.numbers.items c.loop-pointer.inners.part
    c.loop-pointer.inners.part_numbers.items c.loop-pointer.inners.used c.loop-pointer.gone.items)
    (take_all c.loop-pointer.pointer-index c.args.pointers.now (omega (arith, past)))
    (c.loop-pointer.invariant.2 blocks tree over)

pub returns-in_err-cut_inner-clause-resumable : goal.returns-in_err-cut_inner-clause-resumable
returns-in_err-cut_inner-clause-resumable c =
    at_err c.from_residual-in_err-cut_inner.result c.in_err-cut_inner.field-0.0 _ (search rules)
    (λ blocks tree over named.
    let test = is_data_block_or_none c.args.snap.now.geometry in
    let content = content_in c.args.snap.now.geometry blocks in
    let i = c.loop-pointer.pointer-index in
    let pointers = c.args.pointers.now in
    c.in_err-cut_inner.ensures.resumable blocks tree over (passes_at test pointers i refl c.requires.placed)
    (λ some. ap (list_all test) (sym (some_in content _ some))
    ∙ passes_at (λ pointer. list_all test (numbers_in content pointer)) pointers i (none_pass content 0 refl test refl)
    named))
