use Rattle.std.proofs.Common.{sym, ap, ◌∙◌, ◌++◌, refl, ℕ, List, append-nil, arith, rules}
use Rattle.std.specs.List.{flat_map, list_all}
use Rattle.std.proofs.lemmas.List.{take_all}
use Rattle.layout.specs.Decode.{numbers_in}
use Rattle.layout.specs.InodeForm.{is_data_block_or_none}
use Rattle.layout.specs.Parts.{content_in}
use Rattle.layout.proofs.NumbersIn.{none_pass, some_in}
use Rattle.inode.proofs.Placed.{passes_at}
use Rattle.inode.proofs.Stops.{at_err}
use Rattle.bitmap.specs.Inodes.Frees.{named_by}
use Rattle.bitmap.proofs.InodesLemmas.OwnedBlocks.{one_more}
use Rattle.bitmap.proofs.inodes.numbers.add_below.Goals as goal

pub loop-pointer-init : goal.loop-pointer-init
loop-pointer-init c = λ blocks tree over. sym (append-nil c.args.numbers.now.items)

pub loop-pointer-preserved : goal.loop-pointer-preserved
loop-pointer-preserved c = λ blocks tree over.
    one_more (content_in c.args.snap.now.geometry blocks) c.args.numbers.now.items c.args.pointers.now
    c.loop-pointer.numbers.items c.add_inner.new.numbers.items c.loop-pointer.pointer-index
    c.loop-pointer-test.true (c.loop-pointer.invariant blocks tree over) (c.in_ok-add_inner.ensures.ok blocks tree over)

pub returns-clause-ok : goal.returns-clause-ok
returns-clause-ok c = λ blocks tree over.
    let past = c.loop-pointer-test.false in
    c.loop-pointer.invariant blocks tree over
    ∙ ap (λ (l : List ℕ). c.args.numbers.now.items
    ++ flat_map (named_by (content_in c.args.snap.now.geometry blocks)) l)
    (take_all c.loop-pointer.pointer-index c.args.pointers.now (omega (arith, past)))

pub returns-in_err-add_inner-clause-resumable : goal.returns-in_err-add_inner-clause-resumable
returns-in_err-add_inner-clause-resumable c =
    at_err c.from_residual.result c.in_err-add_inner.field-0.0 _ (search rules) (λ blocks tree over named.
    let test = is_data_block_or_none c.args.snap.now.geometry in
    let content = content_in c.args.snap.now.geometry blocks in
    let i = c.loop-pointer.pointer-index in
    let pointers = c.args.pointers.now in
    c.in_err-add_inner.ensures.resumable blocks tree over (passes_at test pointers i refl c.requires)
    (λ some. ap (list_all test) (sym (some_in content _ some))
    ∙ passes_at (λ pointer. list_all test (numbers_in content pointer)) pointers i (none_pass content 0 refl test refl)
    named))
