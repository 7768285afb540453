use Rattle.std.proofs.Common.{ap, sym, ◌∙◌, ◌++◌, ◌∷◌, ℕ, List, filter, nat_eq, rules}
use Rattle.std.specs.List.{flat_map, list_all}
use Rattle.layout.specs.Decode.{numbers_in}
use Rattle.layout.specs.InodeForm.{is_data_block_or_none}
use Rattle.layout.specs.Parts.{content_in}
use Rattle.layout.proofs.NumbersIn.{doubled_pass}
use Rattle.inode.proofs.HeldThere.{indirect_part_placed}
use Rattle.inode.proofs.Placed.{indirect_placed, inner_placed}
use Rattle.inode.proofs.Stops.{at_err}
use Rattle.bitmap.specs.Inodes.Frees.{is_some, named_by}
use Rattle.bitmap.proofs.InodesLemmas.OwnedBlocks.{all_owned, indirect_remaining, direct_owned}
use Rattle.bitmap.proofs.inodes.numbers.blocks_of.Goals as goal

pub add_below-requires : goal.add_below-requires
add_below-requires c =
    ap (list_all (is_data_block_or_none c.args.snap.now.geometry)) c.deref-4.ensures.value ∙ c.in_ok-inner.ensures.placed

pub returns-then-inode-eq0-clause-ok : goal.returns-then-inode-eq0-clause-ok
returns-then-inode-eq0-clause-ok c = λ blocks tree file has.
    let inode = c.args.inode.now in
    let content = content_in c.args.snap.now.geometry blocks in
    c.in_ok-blocks_before_inner.ensures
    ∙ ap (λ (indirect_part : List ℕ). filter is_some (inode.indirect ∷ inode.double ∷ inode.direct ++ indirect_part))
    (c.deref.ensures.value ∙ c.in_ok-indirect_part.ensures.ok blocks tree has.over)
    ∙ indirect_remaining content (inode.indirect ∷ inode.double ∷ inode.direct) inode
    ∙ direct_owned content inode (ap (λ n. nat_eq n 0) c.if-inode-eq0.true)

pub returns-clause-ok : goal.returns-clause-ok
returns-clause-ok c = λ blocks tree file has.
    let inode = c.args.inode.now in
    let content = content_in c.args.snap.now.geometry blocks in
    let inner = c.in_ok-inner.ensures.ok blocks tree file has in
    let first = c.deref-2.ensures.value ∙ inner in
    let indirect_part = c.deref-3.ensures.value ∙ c.in_ok-indirect_part.ensures.ok blocks tree has.over in
    let lower_part : List ℕ = inode.indirect ∷ inode.double ∷ numbers_in content inode.double ++ inode.direct in
    c.in_ok-add_below.ensures.ok blocks tree has.over
    ∙ (λ i. (c.in_ok-numbers.ensures
    ∙ (λ j. filter is_some (inode.indirect ∷ inode.double ∷ first j ++ inode.direct ++ indirect_part j))
    ∙ indirect_remaining content lower_part inode) i
    ++ flat_map (named_by content) ((c.deref-4.ensures.value ∙ inner) i))
    ∙ all_owned content inode

pub returns-in_err-indirect_part-clause-resumable : goal.returns-in_err-indirect_part-clause-resumable
returns-in_err-indirect_part-clause-resumable c =
    at_err c.from_residual.result c.in_err-indirect_part.field-0.0 _ (search rules) (λ blocks tree file has.
    let snap = c.args.snap.now in
    let inode = c.args.inode.now in
    c.in_err-indirect_part.ensures.resumable blocks tree has.over (indirect_placed snap blocks tree file inode has)
    (indirect_part_placed snap blocks tree file inode has))

pub returns-in_err-add_below-clause-resumable : goal.returns-in_err-add_below-clause-resumable
returns-in_err-add_below-clause-resumable c =
    at_err c.from_residual-in_err-add_below.result c.in_err-add_below.field-0.0 _ (search rules) (λ blocks tree file has.
    let inode = c.args.inode.now in
    let content = content_in c.args.snap.now.geometry blocks in
    let test = is_data_block_or_none c.args.snap.now.geometry in
    let inner = c.deref-4.ensures.value ∙ c.in_ok-inner.ensures.ok blocks tree file has in
    c.in_err-add_below.ensures.resumable blocks tree has.over
    (ap (list_all (λ pointer. list_all test (numbers_in content pointer))) inner
    ∙ sym (doubled_pass content inode.double test)
    ∙ (inner_placed c.args.snap.now blocks tree file inode has).named))
