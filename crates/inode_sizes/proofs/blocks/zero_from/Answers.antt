use Rattle.std.proofs.Common.{◌≡◌, sym, ap, ◌∙◌, subst, arith}
use Rattle.disk.specs.declared.block.BlockNo.{BlockNo}
use Rattle.layout.specs.Parts.{content_in, with_bytes}
use Rattle.layout.proofs.Written.{not_same}
use Rattle.inode.specs.declared.snap.Snap.{Snap}
use Rattle.inode.specs.Over.{IsOver}
use Rattle.inode.specs.WriteSets.WriteSetContents.{Shows, image_of}
use Rattle.inode.proofs.WriteSetsLemmas.PutThere.{both_ok, over_of}
use Rattle.inode_sizes.specs.Cut.{zeroed}
use Rattle.inode_sizes.proofs.CutBlocks.{same_zeros, zeros_put}
use Rattle.inode_sizes.proofs.blocks.zero_from.Goals as goal

pub returns-then-number-eq0-clause-zeros : goal.returns-then-number-eq0-clause-zeros
returns-then-number-eq0-clause-zeros c = λ blocks tree write_set most.
    same_zeros c.args.write_set.now.there.geometry c.args.number c.args.from (image_of blocks c.args.write_set.now)
    (omega (arith, c.if-number-eq0.true))

pub returns-clause-shows : goal.returns-clause-shows
returns-clause-shows c =
    both_ok c.put.result (λ shows images blocks before.
    subst (Shows c.put.new.self) (sym (images blocks)) (shows (image_of blocks c.args.write_set.now) before))
    c.put.ensures.shows c.put.ensures.image

pub returns-clause-zeros : goal.returns-clause-zeros
returns-clause-zeros c =
    let g = c.args.write_set.now.there.geometry in
    let number = c.args.number in
    both_ok c.put.result (λ shows images blocks tree write_set most.
    let image = image_of blocks c.args.write_set.now in
    let block_is = subst (λ (s : Snap). c.in_ok-block.block.now ≡ content_in s.geometry image number)
    c.there.ensures.there
    (c.in_ok-block.ensures.ok image tree (subst (λ (s : Snap). IsOver s image tree) (sym c.there.ensures.there)
    (over_of c.args.write_set.now blocks tree write_set))) in
    zeros_put g number image (image_of blocks c.put.new.self) c.in_ok-bytes.bytes.items
    (not_same number 0 (λ is. omega (arith, c.if-number-eq0.false, is))) c.requires write_set.holds.bytes
    c.in_ok-bytes.ensures.len
    (images blocks ∙ (λ i. with_bytes image (ap (λ (k : BlockNo). k.0) c.whole.ensures.value.0 i)
    (c.whole.ensures.value.1 i) c.in_ok-bytes.bytes.items))
    c.args.from (c.in_ok-bytes.ensures.is ∙ ap (zeroed c.args.from) block_is))
    c.put.ensures.shows c.put.ensures.image
