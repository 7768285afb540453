use Rattle.std.proofs.Common.{sym, ap, ◌∙◌, subst, arith}
use Rattle.disk.specs.declared.block.BlockNo.{BlockNo}
use Rattle.layout.specs.Parts.{with_bytes}
use Rattle.layout.proofs.Written.{not_same}
use Rattle.inode.specs.WriteSets.WriteSetContents.{Shows, image_of}
use Rattle.inode.proofs.WriteSetsLemmas.PutThere.{both_ok}
use Rattle.inode_sizes.proofs.CutBlocks.{numbers_put}
use Rattle.inode_sizes.proofs.blocks.put_numbers.Goals as goal

pub returns-clause-shows : goal.returns-clause-shows
returns-clause-shows c =
    both_ok c.put.result (λ shows images blocks before.
    subst (Shows c.put.new.self) (sym (images blocks)) (shows (image_of blocks c.args.write_set.now) before))
    c.put.ensures.shows c.put.ensures.image

pub returns-clause-numbers : goal.returns-clause-numbers
returns-clause-numbers c =
    let g = c.args.write_set.now.there.geometry in
    let count = c.in_ok-bytes.ensures.len in
    let all = c.requires.len in
    both_ok c.put.result (λ shows images blocks before are.
    let image = image_of blocks c.args.write_set.now in
    numbers_put g c.args.number image (image_of blocks c.put.new.self) c.in_ok-bytes.bytes.items
    (not_same c.args.number 0 (λ is. omega (arith, c.if-number-eq0.false, is))) c.requires.placed
    (λ q low. (before.long q low, are q low)) (omega (arith, count, all))
    (images blocks ∙ (λ i. with_bytes image (ap (λ (k : BlockNo). k.0) c.whole.ensures.value.0 i)
    (c.whole.ensures.value.1 i) c.in_ok-bytes.bytes.items))
    c.args.numbers.now c.in_ok-bytes.ensures.bytes)
    c.put.ensures.shows c.put.ensures.image
