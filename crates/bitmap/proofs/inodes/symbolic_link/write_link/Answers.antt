use Rattle.std.proofs.Common.{◌≡◌, ◌<◌, sym, ap, ◌∙◌, subst, true}
use Rattle.disk.specs.declared.block.BlockNo.{BlockNo}
use Rattle.layout.specs.declared.geometry.Geometry.{Geometry}
use Rattle.layout.specs.Parts.{with_bytes, with_inode}
use Rattle.bitmap.specs.Bits.{MarksNumber}
use Rattle.inode.specs.WriteSets.WriteSetContents.{Shows, image_of}
use Rattle.inode.proofs.WriteSetsLemmas.PutThere.{both_ok}
use Rattle.bitmap.proofs.inodes.symbolic_link.write_link.Goals as goal

pub returns-in-Ok-mark_number-clause-shows : goal.returns-in-Ok-mark_number-clause-shows
returns-in-Ok-mark_number-clause-shows c =
    both_ok c.put_inode.result (λ shows images blocks before.
    let put = subst (Shows c.put.new.self) (sym (c.in-Ok.ensures.image blocks))
    (c.in-Ok.ensures.shows (image_of blocks c.args.write_set.now) before) in
    subst (Shows c.put_inode.new.self) (sym (images blocks))
    (shows (image_of blocks c.mark_number.new.write_set) (c.in-Ok-mark_number.ensures.shows blocks put)))
    c.put_inode.ensures.shows c.put_inode.ensures.image

pub returns-in-Ok-mark_number-clause-link_written : goal.returns-in-Ok-mark_number-clause-link_written
returns-in-Ok-mark_number-clause-link_written c =
    let g = c.args.write_set.now.there.geometry in
    let n = c.args.number in
    let same = c.mark_number.ensures.geometry ∙ c.put.ensures.geometry in
    let block = ap (λ (k : BlockNo). k.0) c.whole.ensures.value.0 in
    both_ok c.put_inode.result (λ shows images blocks before.
    let old = image_of blocks c.args.write_set.now in
    let put = subst (Shows c.put.new.self) (sym (c.in-Ok.ensures.image blocks))
    (c.in-Ok.ensures.shows old before) in
    let marked = c.in-Ok-mark_number.ensures.shows blocks put in
    let middle = image_of blocks c.mark_number.new.write_set in
    let is : image_of blocks c.put.new.self ≡ with_bytes old c.args.block 0 c.args.bytes.items =
    c.in-Ok.ensures.image blocks
    ∙ (λ i. with_bytes old (block i) (c.whole.ensures.value.1 i) c.args.bytes.items) in
    record {
      middle = middle;
      marks = subst (λ image. MarksNumber g n true image middle) is
          (subst (λ (s : Geometry). MarksNumber s n true (image_of blocks c.put.new.self) middle)
          c.put.ensures.geometry (c.in-Ok-mark_number.ensures.marks blocks put));
      long = λ q low. marked.long q (subst (λ (s : Geometry). q < s.blocks) (sym same) low);
      is = images blocks ∙ ap (λ (s : Geometry). with_inode s middle n c.args.inode.now) same;
    })
    c.put_inode.ensures.shows c.put_inode.ensures.image
