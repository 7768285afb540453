use Rattle.std.proofs.Common.{◌<◌, sym, ap, ◌∙◌, subst, false, replicate}
use Rattle.std.proofs.lemmas.Result.{on_ok_weaker}
use Rattle.base.specs.declared.TheConstants.{INODE_BYTES}
use Rattle.layout.specs.declared.geometry.Geometry.{Geometry}
use Rattle.layout.specs.Parts.{with_bytes}
use Rattle.layout.specs.Places.{inode_block, inode_offset}
use Rattle.bitmap.specs.Bits.{MarksNumber}
use Rattle.inode.specs.WriteSets.WriteSetContents.{Shows, image_of}
use Rattle.inode.proofs.WriteSetsLemmas.PutThere.{both_ok}
use Rattle.bitmap.proofs.InodesLemmas.Cleared.{cleared, on_disk}
use Rattle.bitmap.proofs.inodes.removal.unmark_all.Goals as goal

pub returns-in-Ok-mark_number-clause-shows : goal.returns-in-Ok-mark_number-clause-shows
returns-in-Ok-mark_number-clause-shows c =
    both_ok c.erase_inode.result (λ shows images blocks before.
    subst (Shows c.erase_inode.new.self) (sym (images blocks))
    (shows (image_of blocks c.mark_number.new.write_set)
    (c.in-Ok-mark_number.ensures.shows blocks (c.in-Ok.ensures.shows blocks before))))
    c.erase_inode.ensures.shows c.erase_inode.ensures.image

pub returns-in-Ok-mark_number-clause-clears : goal.returns-in-Ok-mark_number-clause-clears
returns-in-Ok-mark_number-clause-clears c =
    let g = c.args.write_set.now.there.geometry in
    let n = c.args.number in
    let same = c.mark_number.ensures.geometry ∙ c.free_all.ensures.geometry in
    on_ok_weaker c.erase_inode.result (λ images blocks before.
    let middle = c.in-Ok.ensures.shows blocks before in
    let after = c.in-Ok-mark_number.ensures.shows blocks middle in
    cleared g (image_of blocks c.args.write_set.now) (image_of blocks c.free_all.new.write_set)
    (image_of blocks c.mark_number.new.write_set) (image_of blocks c.erase_inode.new.self) n c.args.numbers.now
    c.requires (c.in-Ok.ensures.frees blocks before)
    (subst (λ (s : Geometry). MarksNumber s n false (image_of blocks c.free_all.new.write_set)
    (image_of blocks c.mark_number.new.write_set)) c.free_all.ensures.geometry
    (c.in-Ok-mark_number.ensures.marks blocks middle))
    (images blocks ∙ ap (λ (s : Geometry). with_bytes (image_of blocks c.mark_number.new.write_set) (inode_block s n)
    (inode_offset n) (replicate INODE_BYTES 0)) same)
    (after.long (inode_block g n)
    (subst (λ (s : Geometry). inode_block g n < s.blocks) (sym same) (on_disk g n c.requires))))
    c.erase_inode.ensures.image
