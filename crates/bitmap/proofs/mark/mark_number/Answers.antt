use Rattle.std.proofs.Common.{ap, ◌∙◌, subst}
use Rattle.std.proofs.lemmas.Result.{on_ok_weaker}
use Rattle.layout.specs.Geometry.{inode_bitmap_at}
use Rattle.inode.specs.declared.snap.Snap.{Snap}
use Rattle.inode.specs.WriteSets.WriteSetContents.{image_of}
use Rattle.bitmap.specs.Bits.{PutsBit}
use Rattle.bitmap.proofs.MarkParts.{marks_number}
use Rattle.bitmap.proofs.mark.mark_number.Goals as goal

pub returns-clause-marks : goal.returns-clause-marks
returns-clause-marks c =
    on_ok_weaker c.mark.result (λ puts blocks shows.
    marks_number c.args.write_set.now.there.geometry (image_of blocks c.args.write_set.now)
    (image_of blocks c.mark.new.write_set) c.args.number c.args.is c.requires
    (subst (λ first. PutsBit first c.args.number c.args.is (image_of blocks c.args.write_set.now)
    (image_of blocks c.mark.new.write_set))
    (c.inode_bitmap-first.ensures ∙ ap (λ (s : Snap). inode_bitmap_at s.geometry.blocks) c.there.ensures.there)
    (puts blocks shows))) c.mark.ensures.puts
