use Rattle.std.proofs.lemmas.Result.{on_ok_weaker}
use Rattle.inode.specs.WriteSets.WriteSetContents.{image_of}
use Rattle.bitmap.proofs.MarkParts.{marks_block}
use Rattle.bitmap.proofs.mark.mark_block.Goals as goal

pub returns-clause-marks : goal.returns-clause-marks
returns-clause-marks c =
    on_ok_weaker c.mark.result (λ puts blocks shows.
    marks_block c.args.write_set.now.there.geometry (image_of blocks c.args.write_set.now)
    (image_of blocks c.mark.new.write_set) c.args.number c.args.is c.requires (puts blocks shows))
    c.mark.ensures.puts
