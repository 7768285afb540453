use Rattle.std.proofs.Common.{sym, subst, Some}
use Rattle.inode.specs.declared.snap.Snap.{Snap}
use Rattle.inode.specs.Read.{Saw}
use Rattle.inode.specs.WriteSets.WriteSetContents.{image_of}
use Rattle.bitmap.specs.NewBlock.{HasTaken, IsNewBlock, TakesNext}
use Rattle.bitmap.proofs.NewBlocks.{taken_more}
use Rattle.bitmap.proofs.OfResults.{marked_one}
use Rattle.bitmap.proofs.allocation.take_block.Goals as goal

pub returns-in-Ok-Some-clause-ok : goal.returns-in-Ok-Some-clause-ok
returns-in-Ok-Some-clause-ok c =
    marked_one c.mark_claimed.result (λ found is marks blocks base tree taken shows has.
    let g = c.args.write_set.now.there.geometry in
    let image = image_of blocks c.args.write_set.now in
    let new : IsNewBlock g base tree taken (Some c.in-Ok-Some.number) =
    rw c.in-Ok-Some.field-0-is at (subst (λ (s : Snap). IsNewBlock s.geometry base tree taken c.in-Ok-Some.field-0)
    c.there.ensures.there
    (c.in-Ok-Some.ensures.ok image base tree taken
    (subst (Saw image) (sym c.there.ensures.there) shows.saw)
    (subst (λ (s : Snap). HasTaken s.geometry base tree taken image) (sym c.there.ensures.there) has))) in
    subst (TakesNext g base tree taken (image_of blocks c.mark_claimed.new.write_set)) (sym is)
    (taken_more g base tree taken image has c.in-Ok-Some.number (image_of blocks c.mark_claimed.new.write_set) new
    (marks blocks shows))) c.mark_claimed.ensures.is c.mark_claimed.ensures.marks

pub returns-in-Ok-None-clause-ok : goal.returns-in-Ok-None-clause-ok
returns-in-Ok-None-clause-ok c = λ blocks base tree taken shows has.
    let image = image_of blocks c.args.write_set.now in
    rw c.in-Ok-None.field-0-is at
    (c.in-Ok-None.ensures.ok image base tree taken
    (subst (Saw image) (sym c.there.ensures.there) shows.saw)
    (subst (λ (s : Snap). HasTaken s.geometry base tree taken image) (sym c.there.ensures.there) has))

pub returns-in-Err-clause-resumable : goal.returns-in-Err-clause-resumable
returns-in-Err-clause-resumable c = λ blocks base tree taken shows has.
    let image = image_of blocks c.args.write_set.now in
    c.in-Err.ensures.resumable image base tree taken
    (subst (Saw image) (sym c.there.ensures.there) shows.saw)
    (subst (λ (s : Snap). HasTaken s.geometry base tree taken image) (sym c.there.ensures.there) has)
