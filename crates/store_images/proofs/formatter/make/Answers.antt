use Rattle.store_images.proofs.FormatStops.{behind_blank}
use Rattle.store_images.proofs.formatter.make.Goals as goal

pub returns-in_err-blank-clause-stops : goal.returns-in_err-blank-clause-stops
returns-in_err-blank-clause-stops g c = λ blocks.
    c.in_err-blank.ensures.stops c.args.image.now.geometry c.args.image.now.made

pub returns-in_err-fill-clause-stops : goal.returns-in_err-fill-clause-stops
returns-in_err-fill-clause-stops g c = λ blocks.
    behind_blank _ _ _ c.args.image.now.geometry c.args.image.now.made c.requires.blocks
    (c.in_ok-blank.ensures.stops c.args.image.now.geometry c.args.image.now.made) c.in_ok-blank.ensures.blank
    c.in_err-fill.ensures.first

pub returns-clause-stops : goal.returns-clause-stops
returns-clause-stops g c = λ blocks.
    c.name.ensures.stops _ blocks
    (behind_blank _ _ _ c.args.image.now.geometry c.args.image.now.made c.requires.blocks
    (c.in_ok-blank.ensures.stops c.args.image.now.geometry c.args.image.now.made) c.in_ok-blank.ensures.blank
    c.in_ok-fill.ensures.first)
