use Rattle.std.proofs.Common.{Err}
use Rattle.store_images.proofs.FormatStops.{named, named_or_not}
use Rattle.store_images.proofs.formatter.name.Goals as goal

pub returns-in_err-write_one-clause-stops : goal.returns-in_err-write_one-clause-stops
returns-in_err-write_one-clause-stops g c = λ before blocks so.
    named_or_not before _ _ _ _ c.requires.blocks c.requires.blank c.requires.made so
    (Err c.in_err-write_one.field-0.0) c.in_err-write_one.ensures.written blocks

pub returns-clause-stops : goal.returns-clause-stops
returns-clause-stops g c = λ before blocks so.
    named before _ _ _ _ c.requires.blocks c.requires.blank c.requires.made so _ c.barrier.result
    c.in_ok-write_one.ensures.written c.barrier.ensures.call blocks
