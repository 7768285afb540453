use Rattle.std.proofs.Common.{◌*◌, arith}
use Rattle.bitmap.proofs.Clears.{in_two, one_of}
use Rattle.bitmap.proofs.OfResults.{mapped}
use Rattle.bitmap.proofs.free_search.clear_among.Goals as goal

pub returns-in-Ok-Some-clause-ok : goal.returns-in-Ok-Some-clause-ok
returns-in-Ok-Some-clause-ok c = λ blocks saw.
    one_of blocks c.args.first c.args.count c.start_in-start.result (8 * c.args.count) c.in-Ok-Some.bit
    (omega arith) (rw c.in-Ok-Some.field-0-is at (c.in-Ok-Some.ensures.ok blocks saw))

pub returns-in-Ok-None-clause-ok : goal.returns-in-Ok-None-clause-ok
returns-in-Ok-None-clause-ok c = mapped _ _ (λ found is blocks saw.
    in_two blocks c.args.first c.args.count c.start_in-start.result c.start_in-start.ensures.within
    (rw c.in-Ok-None.field-0-is at (c.in-Ok-None.ensures.ok blocks saw)) found (is blocks saw))
    c.clear_between-in-Ok-None.result c.clear_between-in-Ok-None.ensures.ok
