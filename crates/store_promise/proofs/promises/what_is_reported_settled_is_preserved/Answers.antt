-- What was told as settled by a clock is in the prefix that a stop then leaves.
use Rattle.std.proofs.Common.{arith}
use Rattle.store_promise.specs.Headline.{by_steps}
use Rattle.store_promise.proofs.promises.what_is_reported_settled_is_preserved.Goals as goal

pub returns : goal.returns
returns c = λ before later tree first workers clock place index events t image from to crash within by proven
    none is_preserved.
    let found = (is_preserved.stops.each clock image from to crash).prefix in
    none found.count found.boot found.left
    (found.lasts place (by_steps index within (omega (arith, by, is_preserved.calls.clock)) proven)) found.prefix found.good
