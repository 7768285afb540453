-- What was answered by a clock is in the prefix that a stop then leaves.
use Rattle.std.proofs.Common.{arith}
use Rattle.store_promise.specs.Headline.{by_answer}
use Rattle.store_promise.proofs.promises.what_is_stable_is_preserved.Goals as goal

pub returns : goal.returns
returns c = λ before later tree first workers clock place events t a image from to crash given by stable none
    is_preserved.
    let found = (is_preserved.stops.each clock image from to crash).prefix in
    none found.count found.boot found.left
    (found.lasts place (by_answer a given (omega (arith, by, is_preserved.calls.clock)) stable)) found.prefix found.good
