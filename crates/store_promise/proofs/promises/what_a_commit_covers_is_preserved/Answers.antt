use Rattle.std.proofs.Common.{arith}
use Rattle.store_promise.specs.Headline.{by_commit}
use Rattle.store_promise.proofs.promises.what_a_commit_covers_is_preserved.Goals as goal

pub returns : goal.returns
returns c = λ before later tree first workers clock place events t a image from to crash given by covered none
    is_preserved.
    let found = (is_preserved.stops.each clock image from to crash).prefix in
    none found.count found.boot found.left
    (found.lasts place (by_commit a given (omega (arith, by, is_preserved.calls.clock)) covered)) found.prefix found.good
