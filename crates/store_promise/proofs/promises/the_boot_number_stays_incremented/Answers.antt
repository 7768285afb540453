use Rattle.std.proofs.Common.{arith, subst}
use Rattle.store_promise.specs.GoodImage.{IsGoodImage}
use Rattle.store_promise.proofs.promises.the_boot_number_stays_incremented.Goals as goal

pub returns : goal.returns
returns c = λ before later tree first workers clock events t image from to crash behind none is_preserved.
    let found = (is_preserved.stops.each clock image from to crash).prefix in
    none found.left (subst (IsGoodImage later.size image found.left)
    (found.boot_is.boot_incremented (omega (arith, behind, is_preserved.calls.clock))) found.good)
