use Rattle.store_promise.proofs.promises.half_a_group_breaks_the_promise.Goals as goal

pub returns : goal.returns
returns c = λ before later tree first workers clock events t image from to crash none is_preserved.
    let found = (is_preserved.stops.each clock image from to crash).prefix in
    none found.count found.boot found.left found.prefix found.good
