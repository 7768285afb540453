use Rattle.store_promise.proofs.promises.a_stop_leaves_an_image.Goals as goal

pub returns : goal.returns
returns c = λ before later tree first workers clock events t from to none is_preserved.
    let found = is_preserved.stops.some clock from to in
    none found.0 found.1
