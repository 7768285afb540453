use Rattle.std.proofs.Common.{arith}
use Rattle.store_promise.proofs.refusals.a_good_image_is_refused_for_a_cause.Goals as goal

pub returns-clause-shown : goal.returns-clause-shown
returns-clause-shown c = λ before later tree first.
    (λ refused. refused.because, λ refused. refused.because, λ refused. refused.because)

pub returns-clause-device : goal.returns-clause-device
returns-clause-device c = λ before later tree first same refused.
    let because = refused.because in omega (arith, because, same)

pub returns-clause-range : goal.returns-clause-range
returns-clause-range c = λ before later tree first left refused.
    let because = refused.because.0 in omega (arith, because, left)

pub returns-clause-memory : goal.returns-clause-memory
returns-clause-memory c = λ before later tree first more refused.
    let because = refused.because in omega (arith, because, more)
