-- What the promise says of the steps, said of one of them.
use Rattle.std.proofs.Common.{◌≡◌, ◌∙◌, ◌+◌, arith, ap, subst, ℕ, List, Option, count_by}
use Rattle.store_promise.specs.declared.events.Step.{Step}
use Rattle.store_promise.specs.FailedCalls.{TellEachFailure}
use Rattle.store_promise.specs.Transcript.{calls_device}
use Rattle.store_promise.proofs.FailedCalls.{failure_of_its_own}
use Rattle.store_promise.proofs.promises.a_failure_is_reported_of_its_own_call.Goals as goal

pub returns : goal.returns
returns c = λ before later tree first workers start events t earlier rest made steps calls clock other is_preserved.
    let failures_match = subst (λ (all : List (Option Step)). TellEachFailure later.failed is_preserved.opened.clock all) steps
    is_preserved.calls.failures_match in
    let count : ℕ = count_by calls_device earlier in
    let at : start + count ≡ is_preserved.opened.clock + count = omega (arith, clock, is_preserved.calls.clock) in
    other (ap later.failed at ∙ failure_of_its_own later.failed is_preserved.opened.clock earlier rest made failures_match calls)
