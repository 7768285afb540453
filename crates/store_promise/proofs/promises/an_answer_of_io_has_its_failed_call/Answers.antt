use Rattle.std.proofs.Common.{◌≡◌, ◌∙◌, ◌+◌, ap, refl, ℕ, arith, true, Option, Some, None, slice_get}
use Rattle.disk.specs.Device.{Device}
use Rattle.store_promise.specs.declared.events.Step.{Step}
use Rattle.store_promise.specs.FailedCalls.{TellEachFailure}
use Rattle.store_promise.specs.Transcript.{Transcript, device_calls, fails, made, step_at}
use Rattle.store_promise.proofs.AnswersOfIo.{calls_one, failed_before, of_history}
use Rattle.store_promise.proofs.FailedCalls.{failure_at}
use Rattle.store_promise.proofs.promises.an_answer_of_io_has_its_failed_call.Goals as goal

-- a step that is told to fail was one of the steps, and its own device call has failed
did_fail : (later : Device) (t : Transcript) (begun index : ℕ) → TellEachFailure later.failed begun t.steps
    → fails (step_at t index) ≡ true → later.failed (begun + device_calls t index) ≡ true
did_fail later t begun index step_failed so = by_cases (slice_get t.steps index) refl so
  where
    by_cases : (found : Option (Option Step)) → slice_get t.steps index ≡ found → fails (made found) ≡ true
        → later.failed (begun + device_calls t index) ≡ true
    by_cases None is fails_it = cc
    by_cases (Some m) is fails_it =
        failure_at later.failed begun t.steps index m step_failed is (calls_one m fails_it) ∙ fails_it

pub returns : goal.returns
returns c = λ before later tree first workers start index events t a reply given is io clock is_preserved.
    let failed = failed_before is_preserved.setting workers events t a reply is_preserved.replies.taken
    (is_preserved.replies.answers.each index a given)
    (of_history c.no_step_tells_a_failure.ensures tree is_preserved.replies.last t is_preserved.replies.leads) is io in
    let begins : start ≡ is_preserved.opened.clock = let calls = is_preserved.calls.clock in omega (arith, clock, calls) in record {
      index = failed.index;
      earlier = failed.earlier;
      step_failed = failed.step_failed;
      so = ap (λ (n : ℕ). later.failed (n + device_calls t failed.index)) begins
          ∙ did_fail later t is_preserved.opened.clock failed.index is_preserved.calls.failures_match failed.step_failed;
      whose = failed.whose;
    }
