use Rattle.std.proofs.Common.{◌≡◌, ◌+◌, arith, refl, sym, subst, ap, ◌∙◌, ℕ, Bool, false, List, [], ◌∷◌, ◌++◌}
use Rattle.std.proofs.Common.{Option, Some, None, Result, Ok, Err, is_err, count_by}
use Rattle.std.proofs.lemmas.Bool.{false≢true}
use Rattle.std.proofs.lemmas.List.Sums.{sum_by_push}
use Rattle.disk.specs.Device.{CountsFailure, Device}
use Rattle.disk.specs.declared.device.Failed.{Failed}
use Rattle.store_promise.specs.declared.events.Step.{Step}
use Rattle.store_promise.specs.declared.events.Step.TheVariants as step
use Rattle.store_promise.specs.FailedCalls.{one_if, TellsFailure}
use Rattle.store_promise.specs.Transcript.{calls_device, fails}
use Rattle.store_promise.proofs.FailedCalls.{failures_still_match, tells_of_its_call, one_more_failure}
use Rattle.store_promise.proofs.Later.{past_more, past_none, past_one}
use Rattle.store_promise.proofs.run_laws.a_device_counts_the_calls_of_its_steps.Goals as goal

count_more : {X : Type 0} (test : X → Bool) (xs : List X) (x : X)
    → count_by test (xs ++ x ∷ []) ≡ count_by test xs + one_if (test x)
count_more test xs x = sum_by_push (λ y. one_if (test y)) xs x

-- a step that makes no call has none that fails
no_failure : (made : Option Step) → calls_device made ≡ false → fails made ≡ false
no_failure None none = refl
no_failure (Some (step.Read block ok)) none = absurd (cc)
no_failure (Some (step.LogIo ok)) none = absurd (cc)
no_failure (Some (step.InstIo ok)) none = absurd (cc)
no_failure (Some step.Called) none = refl
no_failure (Some step.Replied) none = refl
no_failure (Some (step.Begun number)) none = refl
no_failure (Some (step.Wanted addr mode answer)) none = refl
no_failure (Some (step.Claimed block answer)) none = refl
no_failure (Some (step.Fetched block)) none = refl
no_failure (Some (step.FetchFailed block)) none = refl
no_failure (Some (step.Commit blocks answer)) none = refl
no_failure (Some (step.Ended why)) none = refl
no_failure (Some (step.Stable seq settled)) none = refl
no_failure (Some (step.LogNext call)) none = refl
no_failure (Some (step.LogDone ok)) none = refl
no_failure (Some (step.InstNext call)) none = refl
no_failure (Some (step.InstDone ok)) none = refl

counted : (old new : Device) (answer : Result Unit Failed) → CountsFailure old new answer
    → new.failures ≡ old.failures + one_if (is_err answer)
counted old new (Ok done) counts = let same = counts in omega (arith, same)
counted old new (Err failed) counts = counts

pub returns-clause-first : goal.returns-clause-first
returns-clause-first c = λ d. record {
  past = past_none d;
  calls = omega arith;
  failures = omega arith;
  failures_match = tt;
}

pub returns-clause-none : goal.returns-clause-none
returns-clause-none c = λ d made none. record {
  past = past_none d;
  calls = let is = ap one_if none in omega (arith, is);
  failures = let is = ap one_if (no_failure made none) in omega (arith, is);
  failures_match = λ calls. absurd (false≢true (sym none ∙ calls));
}

pub returns-clause-call : goal.returns-clause-call
returns-clause-call c = λ old new made answer calls failed later counts. record {
  past = past_one old new later;
  calls = (let is = ap one_if calls in let clock = later.clock in omega (arith, is, clock));
  failures = (let is = ap one_if failed in let count = counted old new answer counts in
      omega (arith, is, count));
  failures_match = tells_of_its_call old new made answer failed later (counted old new answer counts);
}

pub returns-clause-step : goal.returns-clause-step
returns-clause-step c = λ opened old new steps made along moved. record {
  past = past_more opened old new along.past moved.past;
  calls = (let so_far = along.calls in let more = moved.calls in
      let count = count_more calls_device steps made in
      omega (arith, so_far, more, count));
  failures = (let so_far = along.failures in let more = moved.failures in
      let count = count_more fails steps made in
      omega (arith, so_far, more, count));
  failures_match = one_more_failure new.failed opened.clock steps made
      (failures_still_match old.failed new.failed opened.clock steps
      (λ number below. moved.past.failed number
      (let calls = along.calls in omega (arith, below, calls))) along.failures_match)
      (subst (λ (n : ℕ). TellsFailure new.failed n made) along.calls moved.failures_match);
}
