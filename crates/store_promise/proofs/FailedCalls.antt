-- What steps tell of the device calls that failed, step by step.
use Rattle.std.proofs.Common.{arith, ◌≡◌, ◌∙◌, refl, sym, subst, ap, ℕ, ◌+◌, ◌-◌, ◌<◌, ◌≤◌, Bool, true, false}
use Rattle.std.proofs.Common.{List, [], ◌∷◌, ◌++◌}
use Rattle.std.proofs.Common.{Option, Some, count_by, Result, Ok, Err, is_err, zero, suc, slice_get, take}
use Rattle.std.proofs.lemmas.List.Sums.{sum_by-cons}
use Rattle.disk.specs.Device.{Device, OneLater}
use Rattle.disk.specs.Failures.{failures_from}
use Rattle.disk.specs.declared.device.Failed.{Failed}
use Rattle.disk.proofs.Failures.{none_failed}
use Rattle.store_promise.specs.declared.events.Step.{Step}
use Rattle.store_promise.specs.FailedCalls.{one_if, TellEachFailure, TellsFailure}
use Rattle.store_promise.specs.Openings.{IsLater}
use Rattle.store_promise.specs.Transcript.{calls_device, fails}

calls_more : (made : Option Step) (steps : List (Option Step))
    → count_by calls_device (made ∷ steps) ≡ one_if (calls_device made) + count_by calls_device steps
calls_more made steps = sum_by-cons (λ step. one_if (calls_device step)) made steps

one_call : (made : Option Step) → calls_device made ≡ true → one_if (calls_device made) ≡ 1
one_call made is = ap one_if is

-- the call between is told as it was answered
was_answered : (failed : Bool) (old new : ℕ) → new ≡ old + one_if failed → (answer : Result Unit Failed)
    → new ≡ old + one_if (is_err answer) → failed ≡ is_err answer
was_answered true old new is (Ok u) so = absurd (omega (arith, is, so))
was_answered true old new is (Err u) so = refl
was_answered false old new is (Ok u) so = refl
was_answered false old new is (Err u) so = absurd (omega (arith, is, so))

-- a step whose call came between these devices tells of it
pub tells_of_its_call : (old new : Device) (made : Option Step) (answer : Result Unit Failed)
    → fails made ≡ is_err answer → OneLater old new → new.failures ≡ old.failures + one_if (is_err answer)
    → TellsFailure new.failed old.clock made
tells_of_its_call old new made answer failures_match later counts calls =
    was_answered (new.failed old.clock) old.failures new.failures later.counted answer counts ∙ sym failures_match

-- what was told stays so where the same calls failed,
pub failures_still_match : (one other : ℕ → Bool) (call : ℕ) (steps : List (Option Step))
    → ((number : ℕ) → number < call + count_by calls_device steps → other number ≡ one number)
    → TellEachFailure one call steps → TellEachFailure other call steps
failures_still_match one other call [] same failures_match = tt
failures_still_match one other call (made ∷ steps) same failures_match =
    let more = calls_more made steps in (
      (λ calls. let is = one_call made calls in same call (omega (arith, more, is)) ∙ failures_match.0 calls),
      failures_still_match one other (call + one_if (calls_device made)) steps
          (λ number below. same number (omega (arith, below, more))) failures_match.1,
    )

-- and with one step more
pub one_more_failure : (failed : ℕ → Bool) (call : ℕ) (steps : List (Option Step)) (made : Option Step)
    → TellEachFailure failed call steps → TellsFailure failed (call + count_by calls_device steps) made
    → TellEachFailure failed call (steps ++ made ∷ [])
one_more_failure failed call [] made failures_match last =
    let at : call + 0 ≡ call = omega arith in (subst (λ (n : ℕ). TellsFailure failed n made) at last, tt)
one_more_failure failed call (first ∷ steps) made failures_match last =
    let more = calls_more first steps in
    let at : call + count_by calls_device (first ∷ steps)
    ≡ call + one_if (calls_device first) + count_by calls_device steps = omega (arith, more) in (
      failures_match.0,
      one_more_failure failed (call + one_if (calls_device first)) steps made failures_match.1
          (subst (λ (n : ℕ). TellsFailure failed n made) at last),
    )

-- each step among them tells of its own call
pub failure_of_its_own : (failed : ℕ → Bool) (call : ℕ) (earlier later : List (Option Step)) (made : Option Step)
    → TellEachFailure failed call (earlier ++ made ∷ later)
    → TellsFailure failed (call + count_by calls_device earlier) made
failure_of_its_own failed call [] later made failures_match =
    let at : call ≡ call + 0 = omega arith in subst (λ (n : ℕ). TellsFailure failed n made) at failures_match.0
failure_of_its_own failed call (first ∷ earlier) later made failures_match =
    let more = calls_more first earlier in
    let at : call + one_if (calls_device first) + count_by calls_device earlier
    ≡ call + count_by calls_device (first ∷ earlier) = omega (arith, more) in
    subst (λ (n : ℕ). TellsFailure failed n made) at
    (failure_of_its_own failed (call + one_if (calls_device first)) earlier later made failures_match.1)

no_more : (test : Option Step → Bool) (made : Option Step) (steps : List (Option Step))
    → count_by test (made ∷ steps) ≡ 0 → (test made ≡ false) × (count_by test steps ≡ 0)
no_more test made steps none =
    let more : count_by test (made ∷ steps) ≡ one_if (test made) + count_by test steps =
    sum_by-cons (λ step. one_if (test step)) made steps in (
      not_one (test made) (omega (arith, none, more)),
      omega (arith, none, more),
    )
  where
    not_one : (is : Bool) → one_if is ≡ 0 → is ≡ false
    not_one true h = absurd (omega (arith, h))
    not_one false h = refl

-- steps tell of no failure just where there was none
none_failed_matches : (failed : ℕ → Bool) (call : ℕ) (steps : List (Option Step))
    → ((number : ℕ) → call ≤ number → number < call + count_by calls_device steps → failed number ≡ false)
    → count_by fails steps ≡ 0 → TellEachFailure failed call steps
none_failed_matches failed call [] well none = tt
none_failed_matches failed call (made ∷ steps) well none =
    let more = calls_more made steps in
    let no = no_more fails made steps none in (
      (λ calls. let is = one_call made calls in
          well call (omega arith) (omega (arith, more, is)) ∙ sym no.0),
      none_failed_matches failed (call + one_if (calls_device made)) steps
          (λ number from below. well number (omega (arith, from)) (omega (arith, below, more))) no.1,
    )

-- so it is where the device has counted none
pub no_failure_is_missed : (before later : Device) (steps : List (Option Step)) → IsLater before later
    → later.failures ≡ before.failures → later.clock ≡ before.clock + count_by calls_device steps
    → count_by fails steps ≡ 0 → TellEachFailure later.failed before.clock steps
no_failure_is_missed before later steps past same clock none =
    let counted = past.counted in
    let count : later.clock - before.clock ≡ count_by calls_device steps = omega (arith, clock) in
    let sum : failures_from later.failed before.clock (later.clock - before.clock) ≡ 0 =
    omega (arith, counted, same) in
    let well : (number : ℕ) → before.clock ≤ number → number < before.clock + (later.clock - before.clock)
    → later.failed number ≡ false =
    none_failed later.failed before.clock (later.clock - before.clock) sum in
    none_failed_matches later.failed before.clock steps
    (λ number from below. well number from (omega (arith, below, count))) none

-- the step of an index tells of the call that comes after those of the steps before it
pub failure_at : (failed : ℕ → Bool) (call : ℕ) (steps : List (Option Step)) (index : ℕ) (made : Option Step)
    → TellEachFailure failed call steps → slice_get steps index ≡ Some made → calls_device made ≡ true
    → failed (call + count_by calls_device (take index steps)) ≡ fails made
failure_at failed call [] index made failures_match is calls = cc
failure_at failed call (first ∷ steps) zero made failures_match is calls =
    let same : first ≡ made = cc in
    let at : call ≡ call + 0 = omega arith in
    subst (λ (n : ℕ). failed n ≡ fails made) at
    (subst (λ m. TellsFailure failed call m) same failures_match.0 calls)
failure_at failed call (first ∷ steps) (suc index) made failures_match is calls =
    let more = calls_more first (take index steps) in
    let at : call + one_if (calls_device first) + count_by calls_device (take index steps)
    ≡ call + count_by calls_device (first ∷ take index steps) = omega (arith, more) in
    subst (λ (n : ℕ). failed n ≡ fails made) at
    (failure_at failed (call + one_if (calls_device first)) steps index made failures_match.1 is calls)
