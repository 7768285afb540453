-- Each step so far did the call that it names, and so does the next.
use Rattle.std.proofs.Common.{◌≡◌, ◌⊎◌, inl, inr, sym, subst, ap, ℕ, zero, suc, ◌+◌, ◌≤◌, arith, Bool}
use Rattle.std.proofs.Common.{List, [], ◌∷◌, Option, Some, count_by, length, slice_get, take}
use Rattle.std.proofs.lemmas.List.Sums.{sum_by-cons}
use Rattle.std.proofs.lemmas.Option.{slice_get_within}
use Rattle.disk.specs.Device.{Device, current}
use Rattle.store_promise.specs.declared.events.Step.{Step}
use Rattle.store_promise.specs.DeviceCalls.{Contents, DoEachStep, DoesStepBy}
use Rattle.store_promise.specs.FailedCalls.{one_if}
use Rattle.store_promise.specs.Openings.{IsLater}
use Rattle.store_promise.specs.Schedule.{Schedule, RunState, state_before}
use Rattle.store_promise.specs.Transcript.{Transcript, calls_device, device_calls}
use Rattle.store_law.specs.Runs.Tracing.{Traced, state_now, with_traced}
use Rattle.store_law.proofs.RunsLemmas.Stops.{clock_is}
use Rattle.store_law.proofs.RunsLemmas.StateGrows.{calls_earlier, either, state_earlier}

-- an item is counted behind those before it
count_with : {X : Type 0} (test : X → Bool) (xs : List X) (index : ℕ) (x : X) → slice_get xs index ≡ Some x
    → count_by test (take index xs) + one_if (test x) ≤ count_by test xs
count_with test [] index x is = cc
count_with test (first ∷ xs) zero x is =
    let same : first ≡ x = cc in
    let all = sum_by-cons (λ y. one_if (test y)) first xs in
    let one = ap (λ y. one_if (test y)) same in
    omega (arith, all, one)
count_with test (first ∷ xs) (suc index) x is =
    let all = sum_by-cons (λ y. one_if (test y)) first xs in
    let some = sum_by-cons (λ y. one_if (test y)) first (take index xs) in
    let rest = count_with test xs index x is in
    omega (arith, all, some, rest)

module _ (events : Schedule) (t : Transcript) (traced : Traced) (start : ℕ) (old new : Device)
    (clock : old.clock ≡ start + count_by calls_device t.steps) (later : IsLater old new)
    (calls : new.clock ≡ old.clock + one_if (calls_device traced.made))
    (did : DoEachStep old.contents events start t.steps)
    (does : DoesStepBy (state_now events t).log traced.made (current old) (current new)) where
  -- the clock of the step of an index
  abbrev at : ℕ → ℕ
  at index = start + device_calls t index

  abbrev Does : RunState → Option Step → ℕ → Type 0
  Does run_state made from = DoesStepBy run_state.log made (new.contents from)
      (new.contents (from + one_if (calls_device made)))

  still : (from : ℕ) → from ≤ old.clock → new.contents from ≡ old.contents from
  still from early = λ i block. later.past from block early i

  in_more : (index : ℕ) (made : Option Step) → index ≤ length t.steps
      → Does (state_before events t.steps index) made (at index)
      → Does (state_before events (with_traced t traced).steps index) made
      (start + device_calls (with_traced t traced) index)
  in_more index made few is =
      subst (λ (run_state : RunState). Does run_state made (start + device_calls (with_traced t traced) index))
      (sym (state_earlier events t.steps traced.made index few))
      (subst (λ (n : ℕ). Does (state_before events t.steps index) made (start + n))
      (sym (calls_earlier t traced index few)) is)

  so_far : (index : ℕ) (made : Option Step) → slice_get t.steps index ≡ Some made
      → Does (state_before events t.steps index) made (at index)
  so_far index made is =
      let within = count_with calls_device t.steps index made is in
      let run_state = state_before events t.steps index in
      subst (λ (c : Contents). DoesStepBy run_state.log made c
      (new.contents (at index + one_if (calls_device made)))) (sym (still (at index) (omega (arith, within, clock))))
      (subst (λ (c : Contents). DoesStepBy run_state.log made (old.contents (at index)) c)
      (sym (still (at index + one_if (calls_device made)) (omega (arith, within, clock))))
      (did index made is))

  now : Does (state_now events t) traced.made (at (length t.steps))
  now =
      let all = clock_is t in
      let here : at (length t.steps) ≡ old.clock = omega (arith, all, clock) in
      subst (λ (n : ℕ). Does (state_now events t) traced.made n) (sym here)
      (subst (λ (c : Contents). DoesStepBy (state_now events t).log traced.made c
      (new.contents (old.clock + one_if (calls_device traced.made)))) (sym (still old.clock (omega arith)))
      (subst (λ (n : ℕ). DoesStepBy (state_now events t).log traced.made (current old) (new.contents n)) calls does))

  by_either : (index : ℕ) (made : Option Step)
      → (slice_get t.steps index ≡ Some made) ⊎ ((index ≡ length t.steps) × (Some traced.made ≡ Some made))
      → Does (state_before events (with_traced t traced).steps index) made
      (start + device_calls (with_traced t traced) index)
  by_either index made (inl is) =
      let less = slice_get_within t.steps index made is in
      in_more index made (omega (arith, less)) (so_far index made is)
  by_either index made (inr last) =
      let same : traced.made ≡ made = cc in
      let few : index ≤ length t.steps = let at = last.0 in omega (arith, at) in
      in_more index made few
      (subst (λ (n : ℕ). Does (state_before events t.steps n) made (at n)) (sym last.0)
      (subst (λ (m : Option Step). Does (state_now events t) m (at (length t.steps))) same now))

  pub did_on : DoEachStep new.contents events start (with_traced t traced).steps
  did_on index made is = by_either index made (either t.steps (Some traced.made) index made is)
