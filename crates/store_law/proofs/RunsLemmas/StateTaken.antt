-- Each event so far was taken, and so is the next.
use Rattle.std.proofs.Common.{◌≡◌, ◌⊎◌, inl, inr, ℕ, ◌≤◌, ap, sym, ◌∙◌, subst, arith, length, slice_get, Option}
use Rattle.std.proofs.Common.{Some}
use Rattle.std.proofs.lemmas.Option.{slice_get_within}
use Rattle.disk.specs.Crash.{Image}
use Rattle.store_promise.specs.declared.events.Event.{Event}
use Rattle.store_promise.specs.declared.events.Step.{Step}
use Rattle.store_promise.specs.Schedule.{Schedule, Setting, RunState, state_before}
use Rattle.store_promise.specs.EventSteps.{AreTaken, IsTaken}
use Rattle.store_promise.specs.Transcript.{Transcript}
use Rattle.store_law.specs.Runs.Tracing.{Traced, state_now, with_traced}
use Rattle.store_law.proofs.RunsLemmas.StateGrows.{either, one_longer, state_earlier}
use Rattle.store_law.proofs.RunsLemmas.StatePlaces.{places_rise}

-- what was made stays what may be made, in a setting with other blocks for later procedures
abbrev pub MadeStays : Type 0
MadeStays = (o : Setting) (workers : ℕ) (run_state : RunState) (event : Event) (made : Option Step) (later : ℕ → Image)
    → later run_state.log.places ≡ o.blocks run_state.log.places → IsTaken o workers run_state event made
    → IsTaken (record o { blocks = later }) workers run_state event made

module _ (o later : Setting) (workers : ℕ) (events : Schedule) (t : Transcript) (now : Event) (traced : Traced)
    (stays : MadeStays) (is_event : slice_get events (length t.steps) ≡ Some now)
    (places : (state_now events t).log.places ≡ length t.history)
    (same : later ≡ record o { blocks = later.blocks })
    (blocks : (place : ℕ) → place ≤ length t.history → later.blocks place ≡ o.blocks place)
    (taken : AreTaken o workers events t.steps)
    (is_taken : IsTaken o workers (state_now events t) now traced.made) where
  in_later : (index : ℕ) (e : Event) (m : Option Step) → index ≤ length t.steps
      → IsTaken o workers (state_before events t.steps index) e m
      → IsTaken later workers (state_before events (with_traced t traced).steps index) e m
  in_later index e m few is =
      let before = state_before events t.steps index in
      let risen = places_rise events t.steps index few in
      let early : before.log.places ≤ length t.history = omega (arith, risen, places) in
      subst (λ (run_state : RunState). IsTaken later workers run_state e m)
      (sym (state_earlier events t.steps traced.made index few))
      (subst (λ (s : Setting). IsTaken s workers before e m) (sym same)
      (stays o workers before e m later.blocks (blocks before.log.places early) is))

  at_last : (index : ℕ) (e : Event) (m : Option Step) → slice_get events index ≡ Some e
      → index ≡ length t.steps → Some traced.made ≡ Some m
      → IsTaken o workers (state_before events t.steps index) e m
  at_last index e m is_e at made =
      let found : Some now ≡ Some e = sym is_event ∙ ap (slice_get events) (sym at) ∙ is_e in
      let events_same : now ≡ e = cc in
      let made_same : traced.made ≡ m = cc in
      subst (λ (n : ℕ). IsTaken o workers (state_before events t.steps n) e m) (sym at)
      (subst (λ (one : Event). IsTaken o workers (state_now events t) one m) events_same
      (subst (λ (one : Option Step). IsTaken o workers (state_now events t) now one) made_same is_taken))

  each : (index : ℕ) (e : Event) (m : Option Step) → slice_get events index ≡ Some e
      → (slice_get t.steps index ≡ Some m) ⊎ ((index ≡ length t.steps) × (Some traced.made ≡ Some m))
      → IsTaken later workers (state_before events (with_traced t traced).steps index) e m
  each index e m is_e (inl old) =
      let less = slice_get_within t.steps index m old in
      in_later index e m (omega (arith, less)) (taken.each index e m is_e old)
  each index e m is_e (inr new) =
      let at = new.0 in
      in_later index e m (omega (arith, at)) (at_last index e m is_e new.0 new.1)

  pub taken_on : AreTaken later workers events (with_traced t traced).steps
  taken_on = record {
    fewer = let less = slice_get_within events (length t.steps) now is_event in
        let long = one_longer t.steps traced.made in omega (arith, less, long);
    each = λ index e m is_e is_m. each index e m is_e (either t.steps (Some traced.made) index m is_m);
  }
