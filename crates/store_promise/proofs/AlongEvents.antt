-- Lemma: what each event keeps holds of what is told along a run.
use Rattle.std.proofs.Common.{◌≡◌, ℕ, zero, suc, refl, sym, subst, Option, Some, None, List, take, slice_get}
use Rattle.std.specs.List.{zip}
use Rattle.store_promise.specs.declared.events.Event.{Event}
use Rattle.store_promise.specs.declared.events.Step.{Step}
use Rattle.store_promise.specs.Schedule.{Schedule, Setting, RunState, at_first, state_after}
use Rattle.store_promise.specs.EventSteps.{AreTaken, IsTaken}
use Rattle.store_promise.specs.Schedule.{state_along, state_before}
use Rattle.store_promise.proofs.RunStates.{no_event, no_step, state_next_is}

module _ (o : Setting) (workers : ℕ) (events : Schedule) (steps : List (Option Step))
    (taken : AreTaken o workers events steps) (P : RunState → Type 0) (first : P at_first)
    (preserves : (run_state : RunState) (e : Event) (m : Option Step) → IsTaken o workers run_state e m → P run_state
    → P (state_after run_state e m)) where
  same_state_between : (index : ℕ) → take (suc index) (zip events steps) ≡ take index (zip events steps)
      → P (state_before events steps index) → P (state_before events steps (suc index))
  same_state_between index is was = subst (λ pairs. P (state_along at_first pairs)) (sym is) was

  by_step : (index : ℕ) (e : Event) → slice_get events index ≡ Some e → (m : Option (Option Step))
      → slice_get steps index ≡ m → P (state_before events steps index)
      → P (state_before events steps (suc index))
  by_step index e is_event None is_step was = same_state_between index (no_step events steps index is_step) was
  by_step index e is_event (Some m) is_step was =
      subst P (sym (state_next_is events steps index e m is_event is_step))
      (preserves (state_before events steps index) e m (taken.each index e m is_event is_step) was)

  by_event : (index : ℕ) (e : Option Event) → slice_get events index ≡ e
      → P (state_before events steps index) → P (state_before events steps (suc index))
  by_event index None is_event was = same_state_between index (no_event events steps index is_event) was
  by_event index (Some e) is_event was = by_step index e is_event (slice_get steps index) refl was

  -- so it holds before each event
  pub along : (index : ℕ) → P (state_before events steps index)
  along zero = first
  along (suc index) = by_event index (slice_get events index) refl (along index)
