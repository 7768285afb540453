-- Which steps the events of a run make, from the first on.
use Rattle.std.specs.Prelude.{◌≡◌, ℕ, ◌≤◌, List, Option, Some, None, length, slice_get}
use Rattle.store_promise.specs.declared.events.Event.{Event}
use Rattle.store_promise.specs.declared.events.Step.{Step}
use Rattle.store_promise.specs.Rules.{RunStep}
use Rattle.store_promise.specs.Schedule.{IsOfOne, Schedule, Setting, RunState, state_before, worker_of}

-- what the event of an index makes: the step that it makes by a rule, and none where it is of a worker that isn't
-- there
pub record IsTaken (o : Setting) (workers : ℕ) (run_state : RunState) (event : Event) (made : Option Step) : Type 0
  where
    pub own : IsOfOne workers (worker_of event) → RunStep o run_state event made
    pub others : (IsOfOne workers (worker_of event) → ⊥) → made ≡ None

-- Events are taken from the first on, of so many workers, each once, after an opening.
pub record AreTaken (o : Setting) (workers : ℕ) (events : Schedule) (steps : List (Option Step)) : Type 0
  where
    pub fewer : length steps ≤ length events
    pub each : (index : ℕ) (event : Event) (made : Option Step) → slice_get events index ≡ Some event
        → slice_get steps index ≡ Some made
        → IsTaken o workers (state_before events steps index) event made
