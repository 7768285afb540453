-- What was told stays when an event more is told.
use Rattle.std.proofs.Common.{◌≡◌, ◌⊎◌, inl, inr, ℕ, zero, suc, ◌+◌, ◌<◌, ◌≤◌, ap, ◌∙◌, refl, arith, List, []}
use Rattle.std.proofs.Common.{◌∷◌}
use Rattle.std.proofs.Common.{◌++◌, length, slice_get, take, zip, count_by, Option, Some, None}
use Rattle.std.proofs.lemmas.List.{take-append-le}
use Rattle.std.proofs.lemmas.Option.{slice_get_within}
use Rattle.store_promise.specs.declared.events.Event.{Event}
use Rattle.store_promise.specs.declared.events.Step.{Step}
use Rattle.store_promise.specs.declared.transcript.Committed.{Committed}
use Rattle.store_promise.specs.Schedule.{Schedule, RunState, at_first, progress_before, state_after, state_along}
use Rattle.store_promise.specs.Schedule.{state_before}
use Rattle.store_promise.specs.Transcript.{Transcript, calls_device, committed_at, device_calls, made, step_at}
use Rattle.store_promise.proofs.RunStates.{Pairs, step_is, state_next_is}
use Rattle.store_law.specs.Runs.Tracing.{Traced, listed, with_traced}

-- ---- a list with more items

pub kept : {X : Type 0} (xs ys : List X) (index : ℕ) (y : X) → slice_get xs index ≡ Some y
    → slice_get (xs ++ ys) index ≡ Some y
kept [] ys index y is = cc
kept (x ∷ xs) ys zero y is = is
kept (x ∷ xs) ys (suc index) y is = kept xs ys index y is

pub last_is : {X : Type 0} (xs : List X) (x : X) → slice_get (xs ++ x ∷ []) (length xs) ≡ Some x
last_is [] x = refl
last_is (one ∷ xs) x = last_is xs x

pub one_longer : {X : Type 0} (xs : List X) (x : X) → length (xs ++ x ∷ []) ≡ suc (length xs)
one_longer [] x = refl
one_longer (one ∷ xs) x = ap suc (one_longer xs x)

-- an item is one that there was, or the one that was added
pub either : {X : Type 0} (xs : List X) (added : Option X) (index : ℕ) (y : X)
    → slice_get (xs ++ listed added) index ≡ Some y
    → (slice_get xs index ≡ Some y) ⊎ ((index ≡ length xs) × (added ≡ Some y))
either [] None index y is = inl is
either [] (Some x) zero y is = inr (refl, is)
either [] (Some x) (suc index) y is = inl is
either (one ∷ xs) added zero y is = inl is
either (one ∷ xs) added (suc index) y is = next (either xs added index y is)
  where
    next : (slice_get xs index ≡ Some y) ⊎ ((index ≡ length xs) × (added ≡ Some y))
        → (slice_get xs index ≡ Some y) ⊎ ((suc index ≡ suc (length xs)) × (added ≡ Some y))
    next (inl old) = inl old
    next (inr new) = inr (ap suc new.0, new.1)

-- ---- what is told before each event

pairs_earlier : (events : Schedule) (steps : List (Option Step)) (added : Option Step) (index : ℕ)
    → index ≤ length steps → take index (zip events (steps ++ added ∷ [])) ≡ take index (zip events steps)
pairs_earlier events steps added zero few = refl
pairs_earlier [] steps added (suc index) few = refl
pairs_earlier (one ∷ events) [] added (suc index) few = absurd (omega (arith, few))
pairs_earlier (one ∷ events) (step ∷ steps) added (suc index) few =
    ap (λ (pairs : Pairs). (one, step) ∷ pairs) (pairs_earlier events steps added index (omega (arith, few)))

module _ (events : Schedule) (steps : List (Option Step)) (added : Option Step) where
  pub state_earlier : (index : ℕ) → index ≤ length steps
      → state_before events (steps ++ added ∷ []) index ≡ state_before events steps index
  state_earlier index few =
      ap (λ (pairs : Pairs). state_along at_first pairs) (pairs_earlier events steps added index few)

  pub progress_earlier : (worker index : ℕ) → index ≤ length steps
      → progress_before events (steps ++ added ∷ []) worker index ≡ progress_before events steps worker index
  progress_earlier worker index few = ap (λ (run_state : RunState). run_state.workers worker) (state_earlier index few)

  module _ (event : Event) (is_event : slice_get events (length steps) ≡ Some event) where
    pub state_moves : state_before events (steps ++ added ∷ []) (suc (length steps))
        ≡ state_after (state_before events steps (length steps)) event added
    state_moves =
        state_next_is events (steps ++ added ∷ []) (length steps) event added is_event (last_is steps added)
        ∙ ap (λ (run_state : RunState). state_after run_state event added) (state_earlier (length steps) (omega arith))

    pub state_at_last : state_before events (steps ++ added ∷ []) (length (steps ++ added ∷ []))
        ≡ state_after (state_before events steps (length steps)) event added
    state_at_last = ap (state_before events (steps ++ added ∷ [])) (one_longer steps added) ∙ state_moves

-- ---- the transcript

pub step_within : (t : Transcript) (index : ℕ) (one : Step) → step_at t index ≡ Some one
    → index < length t.steps
step_within t index one is = slice_get_within t.steps index (Some one) (step_is t index one is)

module _ (t : Transcript) (traced : Traced) where
  pub calls_earlier : (index : ℕ) → index ≤ length t.steps
      → device_calls (with_traced t traced) index ≡ device_calls t index
  calls_earlier index few =
      ap (λ (steps : List (Option Step)). count_by calls_device steps)
      (take-append-le index t.steps (traced.made ∷ []) few)

  pub step_preserved : (index : ℕ) (one : Step) → step_at t index ≡ Some one
      → step_at (with_traced t traced) index ≡ Some one
  step_preserved index one is = ap made (kept t.steps (traced.made ∷ []) index (Some one) (step_is t index one is))

  pub step_now : step_at (with_traced t traced) (length t.steps) ≡ traced.made
  step_now = ap made (last_is t.steps traced.made)

  pub committed_preserved : (place : ℕ) (c : Committed) → committed_at t place ≡ Some c
      → committed_at (with_traced t traced) place ≡ Some c
  committed_preserved zero c is = cc
  committed_preserved (suc index) c is = kept t.history (listed traced.entry) index c is

-- the procedure that was added has the next place
pub committed_now : (t : Transcript) (traced : Traced) (c : Committed) → traced.entry ≡ Some c
    → committed_at (with_traced t traced) (length t.history + 1) ≡ Some c
committed_now t traced c is =
    let next : length t.history + 1 ≡ suc (length t.history) = omega arith in
    ap (committed_at (with_traced t traced)) next
    ∙ ap (λ (entry : Option Committed). slice_get (t.history ++ listed entry) (length t.history)) is
    ∙ last_is t.history c
