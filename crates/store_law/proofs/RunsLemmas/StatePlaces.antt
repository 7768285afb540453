-- The places that are told only rise, by one with each commit.
use Rattle.std.proofs.Common.{◌≡◌, ℕ, zero, suc, ◌+◌, ◌≤◌, ap, sym, ◌∙◌, refl, subst, arith, Bool, true}
use Rattle.std.proofs.Common.{false, if◌then◌else◌}
use Rattle.std.proofs.Common.{[], ◌∷◌, ◌++◌, append-nil, List, length, take, zip, nat_eq, nat_lt, Option}
use Rattle.std.proofs.Common.{Some, None}
use Rattle.std.proofs.lemmas.List.{take-take}
use Rattle.circ.specs.declared.log.calls.IoCall.TheVariants.{Write, Barrier}
use Rattle.disk.specs.declared.block.BlockNo.{BlockNo}
use Rattle.store_promise.specs.declared.events.Committing.TheVariants as committing
use Rattle.store_promise.specs.declared.events.Event.{Event}
use Rattle.store_promise.specs.declared.events.Step.{Step}
use Rattle.store_promise.specs.declared.events.Step.TheVariants as step
use Rattle.store_promise.specs.LogState.{CallState, LogState, idle, out, was_made, log_moved, with_inst_behind}
use Rattle.store_promise.specs.LogState.{with_inst_done, with_inst_given, with_log_done}
use Rattle.store_promise.specs.LogState.{with_log_given}
use Rattle.store_promise.specs.Schedule.{Schedule, RunState, at_first, state_after, state_along, state_before}
use Rattle.store_promise.specs.Transcript.{Transcript}
use Rattle.store_promise.specs.declared.transcript.Committed.{Committed}
use Rattle.store_promise.proofs.RunStates.{Pairs}
use Rattle.store_law.specs.Runs.Tracing.{IsEntryOf, commits, listed, state_now}
use Rattle.store_law.proofs.RunsLemmas.EntriesCommits.{commit_of}
use Rattle.store_law.proofs.RunsLemmas.StateGrows.{one_longer}

module _ (log : LogState) where
  if_same : (b : Bool) (one other : LogState) → one.places ≡ log.places → other.places ≡ log.places
      → (if b then one else other).places ≡ log.places
  if_same true one other is so = is
  if_same false one other is so = so

  log_done : (with_log_done log).places ≡ log.places
  log_done = if_same (nat_eq log.log_step (log.taken + 2)) _ _ refl refl

  inst_behind : (with_inst_behind log).places ≡ log.places
  inst_behind = if_same (nat_eq log.behind 2) _ _ refl refl

  inst_done : (call : CallState) → (with_inst_done log call).places ≡ log.places
  inst_done (was_made (Write block) ok) = if_same (nat_eq log.behind 0) _ _ refl inst_behind
  inst_done (was_made (Barrier store_state) ok) = inst_behind
  inst_done idle = refl
  inst_done (out call) = refl

  log_given : (ok : Bool) → (with_log_given log ok).places ≡ log.places
  log_given true = log_done
  log_given false = refl

  inst_given : (ok : Bool) → (with_inst_given log ok).places ≡ log.places
  inst_given true = inst_done log.inst_call
  inst_given false = refl

  -- another step leaves them
  pub places_stay : (made : Step) → commits (Some made) ≡ false → (log_moved log made).places ≡ log.places
  places_stay (step.Commit blocks (committing.Committed place)) never = cc
  places_stay (step.LogNext call) never = if_same (nat_lt 0 log.taken) _ _ refl refl
  places_stay (step.LogDone ok) never = log_given ok
  places_stay (step.InstNext call) never = if_same (nat_lt 0 log.installing) _ _ refl refl
  places_stay (step.InstDone ok) never = inst_given ok
  places_stay _ never = refl

  places_rise_by : (made : Step) → log.places ≤ (log_moved log made).places
  places_rise_by (step.Commit blocks (committing.Committed place)) = omega arith
  places_rise_by made = let same = places_stay made refl in omega (arith, same)

rises : (run_state : RunState) (e : Event) (made : Option Step) → run_state.log.places ≤ (state_after run_state e made).log.places
rises run_state e None = omega arith
rises run_state e (Some made) = places_rise_by run_state.log made

along_rises : (pairs : Pairs) (run_state : RunState) → run_state.log.places ≤ (state_along run_state pairs).log.places
along_rises [] run_state = omega arith
along_rises (one ∷ others) run_state =
    let first = rises run_state one.0 one.1 in
    let later = along_rises others (state_after run_state one.0 one.1) in
    omega (arith, first, later)

taken_rises : (pairs : Pairs) (index : ℕ) (run_state : RunState)
    → (state_along run_state (take index pairs)).log.places ≤ (state_along run_state pairs).log.places
taken_rises pairs zero run_state = along_rises pairs run_state
taken_rises [] (suc index) run_state = omega arith
taken_rises (one ∷ others) (suc index) run_state = taken_rises others index (state_after run_state one.0 one.1)

pub places_rise : (events : Schedule) (steps : List (Option Step)) (index : ℕ) → index ≤ length steps
    → (state_before events steps index).log.places ≤ (state_before events steps (length steps)).log.places
places_rise events steps index few =
    subst (λ (pairs : Pairs). (state_along at_first pairs).log.places
    ≤ (state_before events steps (length steps)).log.places)
    (take-take index (length steps) (zip events steps) few)
    (taken_rises (take (length steps) (zip events steps)) index at_first)

-- ---- the places are those of the history

-- a step that isn't a commit leaves them, and so does an event without a step
no_commit : (run_state : RunState) (e : Event) (made : Option Step) → commits made ≡ false
    → (state_after run_state e made).log.places ≡ run_state.log.places
no_commit run_state e None never = refl
no_commit run_state e (Some made) never = places_stay run_state.log made never

pub one_place : (run_state : RunState) (e : Event) (made : Option Step) (blocks : List BlockNo) (place : ℕ)
    → made ≡ Some (commit_of blocks place) → (state_after run_state e made).log.places ≡ run_state.log.places + 1
one_place run_state e made blocks place is = ap (λ (m : Option Step). (state_after run_state e m).log.places) is

pub places_on : (events : Schedule) (t : Transcript) (now : Event) (made : Option Step)
    (entry : Option Committed)
    → (state_now events t).log.places ≡ length t.history → IsEntryOf events t now made entry
    → (state_after (state_now events t) now made).log.places ≡ length (t.history ++ listed entry)
places_on events t now made None places never =
    no_commit (state_now events t) now made never ∙ places ∙ ap length (sym (append-nil t.history))
places_on events t now made (Some c) places is =
    let one = one_place (state_now events t) now made is.blocks (length t.history + 1) is.made_is in
    let long = one_longer t.history c in
    omega (arith, places, one, long)
