-- While something is left to be taken again the plan was told nothing.
use Rattle.std.proofs.Common.{◌≡◌, ◌∙◌, ◌⊎◌, inl, inr, ℕ, List, [], ◌∷◌, true, false, ap, refl, subst, sym}
use Rattle.objects.specs.declared.addr.Addr.{Addr}
use Rattle.objects.specs.declared.mode.Mode.{Mode}
use Rattle.store_promise.specs.declared.lock_requests.LockRequest.{LockRequest}
use Rattle.store_promise.specs.declared.events.Step.TheVariants as step
use Rattle.store_promise.specs.declared.events.LockAnswer.{LockAnswer}
use Rattle.store_promise.specs.Progress.{Begun, Taken}
use Rattle.store_promise.specs.Schedule.{IsStepRetakingFirst, Setting, RunState, is_held, state_before}
use Rattle.store_promise.specs.Waiting.{AreTakenBy, HasTakenWell}
use Rattle.store_promise.proofs.KnownLockRequests.{taken_well}
use Rattle.store_promise.proofs.RunStates.{planned_step}
use Rattle.store_promise.proofs.steps_made.nothing_is_asked_for_twice.Goals as goal

unheld : (o : Setting) (run_state : RunState) (worker : ℕ) (begun : Begun) (left : List LockRequest) → begun.left ≡ left
    → (addr : Addr) (mode : Mode) (answer : LockAnswer)
    → IsStepRetakingFirst left o run_state worker begun (step.Wanted addr mode answer) → AreTakenBy o.geometry begun
    → is_held addr mode begun.held ≡ false
unheld o run_state worker begun [] none addr mode answer is are = is.0.unheld
unheld o run_state worker begun (next ∷ later) some addr mode answer is are = by are.first
  where
    by : (begun.left ≡ []) ⊎ ((begun.held ≡ []) × (begun.claimed ≡ [])) → is_held addr mode begun.held ≡ false
    by (inl none) = let never : next ∷ later ≡ [] = sym some ∙ none in cc
    by (inr both) = ap (λ (held : List Taken). is_held addr mode held) both.0

never : true ≡ false → ⊥
never same = cc

pub returns : goal.returns
returns c =
    λ before later tree first workers index worker events t job begun addr mode answer is_event less is_step
    planning held is_preserved.
    let step = planned_step is_preserved.setting workers events t.steps is_preserved.replies.taken index worker job begun
    _ is_event less
    is_step planning in
    never (sym held ∙ unheld is_preserved.setting (state_before events t.steps index) worker begun begun.left refl addr mode
    answer step (subst (HasTakenWell is_preserved.setting.geometry) planning
    (taken_well is_preserved.setting workers events t.steps is_preserved.replies.taken index worker)))
