use Rattle.std.proofs.Common.{◌≡◌, ◌∙◌, ◌⊎◌, inl, inr, ◌+◌, ℕ, Bool, true, List, Option, Some, slice_get}
use Rattle.std.proofs.Common.{ap, if◌then◌else◌, subst}
use Rattle.objects.specs.declared.addr.Addr.{Addr}
use Rattle.objects.specs.declared.mode.Mode.{Mode}
use Rattle.store_promise.specs.declared.lock_requests.LockRequest.{LockRequest}
use Rattle.store_promise.specs.declared.lock_requests.LockRequest.TheVariants as lock_request
use Rattle.store_promise.specs.declared.events.Event.TheVariants as event
use Rattle.store_promise.specs.declared.events.Step.{Step}
use Rattle.store_promise.specs.declared.events.Step.TheVariants as step
use Rattle.store_promise.specs.declared.events.LockAnswer.{LockAnswer}
use Rattle.store_promise.specs.declared.events.LockAnswer.TheVariants as lock_answer
use Rattle.store_promise.specs.LockRequests.{is_barred}
use Rattle.store_promise.specs.Progress.{Again, At, Begun, Planning, Progress, Stage, after_wanted, deferred}
use Rattle.store_promise.specs.Progress.{progressed}
use Rattle.store_promise.specs.Schedule.{IsStepOfWork, Schedule, state_before, progress_before}
use Rattle.store_promise.proofs.StableAnswers.{one_more}
use Rattle.store_promise.proofs.RunStates.{own_next}
use Rattle.store_promise.proofs.RulesAre.{own_step}
use Rattle.store_promise.proofs.steps_made.who_has_taken_more_above_does_not_wait.Goals as goal

-- how far a worker is after its step, where it was so far before
next_is : (events : Schedule) (steps : List (Option Step)) (index worker : ℕ) (one : Step) (so_far : Progress)
    → slice_get events index ≡ Some (event.Work worker) → slice_get steps index ≡ Some (Some one)
    → progress_before events steps worker index ≡ so_far
    → progress_before events steps worker (index + 1)
    ≡ progressed (state_before events steps index).log.broken one so_far
next_is events steps index worker one so_far is_event is_step is =
    ap (λ n. progress_before events steps worker n) (one_more index)
    ∙ own_next events steps index worker one is_event is_step
    ∙ ap (progressed (state_before events steps index).log.broken one) is

module _ (begun : Begun) (addr : Addr) (mode : Mode) where
  abbrev request : LockRequest
  request = lock_request.Object addr mode

  off : (answer : LockAnswer) → (answer ≡ lock_answer.Busy) ⊎ (answer ≡ lock_answer.Loading)
      → after_wanted begun (record { addr = addr; mode = mode }) answer ≡ deferred begun request
  off answer (inl busy) = ap (after_wanted begun (record { addr = addr; mode = mode })) busy
  off answer (inr loading) = ap (after_wanted begun (record { addr = addr; mode = mode })) loading

  ends : is_barred request begun.taken ≡ true → deferred begun request ≡ Again begun (Some request)
  ends above = ap (λ (b : Bool). if b then Again begun (Some request) else Planning begun) above

pub returns-clause-off : goal.returns-clause-off
returns-clause-off c = λ events steps index worker job begun addr mode answer is_event is_step is_preserved planning above.
    next_is events steps index worker (step.Wanted addr mode answer) (At job (Planning begun)) is_event is_step
    planning
    ∙ ap (λ (stage : Stage). At job stage) (off begun addr mode answer is_preserved ∙ ends begun addr mode above)

pub returns-clause-ends : goal.returns-clause-ends
returns-clause-ends c =
    λ before later tree first workers index worker events t job begun request made is_event less is_step planning
    differs is_preserved.
    differs (subst (λ p. IsStepOfWork is_preserved.setting (state_before events t.steps index) worker p (Some made)) planning
    (own_step is_preserved.setting workers _ _ _ (is_preserved.replies.taken.each index (event.Work worker) (Some made) is_event is_step)
    less))

pub returns-clause-known : goal.returns-clause-known
returns-clause-known c = λ events steps index worker job begun request is_event is_step planning.
    next_is events steps index worker _ (At job (Again begun request)) is_event is_step planning
