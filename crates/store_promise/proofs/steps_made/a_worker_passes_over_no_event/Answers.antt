use Rattle.std.proofs.Common.{◌≢◌, ℕ, None, refl, subst}
use Rattle.store_promise.specs.Progress.{At, Begun, Job, Stage, Called, Planning, Reading, Read}
use Rattle.store_promise.specs.Progress.{Refused, Again, Taken}
use Rattle.store_promise.specs.Progress.{Waiting}
use Rattle.store_promise.specs.Schedule.{IsStepOfRead, IsStepOfWork, Setting, RunState, state_before}
use Rattle.store_promise.proofs.RulesAre.{own_step}
use Rattle.store_promise.proofs.steps_made.a_worker_passes_over_no_event.Goals as goal

works : (o : Setting) (run_state : RunState) (worker : ℕ) (job : Job) (stage : Stage)
    → ((begun : Begun) (taken : Taken) → stage ≢ Reading begun taken)
    → IsStepOfWork o run_state worker (At job stage) None → ⊥
works o run_state worker job (Called known) other none = none
works o run_state worker job (Planning begun) other none = none
works o run_state worker job (Reading begun addr) other none = other begun addr refl
works o run_state worker job (Read begun addr ok) other none = none
works o run_state worker job (Refused begun why) other none = none
works o run_state worker job (Again begun request) other none = none
works o run_state worker job (Waiting place) other none = none

pub returns-clause-work : goal.returns-clause-work
returns-clause-work c =
    λ before later tree first workers index worker events t job stage is_event less is_made is other is_preserved.
    let run_state = state_before events t.steps index in
    works is_preserved.setting run_state worker job stage other
    (subst (λ progress. IsStepOfWork is_preserved.setting run_state worker progress None) is
    (own_step is_preserved.setting workers _ _ _ (is_preserved.replies.taken.each index _ None is_event is_made) less))

pub returns-clause-reading : goal.returns-clause-reading
returns-clause-reading c = λ before later tree first workers index worker events t job begun addr is_event less
    is_made is is_preserved.
    subst (λ progress. IsStepOfRead progress None) is
    (own_step is_preserved.setting workers _ _ _ (is_preserved.replies.taken.each index _ None is_event is_made) less)
