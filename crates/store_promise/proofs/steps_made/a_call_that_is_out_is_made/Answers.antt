use Rattle.std.proofs.Common.{◌≢◌, Bool, Option, Some, None, refl, subst}
use Rattle.circ.specs.declared.log.calls.IoCall.{IoCall}
use Rattle.store_promise.specs.declared.events.Step.{Step}
use Rattle.store_promise.specs.declared.events.Step.TheVariants as step
use Rattle.store_promise.specs.LogState.{out}
use Rattle.store_promise.specs.Schedule.{IsStepOfInstIo, IsStepOfLogIo}
use Rattle.store_promise.proofs.RulesAre.{own_step}
use Rattle.store_promise.proofs.steps_made.a_call_that_is_out_is_made.Goals as goal

-- no other step does it
by_log : (call : IoCall) (made : Option Step) → IsStepOfLogIo (out call) made
    → ((ok : Bool) → made ≢ Some (step.LogIo ok)) → ⊥
by_log call None is other = is
by_log call (Some step.Called) is other = is
by_log call (Some step.Replied) is other = is
by_log call (Some (step.Begun begun)) is other = is
by_log call (Some (step.Wanted addr mode answer)) is other = is
by_log call (Some (step.Claimed block answer)) is other = is
by_log call (Some (step.Fetched block)) is other = is
by_log call (Some (step.FetchFailed block)) is other = is
by_log call (Some (step.Commit blocks answer)) is other = is
by_log call (Some (step.Ended why)) is other = is
by_log call (Some (step.Stable seq settled)) is other = is
by_log call (Some (step.Read block ok)) is other = is
by_log call (Some (step.LogNext asked)) is other = is
by_log call (Some (step.LogIo ok)) is other = other ok refl
by_log call (Some (step.LogDone ok)) is other = is
by_log call (Some (step.InstNext asked)) is other = is
by_log call (Some (step.InstIo ok)) is other = is
by_log call (Some (step.InstDone ok)) is other = is

by_installer : (call : IoCall) (made : Option Step) → IsStepOfInstIo (out call) made
    → ((ok : Bool) → made ≢ Some (step.InstIo ok)) → ⊥
by_installer call None is other = is
by_installer call (Some step.Called) is other = is
by_installer call (Some step.Replied) is other = is
by_installer call (Some (step.Begun begun)) is other = is
by_installer call (Some (step.Wanted addr mode answer)) is other = is
by_installer call (Some (step.Claimed block answer)) is other = is
by_installer call (Some (step.Fetched block)) is other = is
by_installer call (Some (step.FetchFailed block)) is other = is
by_installer call (Some (step.Commit blocks answer)) is other = is
by_installer call (Some (step.Ended why)) is other = is
by_installer call (Some (step.Stable seq settled)) is other = is
by_installer call (Some (step.Read block ok)) is other = is
by_installer call (Some (step.LogNext asked)) is other = is
by_installer call (Some (step.LogIo ok)) is other = is
by_installer call (Some (step.LogDone ok)) is other = is
by_installer call (Some (step.InstNext asked)) is other = is
by_installer call (Some (step.InstIo ok)) is other = other ok refl
by_installer call (Some (step.InstDone ok)) is other = is

pub returns-clause-logging : goal.returns-clause-logging
returns-clause-logging c =
    λ before later tree first workers index events t call made is_event is_made is_out other is_preserved.
    by_log call made (subst (λ at. IsStepOfLogIo at made) is_out
    (own_step is_preserved.setting workers _ _ _ (is_preserved.replies.taken.each index _ made is_event is_made) tt)) other

pub returns-clause-installing : goal.returns-clause-installing
returns-clause-installing c = λ before later tree first workers index events t call made is_event is_made is_out
    other is_preserved.
    by_installer call made (subst (λ at. IsStepOfInstIo at made) is_out
    (own_step is_preserved.setting workers _ _ _ (is_preserved.replies.taken.each index _ made is_event is_made) tt)) other
