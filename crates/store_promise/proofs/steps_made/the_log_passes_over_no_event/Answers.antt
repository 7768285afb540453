-- Where no call is out and one is to be had, the step takes it.
use Rattle.std.proofs.Common.{◌≡◌, Bool, true, false, None}
use Rattle.circ.specs.declared.log.calls.IoCall.{IoCall}
use Rattle.store_promise.specs.LogState.{CallState, idle, out, was_made, LogState, state_may_install, state_may_log}
use Rattle.store_promise.specs.NextCall.{IsNextOfInstalling, next_log_call}
use Rattle.store_promise.specs.Schedule.{IsNextOfInstaller, IsNextOfLog, IsStepOfInstaller, IsStepOfLog}
use Rattle.store_promise.specs.Schedule.{Setting, state_before}
use Rattle.store_promise.proofs.RulesAre.{own_step}
use Rattle.store_promise.proofs.steps_made.the_log_passes_over_no_event.Goals as goal

next : (may : Bool) (call : IoCall) → may ≡ true → IsNextOfLog may call None → ⊥
next true call is taken = taken
next false call is taken = cc

passes : (o : Setting) (log : LogState) (call : CallState) → call ≡ idle → state_may_log log ≡ true
    → IsStepOfLog o log call None → ⊥
passes o log idle free may made = next (state_may_log log) (next_log_call o.position log) may made
passes o log (out call) free may made = cc
passes o log (was_made call ok) free may made = cc

next_home : (may : Bool) (IsNext : IoCall → Type 0) → may ≡ true → IsNextOfInstaller may IsNext None → ⊥
next_home true IsNext is taken = taken
next_home false IsNext is taken = cc

passes_home : (o : Setting) (log : LogState) (call : CallState) → call ≡ idle → state_may_install log ≡ true
    → IsStepOfInstaller o log call None → ⊥
passes_home o log idle free may made =
    next_home (state_may_install log) (IsNextOfInstalling o.geometry.blocks log) may made
passes_home o log (out call) free may made = cc
passes_home o log (was_made call ok) free may made = cc

pub returns-clause-logging : goal.returns-clause-logging
returns-clause-logging c = λ before later tree first workers index events t is_event is_made may free is_preserved.
    let run_state = state_before events t.steps index in
    passes is_preserved.setting run_state.log run_state.log.log_call free may
    (own_step is_preserved.setting workers _ _ _ (is_preserved.replies.taken.each index _ None is_event is_made) tt)

pub returns-clause-installing : goal.returns-clause-installing
returns-clause-installing c = λ before later tree first workers index events t is_event is_made may free is_preserved.
    let run_state = state_before events t.steps index in
    passes_home is_preserved.setting run_state.log run_state.log.inst_call free may
    (own_step is_preserved.setting workers _ _ _ (is_preserved.replies.taken.each index _ None is_event is_made) tt)
