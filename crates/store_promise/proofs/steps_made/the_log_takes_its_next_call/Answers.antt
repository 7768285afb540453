use Rattle.std.proofs.Common.{◌≡◌, Bool, true, false, Some}
use Rattle.circ.specs.declared.log.calls.IoCall.{IoCall}
use Rattle.store_promise.specs.declared.events.Step.TheVariants as step
use Rattle.store_promise.specs.LogState.{CallState, idle, out, was_made, LogState, state_may_log}
use Rattle.store_promise.specs.NextCall.{next_log_call}
use Rattle.store_promise.specs.Schedule.{IsNextOfLog, IsStepOfLog, Setting, state_before}
use Rattle.store_promise.proofs.RulesAre.{own_step}
use Rattle.store_promise.proofs.steps_made.the_log_takes_its_next_call.Goals as goal

next : (may : Bool) (call asked : IoCall) → IsNextOfLog may call (Some (step.LogNext asked)) → asked ≡ call
next true call asked is = is
next false call asked is = cc

takes : (o : Setting) (log : LogState) (call : CallState) (asked : IoCall)
    → IsStepOfLog o log call (Some (step.LogNext asked)) → asked ≡ next_log_call o.position log
takes o log idle asked made = next (state_may_log log) (next_log_call o.position log) asked made
takes o log (out call) asked made = cc
takes o log (was_made call ok) asked made = cc

pub returns : goal.returns
returns c = λ before later tree first workers index events t call is_event is_made other is_preserved.
    let run_state = state_before events t.steps index in
    other is_preserved.setting.position (takes is_preserved.setting run_state.log run_state.log.log_call call
    (own_step is_preserved.setting workers _ _ _ (is_preserved.replies.taken.each index _ _ is_event is_made) tt))
