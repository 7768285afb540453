use Rattle.std.proofs.Common.{◌≢◌, ◌≤◌, ℕ, Bool, true, false, Some, arith, inl, inr}
use Rattle.base.specs.declared.TheConstants.{START_BLOCK}
use Rattle.disk.specs.declared.block.BlockNo.{BlockNo}
use Rattle.circ.specs.declared.log.calls.IoCall.{IoCall}
use Rattle.circ.specs.declared.log.calls.IoCall.TheVariants.{Write}
use Rattle.store_promise.specs.declared.events.Step.TheVariants as step
use Rattle.store_promise.specs.LogState.{CallState, idle, out, was_made, LogState, state_may_install}
use Rattle.store_promise.specs.NextCall.{IsNextOfInstalling, taken_home}
use Rattle.store_promise.specs.Schedule.{IsNextOfInstaller, IsStepOfInstaller, Setting, state_before}
use Rattle.store_promise.proofs.RulesAre.{own_step}
use Rattle.store_promise.proofs.steps_made.the_installer_comes_to_an_end.Goals as goal

next : (may : Bool) (IsNext : IoCall → Type 0) (asked : IoCall)
    → IsNextOfInstaller may IsNext (Some (step.InstNext asked)) → IsNext asked
next true IsNext asked is = is
next false IsNext asked is = cc

takes : (o : Setting) (log : LogState) (call : CallState) (asked : IoCall)
    → IsStepOfInstaller o log call (Some (step.InstNext asked))
    → IsNextOfInstalling o.geometry.blocks log asked
takes o log idle asked made =
    next (state_may_install log) (IsNextOfInstalling o.geometry.blocks log) asked made
takes o log (out call) asked made = cc
takes o log (was_made call ok) asked made = cc

none : (blocks : ℕ) (log : LogState) (block : BlockNo) → block.0 ≢ START_BLOCK → taken_home log ≤ log.homes
    → IsNextOfInstalling blocks log (Write block) → ⊥
none blocks log block other all (inl home) =
    let fewer = home.fewer in omega (arith, all, fewer)
none blocks log block other all (inr start) = other start.start

pub returns : goal.returns
returns c = λ before later tree first workers index events t block is_event is_made other all is_preserved.
    let run_state = state_before events t.steps index in
    none is_preserved.setting.geometry.blocks run_state.log block other all
    (takes is_preserved.setting run_state.log run_state.log.inst_call (Write block)
    (own_step is_preserved.setting workers _ _ _ (is_preserved.replies.taken.each index _ _ is_event is_made) tt))
