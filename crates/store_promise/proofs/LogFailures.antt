-- A log that is told to have failed was told so before, or is with a device call that fails.
use Rattle.std.proofs.Common.{◌≡◌, ◌⊎◌, inl, inr, ap, sym, ◌∙◌, refl, subst, Bool, true, false, not}
use Rattle.std.proofs.Common.{◌+◌, if◌then◌else◌, nat_eq, nat_lt, Some}
use Rattle.circ.specs.declared.log.calls.IoCall.{IoCall}
use Rattle.circ.specs.declared.log.calls.IoCall.TheVariants.{Write, Barrier}
use Rattle.store_promise.specs.declared.events.Committing.TheVariants as committing
use Rattle.store_promise.specs.declared.events.Step.{Step}
use Rattle.store_promise.specs.declared.events.Step.TheVariants as step
use Rattle.store_promise.specs.LogState.{CallState, idle, out, was_made, LogState, call_made, log_moved}
use Rattle.store_promise.specs.LogState.{state_may_install, state_may_log}
use Rattle.store_promise.specs.LogState.{with_inst_behind, with_inst_done, with_inst_given, with_inst_taken}
use Rattle.store_promise.specs.LogState.{with_log_done, with_log_given, with_log_taken}
use Rattle.store_promise.specs.NextCall.{IsNextOfInstalling, next_log_call}
use Rattle.store_promise.specs.Schedule.{IsNextOfInstaller, IsNextOfLog, IsStepOfInstIo}
use Rattle.store_promise.specs.Schedule.{IsStepOfInstaller, IsStepOfLog, IsStepOfLogIo, Setting}
use Rattle.store_promise.specs.Transcript.{fails}

-- a call was made, and failed
abbrev pub call_failed : CallState → Bool
call_failed idle = false
call_failed (out call) = false
call_failed (was_made call ok) = not ok

-- the store is broken, or a call that failed is still to be given back
pub data LogShows (log : LogState) : Type 0 where
  is_broken : log.broken ≡ true → LogShows log
  log_failed : call_failed log.log_call ≡ true → LogShows log
  inst_failed : call_failed log.inst_call ≡ true → LogShows log

-- ---- steps that fail no call

-- a call stays as it was, or is none that failed
abbrev pub IsNoWorse : CallState → CallState → Type 0
IsNoWorse old new = (new ≡ old) ⊎ (call_failed new ≡ false)

pub record Clears (log next : LogState) : Type 0 where
  broken : next.broken ≡ log.broken
  logging : IsNoWorse log.log_call next.log_call
  installing : IsNoWorse log.inst_call next.inst_call

no_worse : (old new : CallState) → IsNoWorse old new → call_failed new ≡ true → call_failed old ≡ true
no_worse old new (inl same) fails = sym (ap call_failed same) ∙ fails
no_worse old new (inr well) fails = cc

pub cleared : (log next : LogState) → Clears log next → LogShows next → LogShows log
cleared log next clears (is_broken is) = is_broken (sym clears.broken ∙ is)
cleared log next clears (log_failed is) = log_failed (no_worse log.log_call next.log_call clears.logging is)
cleared log next clears (inst_failed is) =
    inst_failed (no_worse log.inst_call next.inst_call clears.installing is)

module _ (log : LogState) where
  either : (b : Bool) (one other : LogState) → Clears log one → Clears log other
      → Clears log (if b then one else other)
  either true one other is so = is
  either false one other is so = so

  stays : Clears log log
  stays = record { broken = refl; logging = inl refl; installing = inl refl }

  log_taken : (call : IoCall) → Clears log (with_log_taken log call)
  log_taken call = either (nat_lt 0 log.taken) _ _
      (record { broken = refl; logging = inr refl; installing = inl refl })
      (record { broken = refl; logging = inr refl; installing = inl refl })

  log_done : Clears log (with_log_done log)
  log_done = either (nat_eq log.log_step (log.taken + 2)) _ _
      (record { broken = refl; logging = inr refl; installing = inl refl })
      (record { broken = refl; logging = inr refl; installing = inl refl })

  inst_taken : (call : IoCall) → Clears log (with_inst_taken log call)
  inst_taken call = either (nat_lt 0 log.installing) _ _
      (record { broken = refl; logging = inl refl; installing = inr refl })
      (record { broken = refl; logging = inl refl; installing = inr refl })

  inst_behind : Clears log (with_inst_behind log)
  inst_behind = either (nat_eq log.behind 2) _ _
      (record { broken = refl; logging = inl refl; installing = inr refl })
      (record { broken = refl; logging = inl refl; installing = inr refl })

  inst_done : (call : CallState) → Clears log (with_inst_done log call)
  inst_done (was_made (Write block) ok) = either (nat_eq log.behind 0) _ _
      (record { broken = refl; logging = inl refl; installing = inr refl }) inst_behind
  inst_done (was_made (Barrier side) ok) = inst_behind
  inst_done idle = stays
  inst_done (out call) = stays

-- the steps of the log and of the installer
abbrev pub is_of_log : Step → Bool
is_of_log (step.LogNext call) = true
is_of_log (step.LogIo ok) = true
is_of_log (step.LogDone ok) = true
is_of_log (step.InstNext call) = true
is_of_log (step.InstIo ok) = true
is_of_log (step.InstDone ok) = true
is_of_log _ = false

-- of the others only a commit moves the log
pub quiet : (log : LogState) (one : Step) → is_of_log one ≡ false → Clears log (log_moved log one)
quiet log (step.Commit blocks (committing.Committed place)) never =
    record { broken = refl; logging = inl refl; installing = inl refl }
quiet log (step.LogNext call) never = cc
quiet log (step.LogIo ok) never = cc
quiet log (step.LogDone ok) never = cc
quiet log (step.InstNext call) never = cc
quiet log (step.InstIo ok) never = cc
quiet log (step.InstDone ok) never = cc
quiet log _ never = stays log

-- ---- calls given back, and calls made

log_given : (log : LogState) (call : IoCall) (ok : Bool) → log.log_call ≡ was_made call ok
    → LogShows (with_log_given log ok) → LogShows log
log_given log call true is shows = cleared log (with_log_done log) (log_done log) shows
log_given log call false is shows = log_failed (ap call_failed is)

inst_given : (log : LogState) (call : IoCall) (ok : Bool) → log.inst_call ≡ was_made call ok
    → LogShows (with_inst_given log ok) → LogShows log
inst_given log call true is shows = cleared log (with_inst_done log log.inst_call)
    (inst_done log log.inst_call) shows
inst_given log call false is shows = inst_failed (ap call_failed is)

log_next : (log : LogState) (may : Bool) (next : IoCall) (one : Step) → IsNextOfLog may next (Some one)
    → LogShows (log_moved log one) → LogShows log
log_next log true next (step.LogNext call) is shows =
    cleared log (with_log_taken log call) (log_taken log call) shows
log_next log true next _ is shows = absurd is
log_next log false next one is shows = cc

inst_next : (log : LogState) (may : Bool) (IsNext : IoCall → Type 0) (one : Step)
    → IsNextOfInstaller may IsNext (Some one) → LogShows (log_moved log one) → LogShows log
inst_next log true IsNext (step.InstNext call) is shows =
    cleared log (with_inst_taken log call) (inst_taken log call) shows
inst_next log true IsNext _ is shows = absurd is
inst_next log false IsNext one is shows = cc

the_step : (one other : Step) → Some one ≡ Some other → one ≡ other
the_step one other is = cc

pub log_goes : (o : Setting) (log : LogState) (call : CallState) (one : Step) → log.log_call ≡ call
    → IsStepOfLog o log call (Some one) → LogShows (log_moved log one) → LogShows log
log_goes o log idle one is makes shows =
    log_next log (state_may_log log) (next_log_call o.position log) one makes shows
log_goes o log (out call) one is makes shows = cc
log_goes o log (was_made call ok) one is makes shows = log_given log call ok is
    (subst (λ made. LogShows (log_moved log made)) (the_step one (step.LogDone ok) makes) shows)

pub inst_goes : (o : Setting) (log : LogState) (call : CallState) (one : Step) → log.inst_call ≡ call
    → IsStepOfInstaller o log call (Some one) → LogShows (log_moved log one) → LogShows log
inst_goes o log idle one is makes shows =
    inst_next log (state_may_install log) (IsNextOfInstalling o.geometry.blocks log) one makes shows
inst_goes o log (out call) one is makes shows = cc
inst_goes o log (was_made call ok) one is makes shows = inst_given log call ok is
    (subst (λ made. LogShows (log_moved log made)) (the_step one (step.InstDone ok) makes) shows)

pub log_made : (log : LogState) (call : CallState) (one : Step) → log.log_call ≡ call
    → IsStepOfLogIo call (Some one)
    → LogShows (log_moved log one) → LogShows log ⊎ (fails (Some one) ≡ true)
log_made log (out call) (step.LogIo ok) is makes (is_broken so) = inl (is_broken so)
log_made log (out call) (step.LogIo ok) is makes (log_failed so) =
    inr (sym (ap (λ c. call_failed (call_made c ok)) is) ∙ so)
log_made log (out call) (step.LogIo ok) is makes (inst_failed so) = inl (inst_failed so)
log_made log (out call) _ is makes shows = absurd makes
log_made log idle one is makes shows = cc
log_made log (was_made call ok) one is makes shows = cc

pub inst_made : (log : LogState) (call : CallState) (one : Step) → log.inst_call ≡ call
    → IsStepOfInstIo call (Some one)
    → LogShows (log_moved log one) → LogShows log ⊎ (fails (Some one) ≡ true)
inst_made log (out call) (step.InstIo ok) is makes (is_broken so) = inl (is_broken so)
inst_made log (out call) (step.InstIo ok) is makes (log_failed so) = inl (log_failed so)
inst_made log (out call) (step.InstIo ok) is makes (inst_failed so) =
    inr (sym (ap (λ c. call_failed (call_made c ok)) is) ∙ so)
inst_made log (out call) _ is makes shows = absurd makes
inst_made log idle one is makes shows = cc
inst_made log (was_made call ok) one is makes shows = cc
