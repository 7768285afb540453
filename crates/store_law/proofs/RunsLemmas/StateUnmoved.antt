-- An event that isn't a worker's own step commits nothing and ends no call.
use Rattle.std.proofs.Common.{◌≡◌, ◌≢◌, inl, inr, ℕ, ◌<◌, ap, sym, ◌∙◌, refl, subst, arith, Bool, true, false}
use Rattle.std.proofs.Common.{not, ◌&&◌, Option, Some, None}
use Rattle.std.proofs.lemmas.Bool.{cases_lt}
use Rattle.disk.specs.declared.block.BlockNo.{BlockNo}
use Rattle.circ.specs.declared.log.calls.IoCall.{IoCall}
use Rattle.store_promise.proofs.RulesAre.{own_step}
use Rattle.store_promise.specs.declared.events.Event.{Event}
use Rattle.store_promise.specs.declared.events.Event.TheVariants as event
use Rattle.store_promise.specs.declared.events.Step.{Step}
use Rattle.store_promise.specs.declared.events.Step.TheVariants as step
use Rattle.store_promise.specs.LogState.{CallState, idle, out, was_made, state_may_install, state_may_log}
use Rattle.store_promise.specs.NextCall.{IsNextOfInstalling, next_log_call}
use Rattle.store_promise.specs.Progress.{Again, At, Begun, Called, Idle, Job, Planning, Progress, Read, Reading}
use Rattle.store_promise.specs.Progress.{Refused, Taken, Waiting, is_idle, progressed}
use Rattle.store_promise.specs.Schedule.{IsNextOfInstaller, IsNextOfLog, IsOfOne, IsReadOf, IsStepOf}
use Rattle.store_promise.specs.Schedule.{IsStepOfCall}
use Rattle.store_promise.specs.Schedule.{IsStepOfInstIo, IsStepOfInstaller, IsStepOfLog, IsStepOfLogIo}
use Rattle.store_promise.specs.Schedule.{IsStepOfRead}
use Rattle.store_promise.specs.Schedule.{Setting, RunState, state_after, worker_of}
use Rattle.store_promise.specs.EventSteps.{IsTaken}
use Rattle.store_law.specs.Runs.Tracing.{commits, ends, ends_of}
use Rattle.store_law.proofs.RunsLemmas.StateMoves.{own_read}

-- ---- without a step

not_both : (b : Bool) → (not b && b) ≡ false
not_both true = refl
not_both false = refl

and_false : (b : Bool) → (b && false) ≡ false
and_false true = refl
and_false false = refl

none_ends_of : (run_state : RunState) (of : Option ℕ) → ends_of run_state run_state of ≡ false
none_ends_of run_state None = refl
none_ends_of run_state (Some worker) = not_both (is_idle (run_state.workers worker))

module _ (run_state : RunState) (e : Event) (made : Option Step) where
  -- nothing is told but the step
  abbrev pub IsQuiet : Type 0
  IsQuiet = (commits made ≡ false) × (ends run_state e made ≡ false)

  without_step : made ≡ None → IsQuiet
  without_step is = (ap commits is, ap (ends run_state e) is ∙ none_ends_of run_state (worker_of e))

-- ---- a call that is handed over, and a read

module _ (run_state : RunState) (worker : ℕ) (e : Event) (of : worker_of e ≡ Some worker) (made : Option Step) where
  -- a worker that had no call, or has one then, doesn't end one
  had_none : is_idle (run_state.workers worker) ≡ true → ends run_state e made ≡ false
  had_none is =
      ap (ends_of run_state (state_after run_state e made)) of
      ∙ (λ i. not (is i) && is_idle ((state_after run_state e made).workers worker))

  has_one : is_idle ((state_after run_state e made).workers worker) ≡ false → ends run_state e made ≡ false
  has_one is =
      ap (ends_of run_state (state_after run_state e made)) of ∙ (λ i. not (is_idle (run_state.workers worker)) && is i)
      ∙ and_false (not (is_idle (run_state.workers worker)))

  of_call : (so_far : Progress) → run_state.workers worker ≡ so_far → IsStepOfCall so_far made → IsQuiet run_state e made
  of_call Idle is may = (ap commits may, had_none (ap is_idle is))
  of_call (At job stage) is may = without_step run_state e made may

read_is : (block : BlockNo) (made : Option Step) → IsReadOf block made
    → (read : BlockNo) × (ok : Bool) × (made ≡ Some (step.Read read ok))
read_is block (Some (step.Read read ok)) may = (read, ok, refl)
read_is block made may = absurd may

module _ (run_state : RunState) (worker : ℕ) (made : Option Step) where
  was_read : (job : Job) (begun : Begun) (taken : Taken) → run_state.workers worker ≡ At job (Reading begun taken)
      → IsReadOf taken.addr.block made → IsQuiet run_state (event.Read worker) made
  was_read job begun taken is may =
      let read = read_is taken.addr.block made may in
      let one = step.Read read.0 read.1 in (
        ap commits read.2,
        has_one run_state worker (event.Read worker) refl made
            (ap (λ (m : Option Step). is_idle ((state_after run_state (event.Read worker) m).workers worker)) read.2
            ∙ ap is_idle (own_read run_state worker one)
            ∙ ap (λ (p : Progress). is_idle (progressed run_state.log.broken one p)) is),
      )

  of_read : (so_far : Progress) → run_state.workers worker ≡ so_far → IsStepOfRead so_far made
      → IsQuiet run_state (event.Read worker) made
  of_read (At job (Reading begun taken)) is may = was_read job begun taken is may
  of_read Idle is may = without_step run_state (event.Read worker) made may
  of_read (At job (Called known)) is may = without_step run_state (event.Read worker) made may
  of_read (At job (Planning begun)) is may = without_step run_state (event.Read worker) made may
  of_read (At job (Read begun taken ok)) is may = without_step run_state (event.Read worker) made may
  of_read (At job (Refused begun why)) is may = without_step run_state (event.Read worker) made may
  of_read (At job (Again begun request)) is may = without_step run_state (event.Read worker) made may
  of_read (At job (Waiting place)) is may = without_step run_state (event.Read worker) made may

-- ---- the log and the installer

next_of_log : (may : Bool) (next : IoCall) (made : Option Step) → IsNextOfLog may next made
    → commits made ≡ false
next_of_log false next made is = ap commits is
next_of_log true next (Some (step.LogNext call)) is = refl
next_of_log true next made is = absurd is

next_of_installer : (may : Bool) (IsNext : IoCall → Type 0) (made : Option Step)
    → IsNextOfInstaller may IsNext made → commits made ≡ false
next_of_installer false IsNext made is = ap commits is
next_of_installer true IsNext (Some (step.InstNext call)) is = refl
next_of_installer true IsNext made is = absurd is

module _ (o : Setting) (run_state : RunState) (made : Option Step) where
  of_log : (call : CallState) → IsStepOfLog o run_state.log call made → commits made ≡ false
  of_log idle may = next_of_log (state_may_log run_state.log) (next_log_call o.position run_state.log) made may
  of_log (out call) may = ap commits may
  of_log (was_made call ok) may = ap commits may

  of_installer : (call : CallState) → IsStepOfInstaller o run_state.log call made → commits made ≡ false
  of_installer idle may =
      next_of_installer (state_may_install run_state.log) (IsNextOfInstalling o.geometry.blocks run_state.log) made may
  of_installer (out call) may = ap commits may
  of_installer (was_made call ok) may = ap commits may

of_log_io : (call : CallState) (made : Option Step) → IsStepOfLogIo call made → commits made ≡ false
of_log_io idle made may = ap commits may
of_log_io (was_made call ok) made may = ap commits may
of_log_io (out call) (Some (step.LogIo ok)) may = refl
of_log_io (out call) made may = absurd may

of_inst_io : (call : CallState) (made : Option Step) → IsStepOfInstIo call made → commits made ≡ false
of_inst_io idle made may = ap commits may
of_inst_io (was_made call ok) made may = ap commits may
of_inst_io (out call) (Some (step.InstIo ok)) may = refl
of_inst_io (out call) made may = absurd may

-- ---- each event but a worker's own step

module _ (o : Setting) (workers : ℕ) (run_state : RunState) where
  quiet_step : (e : Event) (made : Option Step) → ((worker : ℕ) → e ≢ event.Work worker)
      → IsStepOf o run_state e made
      → IsQuiet run_state e made
  quiet_step (event.Call worker credential moment call) made other may =
      of_call run_state worker (event.Call worker credential moment call) refl made (run_state.workers worker) refl may
  quiet_step (event.Work worker) made other may = absurd (other worker refl)
  quiet_step (event.Read worker) made other may = of_read run_state worker made (run_state.workers worker) refl may
  quiet_step event.Log made other may = (of_log o run_state made run_state.log.log_call may, refl)
  quiet_step event.LogIo made other may = (of_log_io run_state.log.log_call made may, refl)
  quiet_step event.Install made other may = (of_installer o run_state made run_state.log.inst_call may, refl)
  quiet_step event.InstIo made other may = (of_inst_io run_state.log.inst_call made may, refl)

  pub quiet : (e : Event) (made : Option Step) → ((worker : ℕ) → e ≢ event.Work worker)
      → IsTaken o workers run_state e made → IsQuiet run_state e made
  quiet e made other taken = by_worker (worker_of e) refl
    where
      by_worker : (of : Option ℕ) → worker_of e ≡ of → IsQuiet run_state e made
      by_worker None is = quiet_step e made other (own_step o workers run_state e made taken (subst (IsOfOne workers) (sym is) tt))
      by_worker (Some number) is = elim (cases_lt number workers) [
        | inl less ↦ quiet_step e made other (own_step o workers run_state e made taken (subst (IsOfOne workers) (sym is) less))
        | inr past ↦ without_step run_state e made (taken.others (λ its.
            let less : number < workers = subst (IsOfOne workers) is its in omega (arith, less, past)))
      ]
