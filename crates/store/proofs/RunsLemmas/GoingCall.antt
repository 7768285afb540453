-- A run goes on with a call that is handed to a worker.
use Rattle.std.proofs.Common.{◌≡◌, ◌∙◌, refl, sym, ap, subst, ℕ, ◌+◌, false, List, [], All, Option, Some, None}
use Rattle.nfs_types.specs.declared.call.Call.{Call}
use Rattle.nfs_types.specs.declared.ctx.Credential.{Credential}
use Rattle.nfs_types.specs.declared.ctx.Ctx.{Ctx}
use Rattle.nfs_types.specs.declared.ctx.Moment.{Moment}
use Rattle.disk.specs.Device.{current}
use Rattle.nfs_spec.specs.Model.Entry.{Entry}
use Rattle.store_promise.proofs.RulesAre.{to_run_rule}
use Rattle.store_promise.specs.declared.events.Event.{Event}
use Rattle.store_promise.specs.declared.events.Event.TheVariants as event
use Rattle.store_promise.specs.declared.events.Step.{Step}
use Rattle.store_promise.specs.declared.transcript.Run.{Run}
use Rattle.store_promise.specs.Progress.{At, Called, Job, Progress}
use Rattle.store_promise.specs.Running.{IsFetchOver, IsMovedBy, IsRunState, StoreState}
use Rattle.store_promise.specs.Schedule.{IsStepOfCall, Setting, RunState, state_after}
use Rattle.store_promise.specs.Transcript.{Transcript, calls_device, entries_of, transcript_of}
use Rattle.store_promise.proofs.DeviceCalls.{does_nothing}
use Rattle.store_law.specs.Runs.Tracing.{state_now}
use Rattle.store_law.specs.Runs.Run.{Beginning}
use Rattle.store.specs.Runs.AtWork.{fetches_of}
use Rattle.store.specs.Runs.Going.{IsGoing, IsAtStage}
use Rattle.store_workers.proofs.LeavesOthers.{leaves_core}
use Rattle.store_workers.specs.Unaffected.{IsFetchAt, IsFetchedBy, LeavesOthers, Replaces}
use Rattle.store_workers.specs.Stages.{IsWorkerAt, progress_of}
use Rattle.store_workers.specs.RunReports.{TakesCall}
use Rattle.store_workers.specs.Worker.{GoesWith}
use Rattle.store_workers.specs.WorkerSteps.{worker_and_core}
use Rattle.store_workers.specs.WorkTells.{TellsCall, once_handed}
use Rattle.store_workers.specs.declared.workers.parts.State.{State}
use Rattle.store.proofs.RunsLemmas.AtWorkEvents.{call_work}
use Rattle.store.proofs.RunsLemmas.GoingUncommitted.{Leaves, is_there}
use Rattle.store.proofs.RunsLemmas.GoingOn.{same_entries, only_step}
use Rattle.store.proofs.RunsLemmas.StayUnaffected.{all_stand, others_stay, own_moves}

pub no_work : (number : ℕ) (credential : Credential) (moment : Moment) (call : Call) (worker : ℕ)
    → event.Call number credential moment call ≡ event.Work worker → ⊥
no_work number credential moment call worker same = cc

-- it makes no call of the device
calls_none : (ctx : Ctx) (call : Call) (old new : State) (made : Option Step)
    → TakesCall ctx call old made new → calls_device made ≡ false
calls_none ctx call old new None takes = refl
calls_none ctx call old new (Some made) takes =
    subst (λ (one : Step). calls_device (Some one) ≡ false) (sym takes.0) refl

-- it begins nothing, and fetches what it did
call_begun : (ctx : Ctx) (call : Call) (old new : State) (made : Option Step) → TakesCall ctx call old made new
    → new.begun ≡ old.begun
call_begun ctx call old new None takes = ap (λ (s : State). s.begun) takes.0
call_begun ctx call old new (Some made) takes = ap (λ (s : State). s.begun) takes.2

module _ (b : Beginning) (number : ℕ) (credential : Credential) (moment : Moment) (call : Call) (ctx : Ctx)
    (store : StoreState) (workers later : List State) (worker new : State) (made : Option Step) (before : Run)
    (still : (made : Option Step) → calls_device made ≡ false → IsMovedBy store.device made store.device)
    (going : IsGoing b store workers before) (list : Replaces workers number worker new later) where
  abbrev pub t : Transcript
  t = transcript_of before

  abbrev o : Setting
  o = going.setting

  abbrev run_state : RunState
  run_state = state_now b.events t

  abbrev job : Job
  job = record { credential = credential; moment = moment; call = call }

  abbrev now : Event
  now = event.Call number credential moment call

  abbrev pub so : IsAtStage b going.base store.core t number worker
  so = going.so_far.each number worker list.was

  progress_then : (made : Option Step) → progress_of new ≡ once_handed job made (progress_of worker)
      → (state_after run_state now made).workers number ≡ progress_of new
  progress_then None is = so.progress ∙ sym is
  progress_then (Some one) is = own_moves run_state.workers number (At job (Called [])) ∙ sym is

  others_then : (made : Option Step) (other : ℕ) → (other ≡ number → ⊥)
      → (state_after run_state now made).workers other ≡ run_state.workers other
  others_then None other differs = refl
  others_then (Some one) other differs = others_stay run_state.workers number other (At job (Called [])) differs

  pub left_by : TakesCall ctx call worker made new
      → TellsCall (b.first + 1) (entries_of t) job worker made new
      → IsRunState o (state_after run_state now made) store
      → fetches_of new ≡ fetches_of worker → (GoesWith worker store.core → GoesWith new store.core)
      → Leaves b now o going.base going.last t store store made later
  left_by takes tells state_agrees_then fetches with = record {
    taken = record {
      own = λ one. to_run_rule o run_state now made
          (subst (λ (p : Progress). IsStepOfCall p made) (sym so.progress) tells.may);
      others = λ none. absurd (none (is_there b store workers before number worker going list.was));
    };
    device = still made (calls_none ctx call worker new made takes);
    does = does_nothing run_state.log.log_call run_state.log.inst_call made (current store.device) (current store.device)
        (calls_none ctx call worker new made takes) (λ block. refl);
    running = going.run.running;
    is_run_state = state_agrees_then;
    stand = all_stand b going.base (worker_and_core worker store.core) (worker_and_core new store.core) t now (only_step made) number
        workers later going.so_far list left refl refl (others_then made) (record {
          stands = subst (λ (es : List Entry). IsWorkerAt (b.first + 1) es new) (sym (same_entries t made))
              tells.stands;
          at_work = call_work ctx call worker new made store.core takes so.at_work with;
          progress = progress_then made tells.progress;
          fetched = subst (λ found. All (IsFetchOver going.base store.core) found) (sym fetches) so.fetched;
        });
  }
    where
      begun : new.begun ≡ worker.begun
      begun = call_begun ctx call worker new made takes

      pending : IsFetchedBy store.core worker.begun.io
      pending = going.so_far.share.fetched number worker list.was

      left : LeavesOthers (worker_and_core worker store.core) (worker_and_core new store.core)
      left = leaves_core worker new store.core so.at_work.with.core_of.out pending (ap (λ b. b.tx) begun)
          (λ block at. subst (λ b. IsFetchAt block b.io) begun at)
          (λ block at. subst (λ b. IsFetchAt block b.io) (sym begun) at)
          (subst (λ b. IsFetchedBy store.core b.io) (sym begun) pending)
