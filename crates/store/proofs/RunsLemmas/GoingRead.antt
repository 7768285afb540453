-- A run goes on with a read of a worker.
use Rattle.std.proofs.Common.{◌≡◌, ◌∙◌, refl, sym, ap, subst, ℕ, ◌+◌, is_ok, List, [], Option, Some, None}
use Rattle.disk.specs.Device.{Device}
use Rattle.disk.specs.declared.block.BlockNo.{BlockNo}
use Rattle.nfs_spec.specs.Model.Entry.{Entry}
use Rattle.txn_law.specs.Fetch.{Fetch}
use Rattle.store_promise.proofs.RulesAre.{to_run_rule}
use Rattle.store_promise.specs.declared.events.Event.{Event}
use Rattle.store_promise.specs.declared.events.Event.TheVariants as event
use Rattle.store_promise.specs.declared.events.Step.{Step}
use Rattle.store_promise.specs.declared.events.Step.TheVariants as step
use Rattle.store_promise.specs.declared.transcript.Run.{Run}
use Rattle.store_promise.specs.Progress.{Progress, progressed}
use Rattle.store_promise.specs.Running.{IsMovedBy, IsRunningOver, IsRunState, StoreState}
use Rattle.store_promise.specs.Schedule.{IsStepOfRead, Setting, RunState, state_after}
use Rattle.store_promise.specs.EventSteps.{IsTaken}
use Rattle.store_promise.specs.Transcript.{Transcript, entries_of, transcript_of}
use Rattle.store_law.specs.Runs.Tracing.{state_now}
use Rattle.store_law.specs.Runs.Run.{Beginning}
use Rattle.store.specs.Runs.AtWork.{fetches_of}
use Rattle.store.specs.Runs.Going.{IsGoing, IsAtStage}
use Rattle.store_workers.proofs.LeavesOthers.{leaves_core}
use Rattle.store_workers.specs.Unaffected.{IsFetchAt, IsFetchedBy, LeavesOthers, Replaces}
use Rattle.store_workers.specs.Stages.{IsWorkerAt, progress_of}
use Rattle.store_workers.specs.Worker.{GoesWith}
use Rattle.store_workers.specs.WorkTells.{TellsRead}
use Rattle.store_workers.specs.WorkerReads.{HasReadBlock, MakesRead, with_read}
use Rattle.store_workers.specs.WorkerSteps.{worker_and_core}
use Rattle.store_workers.specs.declared.workers.parts.Phase.TheVariants.{Reading}
use Rattle.store_workers.specs.declared.workers.parts.State.{State}
use Rattle.store.proofs.RunsLemmas.AtWorkEvents.{read_work}
use Rattle.store.proofs.RunsLemmas.GoingUncommitted.{Leaves, is_there}
use Rattle.store.proofs.RunsLemmas.GoingOn.{same_entries, only_step}
use Rattle.store.proofs.RunsLemmas.StayUnaffected.{WillStand, all_stand, others_stay, own_moves, same_preserved, so_still}

pub no_work : (number worker : ℕ) → event.Read number ≡ event.Work worker → ⊥
no_work number worker same = cc

-- what a read brings of a device that keeps its model
pub with_model : (keeps_model : Type 0) (before after : Device) (old new : State) (made : Option Step)
    → keeps_model → MakesRead keeps_model before old made after new
    → MakesRead (Unit {0}) before old made after new
with_model keeps_model before after old new None preserves reads = reads
with_model keeps_model before after old new (Some made) preserves reads = (
  reads.0,
  record {
    io = reads.1.io;
    io_is = reads.1.io_is;
    answer = reads.1.answer;
    made_is = reads.1.made_is;
    content = reads.1.content;
    worker = reads.1.worker;
    call = reads.1.call;
    failure = reads.1.failure;
    brings = λ unit. reads.1.brings preserves;
  },
)

module _ (b : Beginning) (number : ℕ) (keeps_model : Type 0) (store : StoreState) (device : Device)
    (workers later : List State) (worker new : State) (before : Run)
    (going : IsGoing b store workers before) (list : Replaces workers number worker new later) where
  abbrev pub t : Transcript
  t = transcript_of before

  abbrev o : Setting
  o = going.setting

  abbrev run_state : RunState
  run_state = state_now b.events t

  abbrev now : Event
  now = event.Read number

  abbrev pub so : IsAtStage b going.base store.core t number worker
  so = going.so_far.each number worker list.was

  abbrev pub then_store : StoreState
  then_store = record store { device = device }

  -- what is left with the read
  abbrev pub LeftBy : Option Step → Type 0
  LeftBy made = Leaves b now o going.base going.last t store then_store made later

  taken : (made : Option Step) → IsStepOfRead (progress_of worker) made → IsTaken o b.workers run_state now made
  taken made may = record {
    own = λ one. to_run_rule o run_state now made (subst (λ (p : Progress). IsStepOfRead p made) (sym so.progress) may);
    others = λ none. absurd (none (is_there b store workers before number worker going list.was));
  }

  pending : IsFetchedBy store.core worker.begun.io
  pending = going.so_far.share.fetched number worker list.was

  -- a worker that has the same transaction and fetches the same block leaves what others have
  leaves_by : new.begun.tx ≡ worker.begun.tx
      → ((block : BlockNo) → IsFetchAt block new.begun.io → IsFetchAt block worker.begun.io)
      → ((block : BlockNo) → IsFetchAt block worker.begun.io → IsFetchAt block new.begun.io)
      → IsFetchedBy store.core new.begun.io → LeavesOthers (worker_and_core worker store.core) (worker_and_core new store.core)
  leaves_by tx to_old to_new fetched =
      leaves_core worker new store.core so.at_work.with.core_of.out pending tx to_old to_new fetched

  others_then : (made : Option Step) (other : ℕ) → (other ≡ number → ⊥)
      → (state_after run_state now made).workers other ≡ run_state.workers other
  others_then None other differs = refl
  others_then (Some one) other differs = others_stay run_state.workers number other _ differs

  -- none was due
  none_due : new ≡ worker → device ≡ store.device → TellsRead (b.first + 1) (entries_of t) worker None worker
      → IsMovedBy store.device None store.device → LeftBy None
  none_due same at tells still =
      subst (λ (d : Device). Leaves b now o going.base going.last t store (record store { device = d }) None later)
      (sym at) (record {
        taken = taken None tells.may;
        device = still;
        does = λ block. refl;
        running = going.run.running;
        is_run_state = going.run.is_run_state;
        stand = all_stand b going.base (worker_and_core worker store.core) (worker_and_core new store.core) t now (only_step None) number
            workers later going.so_far list
            (leaves_by (ap (λ (s : State). s.begun.tx) same)
            (λ block at. subst (λ (s : State). IsFetchAt block s.begun.io) same at)
            (λ block at. subst (λ (s : State). IsFetchAt block s.begun.io) (sym same) at)
            (subst (λ (s : State). IsFetchedBy store.core s.begun.io) (sym same) pending))
            refl refl (others_then None)
            (subst (λ (s : State). WillStand b going.base store.core t now (only_step None) number s) (sym same)
            (so_still b going.base going.base store.core store.core t now (only_step None) number worker refl refl
            (λ tx own. same_preserved store.core tx) refl so.fetched so));
      })

  -- what was read, of the block that was due
  module _ (made : Step) (read : HasReadBlock keeps_model store.device worker made device new) where
    abbrev pub then_worker : State
    then_worker = with_read (is_ok read.answer) read.io read.content worker

    abbrev pub one : Step
    one = step.Read read.io.block (is_ok read.answer)

    brought : Option Fetch
    brought = Some (record { block = read.io.block; content = read.content })

    pub was_read : worker.phase ≡ Reading
        → TellsRead (b.first + 1) (entries_of t) worker (Some one) then_worker
        → IsMovedBy store.device (Some one) device
        → IsRunningOver o going.base then_store (fetches_of then_worker) (b.first + 1) b.tree (entries_of t)
        going.last
        → IsRunningOver o going.base then_store [] (b.first + 1) b.tree (entries_of t) going.last
        → IsRunState o (state_after run_state now (Some one)) then_store
        → (GoesWith worker store.core → GoesWith then_worker store.core) → LeftBy (Some made)
    was_read phase_is tells moved brings running state_agrees_then with =
        subst (λ (m : Step). LeftBy (Some m)) (sym read.made_is) (record {
          taken = taken (Some one) tells.may;
          device = moved;
          does = read.call.contents;
          running = running;
          is_run_state = state_agrees_then;
          stand = all_stand b going.base (worker_and_core worker store.core) (worker_and_core new store.core) t now (only_step (Some one))
              number workers later going.so_far list
              (leaves_by (ap (λ (s : State). s.begun.tx) read.worker) to_old to_new fetched)
              refl refl (others_then (Some one))
              (subst (λ (s : State). WillStand b going.base store.core t now (only_step (Some one)) number s)
              (sym read.worker) (record {
                stands = subst (λ (es : List Entry). IsWorkerAt (b.first + 1) es then_worker)
                    (sym (same_entries t (Some one))) tells.stands;
                at_work = read_work (is_ok read.answer) read.io read.content worker store.core phase_is so.at_work
                    with;
                progress = own_moves run_state.workers number _
                    ∙ ap (λ (p : Progress). progressed run_state.log.broken one p) so.progress
                    ∙ sym (tells.progress run_state.log.broken);
                fetched = brings.fetched;
              }));
        })
      where
        io_then : new.begun.io ≡ Some (record { block = read.io.block; content = read.content })
        io_then = ap (λ (s : State). s.begun.io) read.worker

        to_old : (block : BlockNo) → IsFetchAt block new.begun.io → IsFetchAt block worker.begun.io
        to_old block at = subst (IsFetchAt block) (sym read.io_is) (subst (IsFetchAt block) io_then at)

        to_new : (block : BlockNo) → IsFetchAt block worker.begun.io → IsFetchAt block new.begun.io
        to_new block at = subst (IsFetchAt block) (sym io_then) (subst (IsFetchAt block) read.io_is at)

        fetched : IsFetchedBy store.core new.begun.io
        fetched = subst (IsFetchedBy store.core) (sym io_then) (subst (IsFetchedBy store.core) read.io_is pending)

  pub left_by : (made : Option Step) → MakesRead keeps_model store.device worker made device new
      → IsMovedBy store.device None store.device
      → ((worker.phase ≡ Reading → ⊥) → TellsRead (b.first + 1) (entries_of t) worker None worker)
      → ((one : Step) → worker.phase ≡ Reading → HasReadBlock keeps_model store.device worker one device new
      → LeftBy (Some one))
      → LeftBy made
  left_by None reads still none due = none_due reads.0 reads.1 (none reads.2) still
  left_by (Some one) reads still none due = due one reads.0 reads.1
