-- A run goes on with an event that commits nothing and ends no call: its step is all that is told with it.
use Rattle.std.proofs.Common.{◌≡◌, refl, sym, subst, ℕ, ◌+◌, List, [], Option, Some, None, take, arith}
use Rattle.std.proofs.lemmas.Option.{slice_get_within}
use Rattle.disk.specs.Crash.{Image}
use Rattle.disk.specs.Device.{current}
use Rattle.nfs_spec.specs.Model.Entry.{Entry}
use Rattle.nfs_spec.specs.Procedures.After.{after as leads_to}
use Rattle.nfs_spec.specs.Model.Tree.{Tree}
use Rattle.store_promise.specs.declared.events.Event.{Event}
use Rattle.store_promise.specs.declared.events.Step.{Step}
use Rattle.store_promise.specs.declared.transcript.Run.{Run}
use Rattle.store_promise.specs.DeviceCalls.{DoesStepBy}
use Rattle.store_promise.specs.Headline.{StandsAfter}
use Rattle.store_promise.specs.Running.{IsMovedBy, IsRunningOver, IsRunState, StoreState}
use Rattle.store_promise.specs.Schedule.{IsOfOne, Setting, state_after, worker_of}
use Rattle.store_promise.specs.EventSteps.{IsTaken}
use Rattle.store_promise.specs.Transcript.{Transcript, entries_of, transcript_of}
use Rattle.store_law.specs.Runs.Tracing.{TellsOfEvent, state_now, with_traced}
use Rattle.store_law.specs.Runs.Run.{Beginning, GoesOn, IsRun}
use Rattle.store.specs.Runs.Going.{IsGoing, IsNextEvent, TracesStep}
use Rattle.store_workers.specs.Unaffected.{IsOneOf}
use Rattle.store_workers.specs.declared.workers.parts.State.{State}
use Rattle.store.proofs.RunsLemmas.GoingOn.{goes_on_with, same_entries, only_step, tells_step}
use Rattle.store.proofs.RunsLemmas.StayUnaffected.{AllWillStand, same_preserved, so_still}

-- what such an event leaves of a run: the entries that there were, over what was at home
pub record Leaves (b : Beginning) (now : Event) (o : Setting) (base : Image) (last : Tree) (t : Transcript)
    (old new : StoreState) (made : Option Step) (workers : List State) : Type 0 where
  pub taken : IsTaken o b.workers (state_now b.events t) now made
  pub device : IsMovedBy old.device made new.device
  pub does : DoesStepBy (state_now b.events t).log made (current old.device) (current new.device)
  pub running : IsRunningOver o base new [] (b.first + 1) b.tree (entries_of t) last
  pub is_run_state : IsRunState o (state_after (state_now b.events t) now made) new
  pub stand : AllWillStand b base new.core t now (only_step made) workers

-- where no step is made all stand as they did
none_moves : (b : Beginning) (now : Event) (store : StoreState) (workers : List State) (before : Run)
    (going : IsGoing b store workers before)
    → AllWillStand b going.base store.core (transcript_of before) now (only_step None) workers
none_moves b now store workers before going = record {
  count = going.so_far.count;
  each = λ number worker is. let so = going.so_far.each number worker is in
      so_still b going.base going.base store.core store.core (transcript_of before) now (only_step None) number
      worker refl refl (λ tx own. same_preserved store.core tx) refl so.fetched so;
  share = going.so_far.share;
}

-- an event of a worker that isn't there leaves all as it is
pub left_going : (b : Beginning) (now : Event) (store : StoreState) (workers : List State) (before : Run)
    (going : IsGoing b store workers before) → (IsOfOne b.workers (worker_of now) → ⊥)
    → IsMovedBy store.device None store.device
    → Leaves b now going.setting going.base going.last (transcript_of before) store store None workers
left_going b now store workers before going absent still = record {
  taken = record { own = λ one. absurd (absent one); others = λ none. refl };
  device = still;
  does = λ block. refl;
  running = going.run.running;
  is_run_state = going.run.is_run_state;
  stand = none_moves b now store workers before going;
}

-- the number is that of a worker of the run
pub is_there : (b : Beginning) (store : StoreState) (workers : List State) (before : Run) (number : ℕ)
    (worker : State) → IsGoing b store workers before → IsOneOf workers number worker
    → IsOfOne b.workers (Some number)
is_there b store workers before number worker going is =
    let within = slice_get_within workers number worker is in
    let count = going.so_far.count in omega (arith, within, count)

module _ (b : Beginning) (now : Event) (old new : StoreState) (made : Option Step) (workers later : List State)
    (before after : Run) (is_next : IsNextEvent b now before) (traces : TracesStep made before after)
    (going : IsGoing b old workers before)
    (left : Leaves b now going.setting going.base going.last (transcript_of before) old new made later) where
  abbrev pub t : Transcript
  t = transcript_of before

  abbrev o : Setting
  o = going.setting

  pub goes : TellsOfEvent b.events t now (only_step made)
      → GoesOn b o t old (only_step made) o going.base new [] going.last
  goes tells = record {
    event = now;
    next = is_next.next;
    taken = left.taken;
    traces = tells;
    device = left.device;
    does = left.does;
    same = refl;
    blocks = λ place within. refl;
    running = subst (λ (es : List Entry). IsRunningOver o going.base new [] (b.first + 1) b.tree es going.last)
        (sym (same_entries t made)) left.running;
    is_run_state = left.is_run_state;
    leads = subst (λ (es : List Entry). leads_to b.tree es going.last) (sym (same_entries t made))
        going.run.leads;
    files = λ place. subst (λ (es : List Entry). StandsAfter o.geometry b.tree (take place es) (o.blocks place))
        (sym (same_entries t made)) (going.run.files place);
    changes = tt;
  }

  pub goes_on : IsRun b o (with_traced t (only_step made)) going.base new [] going.last
      → state_now b.events (with_traced t (only_step made)) ≡ state_after (state_now b.events t) now made
      → IsGoing b new later after
  goes_on run state_agrees_then = goes_on_with b o going.base going.last new later before after (only_step made) now
      (tells_step made before after traces) run state_agrees_then left.stand
