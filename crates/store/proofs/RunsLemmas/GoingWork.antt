-- A run goes on with a step of its worker's work.
use Rattle.std.proofs.Common.{◌≡◌, ◌∙◌, refl, sym, ap, subst, ℕ, zero, suc, ◌+◌, ◌<◌, ◌≤◌, ◌++◌, ◌∷◌, [], arith}
use Rattle.std.proofs.Common.{Bool, true, false, not, ◌&&◌, if◌then◌else◌, nat_le, List, map, length, take}
use Rattle.std.proofs.Common.{slice_get}
use Rattle.std.proofs.Common.{Option, Some, None, length-append}
use Rattle.std.proofs.lemmas.Bool.{le-leb, lt-leb, leb-true, leb-false}
use Rattle.std.proofs.lemmas.List.{append-nil, length-map, map-append, take-append-le, take_all}
use Rattle.std.proofs.lemmas.List.Elements.{All-nil}
use Rattle.std.specs.Prelude.{All, IsSomeAnd}
use Rattle.disk.specs.declared.block.BlockNo.{BlockNo}
use Rattle.disk.specs.Crash.{Image}
use Rattle.disk.specs.Device.{current}
use Rattle.base.specs.declared.TheConstants.{BLOCK_BYTES}
use Rattle.layout.specs.declared.geometry.Geometry.{Geometry}
use Rattle.layout.specs.Stands.{Stands}
use Rattle.nfs_spec.specs.Model.Entry.{Entry}
use Rattle.nfs_spec.specs.Procedures.After.{after as leads_to}
use Rattle.nfs_spec.specs.Model.Tree.{Tree}
use Rattle.nfs_spec.proofs.ProceduresLemmas.Joined.{push}
use Rattle.txn_law.specs.Core.{CoreState}
use Rattle.txn_law.specs.Group.{blocks_of}
use Rattle.circ.specs.declared.log.outcomes.Seq.{Seq}
use Rattle.store_promise.proofs.RulesAre.{to_run_rule}
use Rattle.store_promise.specs.declared.events.Committing.TheVariants as committing
use Rattle.store_promise.specs.declared.events.Event.TheVariants as event
use Rattle.store_promise.specs.declared.events.Step.{Step}
use Rattle.store_promise.specs.declared.events.Step.TheVariants as step
use Rattle.store_promise.specs.declared.transcript.Answer.{Answer}
use Rattle.store_promise.specs.declared.transcript.Committed.{Committed}
use Rattle.store_promise.specs.declared.transcript.Run.{Run}
use Rattle.store_promise.specs.Changes.{PreservesOthers}
use Rattle.store_promise.specs.Headline.{StandsAfter}
use Rattle.store_promise.specs.History.{ctx_of}
use Rattle.store_promise.specs.OpenSince.{HasFileBlocks, file_blocks}
use Rattle.store_promise.specs.Progress.{Again, At, Begun, Called, Idle, Job, Planning, Progress, Read, Reading}
use Rattle.store_promise.specs.Progress.{Refused, Stage, Waiting, is_idle, progressed}
use Rattle.store_promise.specs.Running.{IsFetchOver, IsMovedBy, IsRunningOver, IsRunState, StoreState, with_blocks}
use Rattle.nfs_spec.specs.Model.Calls.{begins_transaction}
use Rattle.store_promise.specs.Waiting.{AreTakenBy, HasTakenWell}
use Rattle.store_promise.specs.declared.lock_requests.LockRequest.{LockRequest}
use Rattle.store_promise.proofs.KnownLockRequests.{taken_well}
use Rattle.store_promise.specs.Schedule.{IsStepRetakingFirst, IsStepOfCalled, IsStepOfWork, Setting, RunState, state_after}
use Rattle.store_promise.specs.EventSteps.{IsTaken}
use Rattle.store_promise.specs.LogStateOf.{log_state_of}
use Rattle.store_promise.specs.Transcript.{Transcript, calls_device, entries_of, entry_of, transcript_of}
use Rattle.store_promise.proofs.DeviceCalls.{does_nothing}
use Rattle.store_law.specs.Runs.Tracing.{IsAnswerOf, IsEntryOf, Traced, TellsOfEvent, clock_now}
use Rattle.store_law.specs.Runs.Tracing.{commits, ends, listed, progress_now, state_now, with_traced}
use Rattle.store_law.specs.Runs.Run.{Beginning, ChangesOwn, ChangesOwnIn, GoesOn, IsRun}
use Rattle.store.specs.Runs.AtWork.{GoesOnWith, IsAtWork, IsSeenIn, entry_by, fetches_of}
use Rattle.store.specs.Runs.AtWork.{has_committed, with_core}
use Rattle.store.specs.Runs.Going.{IsGoing, IsNextEvent, IsAtStage, PreservesCore, TracesStep}
use Rattle.store_workers.specs.Tracing.{TracesAnswers, TracesHistory, TracesProcedure, TracesWork}
use Rattle.store_workers.specs.Seen.{Seen, seen_in}
use Rattle.store_workers.specs.Stages.{IsWorkerAt, claimed_in, held_in, progress_of}
use Rattle.store_workers.specs.Traces.{committed_by}
use Rattle.store_workers.specs.RunReports.{HasWorked, entries_traced, reported}
use Rattle.store_workers.specs.WorkTells.{HasReplies, progress_after}
use Rattle.store_workers.specs.WorkerSteps.{WorkerAndCore, worker_and_core}
use Rattle.store_workers.specs.declared.workers.parts.State.{State}
use Rattle.store.proofs.RunsLemmas.GoingUncommitted.{is_there}
use Rattle.store.proofs.RunsLemmas.GoingOn.{goes_on_with, with_fetches}
use Rattle.store.proofs.RunsLemmas.StayUnaffected.{AllWillStand, all_stand, others_stay, own_moves}
use Rattle.store_workers.specs.Unaffected.{LeavesOthers, Replaces}
use Rattle.store.proofs.RunsLemmas.OwnChanges.{preserves_others, preserves_unnamed, planned_has}

-- ---- a step of work is no call of the device

none_calls : (made : Option Step) → made ≡ None → calls_device made ≡ false
none_calls made none = ap calls_device none

some_calls : (made : Step) (one : Step) → made ≡ one → calls_device (Some one) ≡ false
    → calls_device (Some made) ≡ false
some_calls made one is none = ap (λ (s : Step). calls_device (Some s)) is ∙ none

module _ (o : Setting) (run_state : RunState) (worker : ℕ) where
  within : (left : List LockRequest) (begun : Begun) (made : Step) → IsStepRetakingFirst left o run_state worker begun made
      → calls_device (Some made) ≡ false
  within [] begun (step.Read block ok) is = absurd is
  within [] begun (step.LogIo ok) is = absurd is
  within [] begun (step.InstIo ok) is = absurd is
  within [] begun _ is = refl
  within (next ∷ later) begun (step.Read block ok) is = absurd is
  within (next ∷ later) begun (step.LogIo ok) is = absurd is
  within (next ∷ later) begun (step.InstIo ok) is = absurd is
  within (next ∷ later) begun _ is = refl

  by_stage : (job : Job) (stage : Stage) (made : Option Step) → IsStepOfWork o run_state worker (At job stage) made
      → calls_device made ≡ false
  by_stage job (Called known) None is = refl
  by_stage job (Called known) (Some (step.Read block ok)) is = by_rules (begins_transaction job.call) is
    where
      by_rules : (rules : Bool) → IsStepOfCalled run_state rules (step.Read block ok)
          → calls_device (Some (step.Read block ok)) ≡ false
      by_rules true is = absurd is
      by_rules false is = cc
  by_stage job (Called known) (Some (step.LogIo ok)) is = by_rules (begins_transaction job.call) is
    where
      by_rules : (rules : Bool) → IsStepOfCalled run_state rules (step.LogIo ok)
          → calls_device (Some (step.LogIo ok)) ≡ false
      by_rules true is = absurd is
      by_rules false is = cc
  by_stage job (Called known) (Some (step.InstIo ok)) is = by_rules (begins_transaction job.call) is
    where
      by_rules : (rules : Bool) → IsStepOfCalled run_state rules (step.InstIo ok)
          → calls_device (Some (step.InstIo ok)) ≡ false
      by_rules true is = absurd is
      by_rules false is = cc
  by_stage job (Called known) (Some _) is = refl
  by_stage job (Planning begun) None is = refl
  by_stage job (Planning begun) (Some made) is = within begun.left begun made is
  by_stage job (Reading begun taken) made is = none_calls made is
  by_stage job (Read begun taken ok) None is = refl
  by_stage job (Read begun taken true) (Some made) is = some_calls made _ is refl
  by_stage job (Read begun taken false) (Some made) is = some_calls made _ is refl
  by_stage job (Refused begun why) None is = refl
  by_stage job (Refused begun why) (Some made) is = some_calls made _ is refl
  by_stage job (Again begun request) None is = refl
  by_stage job (Again begun request) (Some made) is = some_calls made _ is refl
  by_stage job (Waiting place) None is = refl
  by_stage job (Waiting place) (Some (step.Read block ok)) is = absurd is
  by_stage job (Waiting place) (Some (step.LogIo ok)) is = absurd is
  by_stage job (Waiting place) (Some (step.InstIo ok)) is = absurd is
  by_stage job (Waiting place) (Some _) is = refl

  pub work_calls_nothing : (progress : Progress) (made : Option Step) → IsStepOfWork o run_state worker progress made
      → calls_device made ≡ false
  work_calls_nothing Idle made is = none_calls made is
  work_calls_nothing (At job stage) made is = by_stage job stage made is

-- ---- what was noted

-- a procedure more, or none
pub data Tracing (boot number clock : ℕ) (progress : Progress) (made : Option Step) (before mid : Run) : Type 0
  where
    with_one : (added : List BlockNo) (place : Seq) → made ≡ Some (step.Commit added (committing.Committed place))
        → TracesProcedure boot number clock progress place.0 before mid
        → Tracing boot number clock progress made before mid
    with_none : has_committed made ≡ false → commits made ≡ false → mid.history.items ≡ before.history.items
        → Tracing boot number clock progress made before mid

pub tracing : (boot number clock : ℕ) (progress : Progress) (made : Option Step) (before mid : Run)
    → TracesHistory boot number clock progress made before mid → Tracing boot number clock progress made before mid
tracing boot number clock progress (Some (step.Commit added (committing.Committed place))) before mid is =
    with_one added place refl is
tracing boot number clock progress (Some (step.Commit added committing.Full)) before mid is = with_none refl refl is
tracing boot number clock progress (Some (step.Commit added committing.Foreign)) before mid is = with_none refl refl is
tracing boot number clock progress (Some (step.Commit added (committing.NoMemory error))) before mid is = with_none refl refl is
tracing boot number clock progress (Some (step.Commit added committing.Broken)) before mid is = with_none refl refl is
tracing boot number clock progress (Some (step.Commit added committing.Spent)) before mid is = with_none refl refl is
tracing boot number clock progress None before mid is = with_none refl refl is
tracing boot number clock progress (Some _) before mid is = with_none refl refl is

found_entry : (cs : List Committed) (index : ℕ) (e : Entry) → slice_get (map entry_of cs) index ≡ Some e
    → (c : Committed) × (slice_get cs index ≡ Some c) × (c.reply ≡ e.reply)
found_entry [] index e is = cc
found_entry (c ∷ cs) zero e is =
    let same : entry_of c ≡ e = cc in
    (c, refl, ap (λ (e : Entry). e.reply) same)
found_entry (c ∷ cs) (suc index) e is = found_entry cs index e is

pub has_replies : (t : Transcript) (cs : List Committed) → t.history ≡ cs → HasReplies t (map entry_of cs)
has_replies t cs same zero e is = cc
has_replies t cs same (suc index) e is =
    let found = found_entry cs index e is in
    (found.0, ap (λ (xs : List Committed). slice_get xs index) same ∙ found.1, found.2)

both_true : (one other : Bool) → (one && other) ≡ true → other ≡ true
both_true true other is = is
both_true false other is = cc

-- ---- the event

module _ (b : Beginning) (number clock : ℕ) (store : StoreState) (workers all_then : List State) (worker new : State)
    (core : CoreState) (made : Option Step)
    (before mid after : Run) (is_next : IsNextEvent b (event.Work number) before)
    (going : IsGoing b store workers before) (list : Replaces workers number worker new all_then)
    (clock_is : clock ≡ clock_now (transcript_of before))
    (worked : HasWorked number clock (worker_and_core worker store.core) made (worker_and_core new core) before mid)
    (is_preserved : PreservesCore (worker_and_core worker store.core) (worker_and_core new core)) (last_trace : TracesStep made mid after)
    (traces : TracesWork (b.first + 1) number clock (worker_and_core worker store.core) made (worker_and_core new core) before mid)
    (may : IsStepOfWork going.setting (state_now b.events (transcript_of before)) number
    (progress_of worker) made) where
  abbrev pub t : Transcript
  t = transcript_of before

  abbrev pub o : Setting
  o = going.setting

  abbrev pub boot : ℕ
  boot = b.first + 1

  abbrev pub so : IsAtStage b going.base store.core t number worker
  so = going.so_far.each number worker list.was

  abbrev pub so_far : RunState
  so_far = state_now b.events t

  abbrev pub state_then : RunState
  state_then = state_after so_far (event.Work number) made

  -- the entry
  pub record EntryPart : Type 0 where
    pub entry : Option Committed
    pub history : mid.history.items ≡ before.history.items ++ listed entry
    pub is_of : IsEntryOf b.events t (event.Work number) made entry

  pub entry_of_one : (added : List BlockNo) (place : Seq) → made ≡ Some (step.Commit added (committing.Committed place))
      → TracesProcedure boot number clock (progress_of worker) place.0 before mid → EntryPart
  entry_of_one added place made_is n = record {
    entry = Some n.committed;
    history = n.history;
    is_of = record {
      event_is = ap event.Work (sym n.worker);
      blocks = added;
      made_is = made_is ∙ ap (λ (at : ℕ). Some
          (step.Commit added (committing.Committed (record { 0 = at })))) n.next;
      job = n.job;
      begun = n.begun;
      planned = ap (λ (w : ℕ). progress_now b.events t w) n.worker ∙ so.progress ∙ n.planned;
      ctx = n.ctx ∙ ap (λ (boot : ℕ). ctx_of boot n.job n.begun) (sym going.run.boot);
      call = n.call;
      event = n.event;
      clock = n.clock_is ∙ clock_is;
    };
  }

  pub entry_part : Tracing boot number clock (progress_of worker) made before mid → EntryPart
  entry_part (with_one added place made_is n) = entry_of_one added place made_is n
  entry_part (with_none uncommitted no_commit same) = record {
    entry = None;
    history = same ∙ sym (append-nil before.history.items);
    is_of = no_commit;
  }

  abbrev pub e : EntryPart
  e = entry_part (tracing boot number clock (progress_of worker) made before mid traces.history)

  -- how far the worker is then
  broken_is : so_far.log.broken ≡ store.core.log.broken
  broken_is = ap (λ log. log.broken) going.run.is_run_state.log

  progress_by : (m : Option Step) → progress_of new ≡ progress_after store.core.log.broken m
      (progress_of worker)
      → (state_after so_far (event.Work number) m).workers number ≡ progress_of new
  progress_by None is = so.progress ∙ sym is
  progress_by (Some one) is = own_moves so_far.workers number _
      ∙ ap (λ (p : Progress). progressed so_far.log.broken one p) so.progress
      ∙ ap (λ (t : Bool). progressed t one (progress_of worker)) broken_is ∙ sym is

  pub progress_then : state_then.workers number ≡ progress_of new
  progress_then = progress_by made traces.progress

  -- the answer
  abbrev ends_now : Bool
  ends_now = not (is_idle (progress_of worker)) && is_idle (progress_of new)

  ends_is : ends so_far (event.Work number) made ≡ ends_now
  ends_is = λ i. not (is_idle (so.progress i)) && is_idle (progress_then i)

  pub record AnswerPart : Type 0 where
    pub answer : Option Answer
    pub answers : mid.answers.items ≡ before.answers.items ++ listed answer
    pub is_of : (other : Transcript) → HasReplies other (entries_of (transcript_of mid))
        → IsAnswerOf b.events t other (event.Work number) made answer

  pub answer_part : (now : Bool) → ends_now ≡ now
      → TracesAnswers now number clock (progress_of worker) made before mid → AnswerPart
  answer_part true is n = record {
    answer = Some n.answer;
    answers = n.answers;
    is_of = λ other replies. record {
      event_is = ap event.Work (sym n.worker);
      job = n.job;
      stage = n.stage;
      so_far = ap (λ (w : ℕ). progress_now b.events t w) n.worker ∙ so.progress ∙ n.so_far;
      step = n.step;
      made_is = n.made_is;
      ends = ap (λ (w : ℕ). is_idle (state_then.workers w)) n.worker ∙ ap is_idle progress_then
          ∙ both_true (not (is_idle (progress_of worker))) (is_idle (progress_of new)) is;
      verdict = n.verdict other replies;
      event = n.event;
      clock = n.clock_is ∙ clock_is;
    };
  }
  answer_part false is same = record {
    answer = None;
    answers = same ∙ sym (append-nil before.answers.items);
    is_of = λ other replies. ends_is ∙ is;
  }

  abbrev pub a : AnswerPart
  a = answer_part ends_now refl traces.answers

  abbrev pub traced : Traced
  traced = record { entry = e.entry; answer = a.answer; made = made }

  pub same : transcript_of after ≡ with_traced t traced
  same = λ i. record {
    boot = (last_trace.boot ∙ traces.boot_is) i;
    history = (last_trace.history ∙ e.history) i;
    answers = (last_trace.answers ∙ a.answers) i;
    steps = (last_trace.steps ∙ ap (λ steps. steps.items ++ made ∷ []) traces.steps) i;
  }

  pub entries_are : entries_of (with_traced t traced) ≡ entries_of (transcript_of mid)
  entries_are = ap (map entry_of) (sym e.history)

  tells : TellsOfEvent b.events t (event.Work number) traced
  tells = record {
    entry = e.is_of;
    answer = a.is_of (with_traced t traced) (has_replies (with_traced t traced) mid.history.items (sym e.history));
  }

  taken : IsTaken o b.workers so_far (event.Work number) made
  taken = record {
    own = λ one. to_run_rule o so_far (event.Work number) made
        (subst (λ (p : Progress). IsStepOfWork o so_far number p made) (sym so.progress) may);
    others = λ none. absurd (none (is_there b store workers before number worker going list.was));
  }

  -- ---- the run with it
  abbrev then_store : StoreState
  then_store = with_core store core

  pub record Left (entry : Option Committed) : Type 0 where
    pub later : Setting
    pub next : Tree
    pub setting : later ≡ record o { blocks = later.blocks }
    pub blocks : (place : ℕ) → place ≤ length t.history → later.blocks place ≡ o.blocks place
    pub running : IsRunningOver later going.base then_store [] boot b.tree
        (entries_of (transcript_of mid)) next
    pub leads : leads_to b.tree (entries_of (transcript_of mid)) next
    pub files : (place : ℕ) → StandsAfter later.geometry b.tree (take place (entries_of (transcript_of mid)))
        (later.blocks place)
    pub changes : ChangesOwnIn b.opened.size b.events t later.blocks made entry

  module _ (left : Left e.entry) (state_agrees_then : IsRunState o state_then then_store)
      (moved : calls_device made ≡ false → IsMovedBy store.device made store.device) where
    pub goes : GoesOn b o t store traced left.later going.base then_store [] left.next
    goes = record {
      event = event.Work number;
      next = is_next.next;
      taken = taken;
      traces = tells;
      device = moved (work_calls_nothing o so_far number (progress_of worker) made may);
      does = does_nothing so_far.log.log_call so_far.log.inst_call made (current store.device)
          (current store.device) (work_calls_nothing o so_far number (progress_of worker) made may)
          (λ block. refl);
      same = left.setting;
      blocks = left.blocks;
      running = subst (λ (es : List Entry). IsRunningOver left.later going.base then_store []
          boot b.tree es left.next) (sym entries_are) left.running;
      is_run_state = record {
        log = state_agrees_then.log
            ∙ ap (λ (s : Setting). log_state_of s.position core.log store.logging store.installing)
            (sym left.setting);
        begun = state_agrees_then.begun;
        refused = state_agrees_then.refused;
      };
      leads = subst (λ (es : List Entry). leads_to b.tree es left.next) (sym entries_are) left.leads;
      files = λ place. subst (λ (es : List Entry). StandsAfter left.later.geometry b.tree (take place es)
          (left.later.blocks place)) (sym entries_are) (left.files place);
      changes = left.changes;
    }

    pub goes_on : IsRun b left.later (with_traced t traced) going.base then_store [] left.next
        → state_now b.events (with_traced t traced) ≡ state_then
        → AllWillStand b going.base core t (event.Work number) traced all_then → IsGoing b then_store all_then after
    goes_on run is_state_then stand = goes_on_with b left.later going.base left.next then_store all_then
        before after traced (event.Work number) same run is_state_then stand

  -- the others
  others_then : (m : Option Step) (other : ℕ) → (other ≡ number → ⊥)
      → (state_after so_far (event.Work number) m).workers other ≡ so_far.workers other
  others_then None other differs = refl
  others_then (Some one) other differs = others_stay so_far.workers number other _ differs

  -- and all workers, where this one is at work on the core, and fetches nothing
  pub stand : LeavesOthers (worker_and_core worker store.core) (worker_and_core new core) → core.log.blocks ≡ store.core.log.blocks
      → core.inodes ≡ store.core.inodes → IsAtWork new core → All (IsFetchOver going.base core) (fetches_of new)
      → AllWillStand b going.base core t (event.Work number) traced all_then
  stand left blocks inodes at_work fetched =
      all_stand b going.base (worker_and_core worker store.core) (worker_and_core new core) t (event.Work number) traced number workers all_then
      going.so_far list left blocks inodes (others_then made) (record {
        stands = subst (λ (es : List Entry). IsWorkerAt boot es new) (sym entries_are) traces.stands;
        at_work = at_work;
        progress = progress_then;
        fetched = fetched;
      })

  -- ---- what it leaves, with a place and without
  module _ (state_is : new ≡ reported worked.state) where
    abbrev step_to : WorkerAndCore
    step_to = worker_and_core worked.state core

    log_unchanged : has_committed made ≡ false → mid.history.items ≡ before.history.items
        → IsRunningOver o going.base then_store [] boot b.tree (entries_of t)
        going.last → Left None
    log_unchanged uncommitted history running = record {
      later = o;
      next = going.last;
      setting = refl;
      blocks = λ place within. refl;
      running = subst (λ (cs : List Committed). IsRunningOver o going.base then_store [] boot b.tree
          (map entry_of cs) going.last) (sym history) running;
      leads = subst (λ (cs : List Committed). leads_to b.tree (map entry_of cs) going.last) (sym history)
          going.run.leads;
      files = λ place. subst (λ (cs : List Committed). StandsAfter o.geometry b.tree
          (take place (map entry_of cs)) (o.blocks place)) (sym history) (going.run.files place);
      changes = tt;
    }

    module _ (goes_with : GoesOnWith o going.base store step_to boot number b.tree (entries_of t) going.last
        made (worker_and_core worker store.core))
        (has_files : HasFileBlocks going.base core goes_with.left)
        (one_geometry : (g h : Geometry) → g.version ≡ h.version → g.blocks ≡ h.blocks → g.inodes ≡ h.inodes → g ≡ h)
        (before_it : o.blocks (length t.history) ≡ file_blocks going.base store.core) where
      abbrev entry : Entry
      entry = entry_by number goes_with.taken.entry

      abbrev now : Image
      now = file_blocks going.base core

      abbrev then_set : Setting
      then_set = with_blocks o (length (entries_of t)) now

      history_is : mid.history.items ≡ before.history.items
          ++ entries_traced number (length before.steps.items) clock (Some goes_with.taken.entry)
      history_is = worked.tells.history
          ∙ ap (λ ready. before.history.items ++ entries_traced number (length before.steps.items) clock ready)
          (ap (λ m. committed_by m worked.state) goes_with.taken.named ∙ goes_with.taken.ready)

      entries_then : entries_of (transcript_of mid) ≡ entries_of t ++ entry ∷ []
      entries_then = ap (map entry_of) history_is ∙ map-append entry_of before.history.items
          (entries_traced number (length before.steps.items) clock (Some goes_with.taken.entry))

      early : (place : ℕ) → place ≤ length (entries_of t) → then_set.blocks place ≡ o.blocks place
      early place few = ap (λ (t : Bool). if t then o.blocks place else now)
          (le-leb place (length (entries_of t)) few)

      late : (place : ℕ) → length (entries_of t) < place → then_set.blocks place ≡ now
      late place many = ap (λ (t : Bool). if t then o.blocks place else now)
          (lt-leb place (length (entries_of t)) many)

      leads : leads_to b.tree (entries_of t ++ entry ∷ []) goes_with.left
      leads = push b.tree going.last goes_with.left (entries_of t) entry going.run.leads goes_with.goes

      stands_now : Stands o.geometry now goes_with.left
      stands_now = subst (λ (g : Geometry). Stands g now goes_with.left)
          (one_geometry has_files.geometry o.geometry (has_files.newest ∙ sym goes_with.runs.newest)
          (has_files.blocks ∙ sym goes_with.runs.blocks)
          (has_files.inodes ∙ sym goes_with.runs.inodes)) has_files.stands

      files_by : (place : ℕ) (few : Bool) → nat_le place (length (entries_of t)) ≡ few
          → StandsAfter o.geometry b.tree (take place (entries_of t ++ entry ∷ [])) (then_set.blocks place)
      files_by place true is =
          let within = leb-true place (length (entries_of t)) is in
          let had = going.run.files place in
          record {
            left = had.left;
            leads = subst (λ (es : List Entry). leads_to b.tree es had.left)
                (sym (take-append-le place (entries_of t) (entry ∷ []) within)) had.leads;
            stands = subst (λ (image : Image). Stands o.geometry image had.left)
                (sym (early place within)) had.stands;
          }
      files_by place false is =
          let past = leb-false place (length (entries_of t)) is in
          let long = length-append (entries_of t) (entry ∷ []) in
          record {
            left = goes_with.left;
            leads = subst (λ (es : List Entry). leads_to b.tree es goes_with.left)
                (sym (take_all place (entries_of t ++ entry ∷ []) (omega (arith, past, long)))) leads;
            stands = subst (λ (image : Image). Stands o.geometry image goes_with.left)
                (sym (late place past)) stands_now;
          }

      -- the blocks that it changed
      counted : length (entries_of t) ≡ length t.history
      counted = length-map before.history.items entry_of

      others : (j : Job) (begun : Begun) → progress_of worker ≡ At j (Planning begun) → (seen : Option Seen)
          → seen_in worker.work.planner ≡ seen → IsSomeAnd seen
          (λ seen. All (IsSeenIn seen) goes_with.taken.plan.written)
          → PreservesOthers b.opened.size begun (file_blocks going.base store.core) now
      others j begun planned None is own = absurd own
      others j begun planned (Some seen) is own =
          let has = planned_has worker j begun planned in
          let had = going.run.files (length t.history) in
          let had_well : AreTakenBy o.geometry begun = subst (HasTakenWell o.geometry) (so.progress ∙ planned)
          (taken_well o b.workers b.events t.steps going.run.well.taken (length t.steps) number) in
          subst (λ (image : Image). PreservesOthers b.opened.size begun (file_blocks going.base store.core) image)
          (sym goes_with.writes)
          (preserves_others o.geometry b.opened.size begun seen (file_blocks going.base store.core)
          goes_with.taken.plan.written had_well
          (has.0 ∙ ap held_in is) (has.1 ∙ ap claimed_in is) own goes_with.taken.took.group.sizes
          (λ block within. subst (λ (image : Image). length (image block) ≡ BLOCK_BYTES) before_it
          (had.stands.bytes block (let same = going.run.geometry.blocks in omega (arith, within, same))).0))

      changes : (committed : Committed) (j : Job) (begun : Begun) → committed.worker ≡ number
          → progress_of worker ≡ At j (Planning begun)
          → ChangesOwn b.opened.size b.events t then_set.blocks made committed
      changes committed j begun worker_is planned = record {
        job = j;
        begun = begun;
        planned = ap (λ (w : ℕ). progress_now b.events t w) worker_is ∙ so.progress ∙ planned;
        named = blocks_of goes_with.taken.plan.written;
        made_is = goes_with.taken.named ∙ ap (λ (at : ℕ). Some (step.Commit (blocks_of goes_with.taken.plan.written)
            (committing.Committed (record { 0 = at })))) (goes_with.next ∙ ap (λ (n : ℕ). n + 1) counted);
        others = subst (λ (next : Image). PreservesOthers b.opened.size begun
            (then_set.blocks (length t.history)) next)
            (sym (late (length t.history + 1) (let same = counted in omega (arith, same))))
            (subst (λ (here : Image). PreservesOthers b.opened.size begun here now)
            (sym (early (length t.history) (let same = counted in omega (arith, same)) ∙ before_it))
            (others j begun planned (seen_in worker.work.planner) refl goes_with.taken.own));
        unnamed = λ block within lacks.
            ap (λ (image : Image). image block.0)
            (late (length t.history + 1) (let same = counted in omega (arith, same)) ∙ goes_with.writes)
            ∙ preserves_unnamed b.opened.size (file_blocks going.base store.core) goes_with.taken.plan.written block within
            lacks
            ∙ sym (ap (λ (image : Image). image block.0)
            (early (length t.history) (let same = counted in omega (arith, same)) ∙ before_it));
      }

      pub committed : (n : Committed) → ChangesOwn b.opened.size b.events t then_set.blocks made n
          → Left (Some n)
      committed n changed = record {
        later = then_set;
        next = goes_with.left;
        setting = refl;
        blocks = λ place within. early place (let long = length-map before.history.items entry_of in
            omega (arith, within, long));
        running = subst (λ (es : List Entry). IsRunningOver then_set going.base then_store [] boot b.tree es
            goes_with.left) (sym entries_then)
            (with_fetches then_set going.base then_store (fetches_of worked.state) [] boot b.tree goes_with.left
            (entries_of t ++ entry ∷ []) goes_with.runs (All-nil (IsFetchOver going.base core)));
        leads = subst (λ (es : List Entry). leads_to b.tree es goes_with.left) (sym entries_then) leads;
        files = λ place. subst (λ (es : List Entry). StandsAfter o.geometry b.tree (take place es)
            (then_set.blocks place)) (sym entries_then)
            (files_by place (nat_le place (length (entries_of t))) refl);
        changes = changed;
      }

    -- by whether it took a place
    pub left_by : (has_committed made ≡ false
        → IsRunningOver o going.base then_store [] boot b.tree (entries_of t) going.last)
        → (has_committed made ≡ true →
        (goes : GoesOnWith o going.base store step_to boot number b.tree (entries_of t) going.last
        made (worker_and_core worker store.core)) × HasFileBlocks going.base core goes.left)
        → ((g h : Geometry) → g.version ≡ h.version → g.blocks ≡ h.blocks → g.inodes ≡ h.inodes → g ≡ h)
        → o.blocks (length t.history) ≡ file_blocks going.base store.core
        → (n : Tracing boot number clock (progress_of worker) made before mid) → Left (entry_part n).entry
    unfolding entry_part entry_of_one
    left_by still took one_geometry before_it (with_one added place made_is n) =
        let goes = took (ap has_committed made_is) in
        committed goes.0 goes.1 one_geometry before_it n.committed
        (changes goes.0 goes.1 one_geometry before_it n.committed n.job n.begun n.worker n.planned)
    left_by still took one_geometry before_it (with_none uncommitted no_commit same) =
        log_unchanged uncommitted same (still uncommitted)
