-- A call that is under way stays so with each step of its worker, or is answered by it.
use Rattle.std.proofs.Common.{arith, ◌≡◌, ◌∙◌, refl, sym, ap, subst, true≢false, ℕ, suc, ◌+◌, ◌-◌, ◌≤◌, inr}
use Rattle.std.proofs.Common.{Bool, true, false, not, ◌&&◌, Option, Some, None, IfSome, Ok, Err, is_some}
use Rattle.std.proofs.Common.{List, [], ◌∷◌, ◌++◌, drop, length, map, option_to_list}
use Rattle.std.specs.Prelude.{nat_eq, if◌then◌else◌, IsSomeAnd}
use Rattle.std.proofs.lemmas.Bool.Decides.{nat_tests}
use Rattle.std.proofs.lemmas.List.{append-nil}
use Rattle.disk.specs.Crash.{Image}
use Rattle.disk.specs.Device.{Content, Device}
use Rattle.disk.specs.declared.block.BlockNo.{BlockNo}
use Rattle.objects.specs.declared.addr.Addr.{Addr}
use Rattle.objects.specs.declared.mode.Mode.{Mode}
use Rattle.nfs_spec.specs.Model.Entry.{Entry}
use Rattle.nfs_spec.specs.Model.Calls.{begins_transaction, is_answered_stable}
use Rattle.nfs_spec.specs.Procedures.Step as procedures
use Rattle.nfs_spec.specs.Model.Tree.{Tree}
use Rattle.layout.specs.declared.geometry.Geometry.{Geometry}
use Rattle.txn_law.specs.Fetch.{Fetch}
use Rattle.txn_law.specs.Group.{blocks_of}
use Rattle.circ.specs.Log.Calls.{idle}
use Rattle.circ.specs.Log.Grows.{GrowsBy}
use Rattle.circ.specs.Log.Log.{Log, added_blocks, installed_place, place_before, settled_place}
use Rattle.circ.specs.declared.log.change.LogChange.{LogChange}
use Rattle.circ.specs.declared.log.outcomes.Seq.{Seq}
use Rattle.txn.specs.declared.outcomes.BeginFault.TheVariants as begin_fault
use Rattle.store_promise.specs.LogState.{state_added}
use Rattle.store_promise.specs.History.{ctx_of}
use Rattle.store_promise.specs.OpenSince.{HasPreservedFiles, LeavesLogUnchanged, blocks_after, file_blocks}
use Rattle.store_promise.specs.Progress.{Begun, Job, Progress, Stage, Taken, At, Called, Planning, going_on}
use Rattle.store_promise.specs.Progress.{is_idle, progressed}
use Rattle.store_promise.specs.Progress as how
use Rattle.store_promise.specs.Running.{IsRunningOver, IsRunState, StoreState, at_rest, store_log_state, with_blocks}
use Rattle.store_promise.specs.Schedule.{IsStepOfWork, Setting, RunState, begun_after, refused_after, state_after}
use Rattle.store_promise.specs.LogStateOf.{log_state_of}
use Rattle.store_promise.specs.Verdicts.{HasVerdict, IsReplyAt}
use Rattle.store_promise.specs.declared.answers.CallAnswer.{CallAnswer}
use Rattle.store_promise.specs.declared.answers.Entry as ready
use Rattle.store_promise.specs.declared.events.Cause.TheVariants as cause
use Rattle.store_promise.specs.declared.events.Committing.{Committing}
use Rattle.store_promise.specs.declared.events.Committing.TheVariants as committing
use Rattle.store_promise.specs.declared.events.Ending.{Ending}
use Rattle.store_promise.specs.declared.events.Ending.TheVariants as ending
use Rattle.store_promise.specs.declared.events.LockAnswer.{LockAnswer}
use Rattle.store_promise.specs.declared.events.LockAnswer.TheVariants as lock_answer
use Rattle.store_promise.specs.declared.events.Event.TheVariants as event
use Rattle.store_promise.specs.declared.events.Step.{Step}
use Rattle.store_promise.specs.declared.events.Step.TheVariants as step
use Rattle.store_promise.specs.declared.transcript.Answer.{Answer}
use Rattle.store_promise.proofs.Later.{past_none}
use Rattle.store_promise.proofs.LogStateIs.{settled_is}
use Rattle.store.specs.Runs.AtWork.{GoesOnWith, IsCoreAtWork, entry_by, fetches_of, has_committed, with_core}
use Rattle.store.specs.Calling.{ComesTo, HasCause, HasStepped, IsAfter, IsCalling, IsMadeFor, IsOpenAt, IsAtStage}
use Rattle.store.specs.Calling.{Outset}
use Rattle.store.specs.Calling.{StandsWith, Tells}
use Rattle.store_images.specs.Further.{IsFurther, end_of}
use Rattle.store_images.specs.Opening.{Opened}
use Rattle.store_workers.specs.Asked.{Asking}
use Rattle.store_workers.specs.Knowing.{Knowing}
use Rattle.store_promise.specs.declared.lock_requests.LockRequest.{LockRequest}
use Rattle.store_workers.specs.Stages.{IsWorkerAt, taken_as, at_fetch, at_stage, begun_of}
use Rattle.store_workers.specs.Stages.{progress_in, progress_of}
use Rattle.store_workers.specs.Seen.{seen_in}
use Rattle.store_workers.specs.RunReports.{reported}
use Rattle.store_workers.specs.WorkTells.{HasReplies, IsAnswerOf, IsEntryOf, TellsEntry, TellsStep}
use Rattle.store_workers.specs.WorkTells.{entries_ready, progress_after}
use Rattle.store_workers.specs.WorkTells.{with_ready}
use Rattle.store_workers.specs.WorkerSteps.{BeginsBy, GoesOn, WorkerAndCore, worker_and_core}
use Rattle.store_workers.specs.declared.workers.parts.Job.{Job as WorkJob}
use Rattle.store_workers.specs.declared.workers.parts.Phase as phases
use Rattle.store_workers.specs.declared.workers.parts.Phase.TheVariants as Phase
use Rattle.store_workers.specs.declared.workers.parts.State.{State}
use Rattle.store.proofs.RunsLemmas.AtWorkStays.{some_of}
use Rattle.store.proofs.RefusedChanges.{finds, is_spent, no_log_space}
use Rattle.store.proofs.CallStages.{IsStepFrom, begun_then as number_then, comes_then, made_at_stage}
use Rattle.store.proofs.CallStages.{made_tells}
use Rattle.store.proofs.CallStages.{next_ok, traced, same_entries, stands_then}
use Rattle.store.proofs.CallStages.{stage_then, tells_of, transcript_of_entries}
use Rattle.store.proofs.RunsLemmas.GoingWork.{has_replies}
use Rattle.store_images.proofs.StillOpen.{further_then}

-- ---- an open store as a run that goes on

-- a setting in which it does
abbrev pub setting_of : (base : Image) (now : Opened) (fetches : List Fetch) (first : Tree)
    (entries : List Entry) (last : Tree) → IsOpenAt base now fetches first entries last → Setting
setting_of base now fetches first entries last opened = record {
  geometry = opened.since.over.files.super.geometry;
  position = 0;
  blocks = λ place. blocks_after base now.core (place - installed_place now.core.log);
}

past_count : (n count : ℕ) → n + count - n ≡ count
past_count n count = omega arith

pub runs_of : (base : Image) (now : Opened) (fetches : List Fetch) (first : Tree)
    (entries : List Entry) (last : Tree) (opened : IsOpenAt base now fetches first entries last)
    → IsRunningOver (setting_of base now fetches first entries last opened) base
    (at_rest now.device now.core) fetches
    now.boot first entries last
runs_of base now fetches first entries last opened = record {
  since = opened.since;
  position = omega arith;
  blocks = opened.since.over.files.blocks_are;
  inodes = opened.since.over.files.inodes_are;
  newest = opened.since.over.files.newest;
  stands = opened.stands;
  fetched = opened.fetched;
  placed = λ count. ap (blocks_after base now.core) (past_count (installed_place now.core.log) count);
}

pub open_of : (o : Setting) (base : Image) (now : Opened) (fetches : List Fetch) (first : Tree)
    (entries : List Entry) (last : Tree)
    → IsRunningOver o base (at_rest now.device now.core) fetches now.boot first entries last
    → IsOpenAt base now fetches first entries last
open_of o base now fetches first entries last run = record {
  since = run.since;
  stands = run.stands;
  fetched = run.fetched;
}

-- what is told of it
abbrev pub state_when_opened : Opened → RunState
state_when_opened now = record {
  workers = λ worker. how.Idle;
  begun = now.core.begun;
  refused = now.core.refused;
  log = store_log_state 0 (at_rest now.device now.core);
}

pub state_agrees : (o : Setting) (now : Opened) → o.position ≡ 0
    → IsRunState o (state_when_opened now) (at_rest now.device now.core)
state_agrees o now none = record {
  log = ap (λ (n : ℕ). log_state_of n now.core.log idle idle) (sym none);
  begun = refl;
  refused = refl;
}

-- ---- replies

replies_of : (entries : List Entry) → HasReplies (transcript_of_entries entries) entries
replies_of entries =
    subst (HasReplies (transcript_of_entries entries)) (same_entries entries)
    (has_replies (transcript_of_entries entries) (map traced entries) refl)

-- an answer in a transcript
abbrev answer_of : CallAnswer → Answer
answer_of ready = record { worker = 0; verdict = ready.verdict; place = ready.place; event = 0; clock = 0 }

verdict_of : (entries : List Entry) (progress : Progress) (made : Option Step) (ready : CallAnswer)
    (is : IsAnswerOf entries progress made ready)
    → HasVerdict (transcript_of_entries entries) is.job.call is.stage is.step (answer_of ready)
verdict_of entries progress made ready is =
    is.verdict (transcript_of_entries entries) (answer_of ready) (replies_of entries) refl refl

-- ---- a step

both_true : (one other : Bool) → (one && other) ≡ true → other ≡ true
both_true true other is = is
both_true false other is = cc

no_entry : (boot places : ℕ) (progress : Progress) (made : Option Step) (entry : Option ready.Entry)
    → has_committed made ≡ false → TellsEntry boot places progress made entry → entry ≡ None
no_entry boot places progress (Some (step.Commit added (committing.Committed place))) entry not is =
    absurd (true≢false not)
no_entry boot places progress (Some (step.Commit added committing.Full)) entry not is = is
no_entry boot places progress (Some (step.Commit added committing.Foreign)) entry not is = is
no_entry boot places progress (Some (step.Commit added (committing.NoMemory error))) entry not is = is
no_entry boot places progress (Some (step.Commit added committing.Broken)) entry not is = is
no_entry boot places progress (Some (step.Commit added committing.Spent)) entry not is = is
no_entry boot places progress None entry not is = is
no_entry boot places progress (Some _) entry not is = is

pub record IsCommitStep (made : Option Step) : Type 0 where
  pub added : List BlockNo
  pub place : Seq
  pub made_is : made ≡ Some (step.Commit added (committing.Committed place))

commit_step : (made : Option Step) → has_committed made ≡ true → IsCommitStep made
commit_step (Some (step.Commit added (committing.Committed place))) has =
    record { added = added; place = place; made_is = refl }
commit_step (Some (step.Commit added committing.Full)) has = absurd (true≢false (sym has))
commit_step (Some (step.Commit added committing.Foreign)) has = absurd (true≢false (sym has))
commit_step (Some (step.Commit added (committing.NoMemory error))) has = absurd (true≢false (sym has))
commit_step (Some (step.Commit added committing.Broken)) has = absurd (true≢false (sym has))
commit_step (Some (step.Commit added committing.Spent)) has = absurd (true≢false (sym has))
commit_step None has = absurd (true≢false (sym has))
commit_step (Some _) has = absurd (true≢false (sym has))

-- transactions are only begun
begun_more : (begun : ℕ) (made : Step) → begun ≤ begun_after begun made
begun_more begun (step.Begun (Ok number)) = omega arith
begun_more begun _ = omega arith

begun_then : (run_state : RunState) (made : Option Step) → run_state.begun ≤ (state_after run_state (event.Work 0) made).begun
begun_then run_state None = omega arith
begun_then run_state (Some made) = begun_more run_state.begun made

-- and refusals are only counted
refused_more : (refused : ℕ) (made : Step) → refused ≤ refused_after refused made
refused_more refused (step.Begun (Ok number)) = omega arith
refused_more refused (step.Begun (Err begin_fault.Broken)) = omega arith
refused_more refused (step.Begun (Err begin_fault.Spent)) = omega arith
refused_more refused (step.Begun (Err (begin_fault.NoMemory error))) = omega arith
refused_more refused (step.Wanted addr mode answer) = by answer
  where
    by : (answer : LockAnswer) → refused ≤ refused_after refused (step.Wanted addr mode answer)
    by (lock_answer.NoMemory error) = omega arith
    by _ = omega arith
refused_more refused (step.Claimed block answer) = by answer
  where
    by : (answer : LockAnswer) → refused ≤ refused_after refused (step.Claimed block answer)
    by (lock_answer.NoMemory error) = omega arith
    by _ = omega arith
refused_more refused (step.Commit blocks answer) = by answer
  where
    by : (answer : Committing) → refused ≤ refused_after refused (step.Commit blocks answer)
    by (committing.NoMemory error) = omega arith
    by _ = omega arith
refused_more refused (step.Ended why) = by why
  where
    by : (why : Ending) → refused ≤ refused_after refused (step.Ended why)
    by (ending.NoMemory error) = omega arith
    by _ = omega arith
refused_more refused _ = omega arith

refused_then : (run_state : RunState) (made : Option Step)
    → run_state.refused ≤ (state_after run_state (event.Work 0) made).refused
refused_then run_state None = omega arith
refused_then run_state (Some made) = refused_more run_state.refused made

some_more : (n : ℕ) → nat_eq (suc n) 0 ≡ false
some_more n = grind (arith, nat_tests)

-- a group more takes no settled place back
settled_before : (changes : List LogChange) (none : Bool) (places : ℕ) → place_before changes places
    ≤ (if nat_eq (length changes) 0 && none then places + 1 else place_before changes places)
settled_before [] true places = omega arith
settled_before [] false places = omega arith
settled_before (change ∷ later) none places =
    subst (λ b. place_before (change ∷ later) places ≤ (if b && none then places + 1
    else place_before (change ∷ later) places)) (sym (some_more (length later))) (omega arith)

settled_grows : (old new : Log) (group : List (BlockNo × Content)) → GrowsBy old group new
    → settled_place old ≤ settled_place new
settled_grows old new group grown =
    subst (λ n. settled_place old ≤ place_before (drop n new.changes) new.places) (sym grown.logged)
    (subst (λ n. settled_place old ≤ n) (sym (grown.place old.logged (omega arith)))
    (settled_before (drop old.logged old.changes) (nat_eq (length group) 0) old.places))

same_at : (a b : Job) (s r : Stage) → At a s ≡ At b r → (a ≡ b) × (s ≡ r)
same_at a b s r same = (cc, cc)

one_step : (a b : Step) → Some a ≡ Some b → a ≡ b
one_step a b same = cc

not_idle : (job : Job) (stage : Stage) → how.Idle ≡ At job stage → ⊥
not_idle job stage same = cc

-- a worker at the stage Called has just its call
called_stage : (found : Option WorkJob) (stage : Stage) (j : Job) (known : List LockRequest)
    → at_stage found stage ≡ At j (Called known) → stage ≡ Called known
called_stage None stage j known is = cc
called_stage (Some job) stage j known is = cc

read_stage : (found : Option WorkJob) (stage : Taken → Stage) (begun : Begun) (mode : Mode) (fetch_addr : Option Addr)
    (j : Job) (known : List LockRequest) → ((taken : Taken) → stage taken ≡ Called known → ⊥) → (Planning begun ≡ Called known → ⊥)
    → at_stage found (at_fetch stage begun mode fetch_addr) ≡ At j (Called known) → ⊥
read_stage found stage begun mode None j known none other is = other (called_stage found (Planning begun) j known is)
read_stage found stage begun mode (Some addr) j known none other is =
    none (taken_as mode addr) (called_stage found (stage (taken_as mode addr)) j known is)

planning_not : (begun : Begun) (known : List LockRequest) → Planning begun ≡ Called known → ⊥
planning_not begun known is = cc

phase_called : (phase : phases.Phase) (found : Option WorkJob) (begun : Begun) (asked : Asking) (knowing : Knowing)
    (j : Job) (known : List LockRequest) → progress_in phase found begun asked knowing ≡ At j (Called known)
    → phase ≡ Phase.Called
phase_called Phase.Idle found begun asked knowing j known is = cc
phase_called Phase.Called found begun asked knowing j known is = refl
phase_called Phase.Planning found begun asked knowing j known is =
    absurd (planning_not begun known (called_stage found (Planning begun) j known is))
phase_called Phase.Reading found begun asked knowing j known is =
    absurd (read_stage found (λ taken. how.Reading begun taken) begun asked.mode asked.fetch_addr j known (λ taken. none taken)
    (planning_not begun known) is)
  where
    none : (taken : Taken) → how.Reading begun taken ≡ Called known → ⊥
    none taken is = cc
phase_called (Phase.Read ok) found begun asked knowing j known is =
    absurd (read_stage found (λ taken. how.Read begun taken ok) begun asked.mode asked.fetch_addr j known (λ taken. none taken)
    (planning_not begun known) is)
  where
    none : (taken : Taken) → how.Read begun taken ok ≡ Called known → ⊥
    none taken is = cc
phase_called (Phase.Refused why) found begun asked knowing j known is =
    absurd (none (called_stage found (how.Refused begun why) j known is)) where
      none : how.Refused begun why ≡ Called known → ⊥
      none is = cc
phase_called Phase.Again found begun asked knowing j known is =
    absurd (none (called_stage found (how.Again begun knowing.off) j known is))
  where
    none : how.Again begun knowing.off ≡ Called known → ⊥
    none is = cc
phase_called (Phase.Waiting place) found begun asked knowing j known is =
    absurd (none (called_stage asked.waiting (how.Waiting place.0) j known is))
  where
    none : how.Waiting place.0 ≡ Called known → ⊥
    none is = cc

-- a call that is answered with no transaction leaves the core
replied_by : (served : Bool) (job : WorkJob) (old new : WorkerAndCore) → BeginsBy served job old step.Replied new
    → new.core ≡ old.core
replied_by true job old new goes = absurd goes
replied_by false job old new goes = goes.1

replied_core : (phase : phases.Phase) (old new : WorkerAndCore) → phase ≡ Phase.Called
    → GoesOn phase old (Some step.Replied) new → new.core ≡ old.core
replied_core phase old new is goes = by old.worker.work.job
    (subst (λ (p : phases.Phase). GoesOn p old (Some step.Replied) new) is goes)
  where
    by : (found : Option WorkJob)
        → IsSomeAnd found (λ job. BeginsBy (begins_transaction job.call) job old step.Replied new)
        → new.core ≡ old.core
    by None has = absurd has
    by (Some job) has = replied_by (begins_transaction job.call) job old new has

module _ (o : Outset) (now : Opened) (worker : State) (new : WorkerAndCore) (made : Option Step)
    (calling : IsCalling o now worker) where
  abbrev entries : List Entry
  entries = o.entries ++ option_to_list calling.entry

  abbrev pub s : Setting
  s = setting_of calling.base now (fetches_of worker) o.first entries calling.last calling.opened

  abbrev pub t : RunState
  t = state_when_opened now

  abbrev pub store : StoreState
  store = at_rest now.device now.core

  abbrev pub run : IsRunningOver s calling.base store (fetches_of worker) now.boot o.first entries calling.last
  run = runs_of calling.base now (fetches_of worker) o.first entries calling.last calling.opened

  abbrev pub later : Opened
  later = record now { core = new.core }

  from : IsStepFrom o now s t
  from = record {
    broken_is = refl;
    begun_is = refl;
    more_begun = calling.further.begun;
    more_refused = calling.further.refused;
    settled_is = settled_is 0 now.core.log idle idle calling.opened.since.over.lawful;
    still_broken = calling.further.broken;
    past = calling.past;
    broke = calling.broken;
  }

  module _ (may : IsStepOfWork s t 0 (progress_of worker) made)
      (tells : TellsStep now.boot 0 entries (worker_and_core worker now.core) made new)
      (state_agrees_then : IsRunState s (state_after t (event.Work 0) made) (with_core store new.core))
      (at_work : IsCoreAtWork (reported new.worker) new.core)
      (goes : GoesOn worker.phase (worker_and_core worker now.core) made new)
      (one_geometry : (g h : Geometry) → g.version ≡ h.version → g.blocks ≡ h.blocks → g.inodes ≡ h.inodes → g ≡ h)
    where
      progress_is : progress_of new.worker ≡ progress_after now.core.log.broken made (progress_of worker)
      progress_is = tells.progress

      -- ---- nothing was committed
      module _ (uncommitted : has_committed made ≡ false)
          (run_then : IsRunningOver s calling.base (with_core store new.core) (fetches_of new.worker)
          now.boot o.first
          entries calling.last) (log_unchanged : LeavesLogUnchanged now.core new.core) where
        log_is : new.core.log ≡ now.core.log
        log_is = log_unchanged.log

        after : IsAfter now later
        after = record {
          past = past_none now.device;
          failures = omega arith;
          further = record {
            begun = let more = begun_then t made in let is = state_agrees_then.begun in omega (arith, more, is);
            refused = let more = refused_then t made in let is = state_agrees_then.refused in omega (arith, more, is);
            places = subst (λ (l : Log). now.core.log.places ≤ l.places) (sym log_is) (omega arith);
            positions = subst (λ (l : Log). end_of now.core.log ≤ end_of l) (sym log_is) (omega arith);
            settled = subst (λ (l : Log). settled_place now.core.log ≤ settled_place l) (sym log_is)
                (omega arith);
            broken = λ is. ap (λ (l : Log). l.broken) log_is ∙ is;
          };
        }

        none_ready : new.worker.work.entry ≡ None
        none_ready = no_entry now.boot (length entries) (progress_of worker) made
            new.worker.work.entry uncommitted tells.entry

        same_ready : with_ready 0 entries new.worker ≡ entries
        same_ready = ap (λ (e : Option ready.Entry). entries ++ entries_ready 0 e) none_ready ∙ append-nil entries

        -- the count of transactions then
        counted_by : (one : Step) → made ≡ Some one → new.core.begun ≡ begun_after now.core.begun one
        counted_by one is = sym state_agrees_then.begun
            ∙ ap (λ (m : Option Step). (state_after t (event.Work 0) m).begun) is

        -- and of refusals
        refusals_by : (one : Step) → made ≡ Some one → new.core.refused ≡ refused_after now.core.refused one
        refusals_by one is = sym state_agrees_then.refused
            ∙ ap (λ (m : Option Step). (state_after t (event.Work 0) m).refused) is

        -- how far it is where no step was made
        stage_none : (p : Progress) → IsAtStage o calling.entry now p → IsStepOfWork s t 0 p None
            → IsAtStage o calling.entry later p
        stage_none how.Idle has may = tt
        stage_none (At job (Called known)) has may = absurd may
        stage_none (At job (Planning begun)) has may = absurd may
        stage_none (At job (how.Reading begun taken)) has may = (
          has.0,
          stands_then o now later after (λ unserved. absurd (true≢false (sym has.1.1.begins ∙ unserved)))
              calling.entry (how.Reading begun taken) has.1,
        )
        stage_none (At job (how.Read begun taken ok)) has may = absurd may
        stage_none (At job (how.Refused begun why)) has may = absurd may
        stage_none (At job (how.Again begun request)) has may = absurd may
        stage_none (At job (how.Waiting place)) has may = absurd may

        -- the change that was refused since the numbers are spent
        spent_by : (blocks : List BlockNo) → made ≡ Some (step.Commit blocks committing.Spent)
            → (added : ℕ) × HasCause o later added cause.Spent
        spent_by blocks is =
            let none = finds (worker_and_core worker now.core) new made goes (ap is_spent is) in (
              added_blocks now.core.log (blocks_of none.done.written),
              inr (no_log_space o now worker calling one_geometry none later after),
            )

        -- how far it is then
        stage_by : (m : Option Step) → made ≡ m → (p : Progress) → has_committed m ≡ false
            → IsAtStage o calling.entry now p → IsStepOfWork s t 0 p m
            → IsAtStage o calling.entry later (progress_after now.core.log.broken m p)
        stage_by None is p not has may = stage_none p has may
        stage_by (Some one) is how.Idle not has may = tt
        stage_by (Some one) is (At job stage) not has may =
            subst (λ (j : Job). IsAtStage o calling.entry later
            (progressed now.core.log.broken one (At j stage))) (sym has.0)
            (stage_then o now later s t from after calling.entry
            (how.stage_after now.core.log.broken (is_answered_stable o.asked.call) one stage)
            (next_ok o now later s t from after calling.entry stage one not has.1
            (subst (λ (j : Job). IsStepOfWork s t 0 (At j stage) (Some one)) has.0 may) (counted_by one is) (refusals_by one is)
            (λ blocks at. spent_by blocks (is ∙ ap (λ (x : Step). Some x) at))))

        calling_then : IsCalling o later (reported new.worker)
        calling_then = record {
          entry = calling.entry;
          last = calling.last;
          base = calling.base;
          boot = calling.boot;
          comes = comes_then o now later after calling.entry calling.last calling.comes;
          past = calling.past;
          is_preserved = calling.is_preserved;
          opened = open_of s calling.base later (fetches_of new.worker) o.first entries calling.last run_then;
          stands = subst (λ (b : ℕ). IsWorkerAt b entries (reported new.worker)) calling.boot
              (subst (λ (es : List Entry). IsWorkerAt now.boot es (reported new.worker)) same_ready tells.stands);
          at_work = at_work;
          so_far = subst (IsAtStage o calling.entry later) (sym progress_is)
              (stage_by made refl (progress_of worker) uncommitted calling.so_far may);
          counted = calling.counted;
          further = further_then o.store.core now.core new.core calling.further after.further;
          broken = λ is. calling.broken (sym (ap (λ (l : Log). l.broken) log_is) ∙ is);
        }

        -- a call that isn't served leaves the store
        same_store : (job : Job) (stage : Stage) (one : Step) → progress_of worker ≡ At job stage
            → made ≡ Some one
            → (known : List LockRequest) → stage ≡ Called known → one ≡ step.Replied → later ≡ now
        same_store job stage one so_far is known stage_is one_is = λ i. record now { core = core_is i }
          where
            phase_is : worker.phase ≡ Phase.Called
            phase_is = phase_called worker.phase worker.work.job
                (begun_of worker.begun.tx (seen_in worker.work.planner) worker.known) worker.asked worker.known job known
                (so_far ∙ ap (λ (at : Stage). At job at) stage_is)

            core_is : new.core ≡ now.core
            core_is = replied_core worker.phase (worker_and_core worker now.core) new phase_is
                (subst (λ (m : Option Step). GoesOn worker.phase (worker_and_core worker now.core) m new)
                (is ∙ ap (λ (x : Step). Some x) one_is) goes)

        -- what it answers
        answered_by : (ready : CallAnswer) → is_idle (progress_of new.worker) ≡ true
            → IsAnswerOf (with_ready 0 entries new.worker) (progress_of worker) made ready
            → Tells o calling.entry ready.verdict later
        answered_by ready ends is =
            let has = subst (IsAtStage o calling.entry now) is.so_far calling.so_far in
            let may_so : IsStepOfWork s t 0 (At is.job is.stage) (Some is.step) =
            subst (λ (m : Option Step). IsStepOfWork s t 0 (At is.job is.stage) m) is.made_is
            (subst (λ (p : Progress). IsStepOfWork s t 0 p made) is.so_far may) in
            let not : has_committed (Some is.step) ≡ false = sym (ap has_committed is.made_is) ∙ uncommitted in
            let ended : is_idle (progressed now.core.log.broken is.step (At is.job is.stage)) ≡ true =
            sym (ap (λ (p : Progress). is_idle p) (progress_is
            ∙ ap (λ (m : Option Step). progress_after now.core.log.broken m (progress_of worker)) is.made_is
            ∙ ap (λ (p : Progress). progressed now.core.log.broken is.step p) is.so_far)) ∙ ends in
            let verdict_is = verdict_of (with_ready 0 entries new.worker) (progress_of worker) made ready is in
            tells_of o now later s t from after calling.entry is.stage is.step (answer_of ready) not has.1
            (subst (λ (j : Job). IsStepOfWork s t 0 (At j is.stage) (Some is.step)) has.0 may_so)
            (counted_by is.step is.made_is) (refusals_by is.step is.made_is)
            (λ known stage_is step_is. same_store is.job is.stage is.step is.so_far is.made_is known stage_is step_is)
            (subst (λ (j : Job). is_idle (progressed now.core.log.broken is.step (At j is.stage))
            ≡ true) has.0 ended)
            (subst (λ (es : List Entry). HasVerdict (transcript_of_entries es) o.asked.call is.stage is.step
            (answer_of ready)) same_ready
            (subst (λ (j : Job). HasVerdict (transcript_of_entries (with_ready 0 entries new.worker)) j.call is.stage is.step
            (answer_of ready)) has.0 verdict_is))

        answer_by : (found : Option CallAnswer)
            → is_some found ≡ (not (is_idle (progress_of worker)) && is_idle (progress_of new.worker))
            → IfSome found (IsAnswerOf (with_ready 0 entries new.worker) (progress_of worker) made)
            → IfSome found (λ ready. Tells o calling.entry ready.verdict later)
        answer_by None ends is = tt
        answer_by (Some ready) ends is =
            answered_by ready (both_true (not (is_idle (progress_of worker)))
            (is_idle (progress_of new.worker)) (sym ends)) is

        pub stepped_on : HasStepped o later new.worker
        unfolding calling_then
        stepped_on = record {
          calling = calling_then;
          ends = λ some. both_true (not (is_idle (progress_of worker))) (is_idle (progress_of new.worker))
              (sym tells.answer.ends ∙ some);
          answer = answer_by new.worker.work.answer tells.answer.ends tells.answer.is_of;
        }

      -- ---- its procedure was committed
      module _ (has : has_committed made ≡ true)
          (goes_with : GoesOnWith s calling.base store new now.boot 0 o.first entries calling.last
          made (worker_and_core worker now.core))
          (longer_preserved : (before d : Device) (boot settled fewer : ℕ) (first : Tree) (entries more : List Entry)
          → HasPreservedFiles before d boot first entries settled → fewer ≤ settled
          → HasPreservedFiles before d boot first (entries ++ more) fewer)
        where
          abbrev commit : IsCommitStep made
          commit = commit_step made has

          abbrev e : Entry
          e = entry_by 0 goes_with.taken.entry

          ready_is : new.worker.work.entry ≡ Some goes_with.taken.entry
          ready_is = goes_with.taken.ready

          entry_is_traced : TellsEntry now.boot (length entries) (progress_of worker)
              (Some (step.Commit commit.added (committing.Committed commit.place))) new.worker.work.entry
          entry_is_traced = subst (λ (m : Option Step). TellsEntry now.boot (length entries) (progress_of worker) m
              new.worker.work.entry) commit.made_is tells.entry

          is_of : IsEntryOf now.boot (progress_of worker) goes_with.taken.entry
          is_of = some_of (IsEntryOf now.boot (progress_of worker)) new.worker.work.entry
              goes_with.taken.entry ready_is entry_is_traced.1

          was_at_stage : (is_of.job ≡ o.asked) × StandsWith o calling.entry now (Planning is_of.begun)
          was_at_stage = subst (IsAtStage o calling.entry now) is_of.planned calling.so_far

          none_was : calling.entry ≡ None
          none_was = was_at_stage.1.0

          none_before : entries ≡ o.entries
          none_before = ap (λ (x : Option Entry). o.entries ++ option_to_list x) none_was ∙ append-nil o.entries

          last_is : calling.last ≡ o.last
          last_is = subst (λ (x : Option Entry). ComesTo o now x calling.last) none_was calling.comes

          place_is : commit.place.0 ≡ length o.entries + 1
          place_is = entry_is_traced.0 ∙ ap (λ (es : List Entry). length es + 1) none_before

          entries_then : with_ready 0 entries new.worker ≡ o.entries ++ e ∷ []
          entries_then = ap (λ (x : Option ready.Entry). entries ++ entries_ready 0 x) ready_is
              ∙ ap (λ (es : List Entry). es ++ e ∷ []) none_before

          progress_then : progress_of new.worker
              ≡ going_on o.asked (how.after_commit (is_answered_stable o.asked.call) is_of.begun
              (committing.Committed commit.place))
          progress_then = progress_is
              ∙ ap (λ (m : Option Step). progress_after now.core.log.broken m (progress_of worker)) commit.made_is
              ∙ ap (λ (p : Progress). progressed now.core.log.broken
              (step.Commit commit.added (committing.Committed commit.place)) p) is_of.planned
              ∙ ap (λ (j : Job). going_on j (how.after_commit (is_answered_stable j.call) is_of.begun
              (committing.Committed commit.place))) was_at_stage.0

          broken_is : new.core.log.broken ≡ now.core.log.broken
          broken_is = ap (λ l. l.broken) (sym state_agrees_then.log)
              ∙ ap (λ (m : Option Step). (state_after t (event.Work 0) m).log.broken) commit.made_is

          longer : end_of new.core.log - 0 ≡ end_of now.core.log - 0 + state_added t.log commit.added
          longer = ap (λ l. l.appended) (sym state_agrees_then.log)
              ∙ ap (λ (m : Option Step). (state_after t (event.Work 0) m).log.appended) commit.made_is

          further_made : IsFurther now.core new.core
          further_made = record {
            begun = let more = begun_then t made in let is = state_agrees_then.begun in omega (arith, more, is);
            refused = let more = refused_then t made in let is = state_agrees_then.refused in omega (arith, more, is);
            places = let one = goes_with.taken.took.places in omega (arith, one);
            positions = let is = longer in omega (arith, is);
            settled = settled_grows now.core.log new.core.log goes_with.taken.took.group.group
                goes_with.taken.took.group.grown;
            broken = λ is. broken_is ∙ is;
          }

          after_made : IsAfter now later
          after_made = record {
            past = past_none now.device;
            failures = omega arith;
            further = further_made;
          }

          made_for : IsMadeFor o later e goes_with.left
          made_for = record {
            begun = is_of.begun;
            begun_for = number_then o now later after_made is_of.begun.number was_at_stage.1.1;
            ctx = is_of.ctx ∙ ap (λ (b : ℕ). ctx_of b is_of.job is_of.begun) calling.boot
                ∙ ap (λ (j : Job). ctx_of o.store.boot j is_of.begun) was_at_stage.0;
            call = is_of.call ∙ ap (λ (j : Job). j.call) was_at_stage.0;
            step = subst (λ (tree : Tree). procedures.step tree goes_with.taken.entry.ctx
                goes_with.taken.entry.call goes_with.taken.entry.reply goes_with.left) last_is goes_with.goes;
          }

          calling_made : IsCalling o later (reported new.worker)
          calling_made = record {
            entry = Some e;
            last = goes_with.left;
            base = calling.base;
            boot = calling.boot;
            comes = made_for;
            past = calling.past;
            is_preserved = longer_preserved o.store.device now.device o.store.boot (settled_place o.store.core.log)
                (settled_place o.store.core.log) o.first o.entries (e ∷ [])
                (subst (λ (es : List Entry). HasPreservedFiles o.store.device now.device o.store.boot o.first es
                (settled_place o.store.core.log)) none_before calling.is_preserved) (omega arith);
            opened = open_of (with_blocks s (length entries) (file_blocks calling.base new.core)) calling.base
                later (fetches_of new.worker) o.first (o.entries ++ e ∷ []) goes_with.left
                (subst (λ (es : List Entry). IsRunningOver
                (with_blocks s (length entries) (file_blocks calling.base new.core)) calling.base
                (with_core store new.core) (fetches_of new.worker) now.boot o.first (es ++ e ∷ []) goes_with.left)
                none_before goes_with.runs);
            stands = subst (λ (b : ℕ). IsWorkerAt b (o.entries ++ e ∷ []) (reported new.worker)) calling.boot
                (subst (λ (es : List Entry). IsWorkerAt now.boot es (reported new.worker)) entries_then tells.stands);
            at_work = at_work;
            so_far = subst (IsAtStage o (Some e) later) (sym progress_then)
                (made_at_stage o later e is_of.begun commit.place place_is);
            counted = calling.counted;
            further = further_then o.store.core now.core new.core calling.further further_made;
            broken = λ is. calling.broken (sym broken_is ∙ is);
          }

          made_answer : (ready : CallAnswer) → is_idle (progress_of new.worker) ≡ true
              → IsAnswerOf (with_ready 0 entries new.worker) (progress_of worker) made ready
              → Tells o (Some e) ready.verdict later
          made_answer ready ends is =
              let same = same_at is.job is_of.job is.stage (Planning is_of.begun)
              (sym is.so_far ∙ is_of.planned) in
              let step_is = one_step is.step (step.Commit commit.added (committing.Committed commit.place))
              (sym is.made_is ∙ commit.made_is) in
              let is_reply_at : IsReplyAt (transcript_of_entries (with_ready 0 entries new.worker)) commit.place (answer_of ready) =
              subst (λ (st : Step). HasVerdict (transcript_of_entries (with_ready 0 entries new.worker)) is.job.call
              (Planning is_of.begun) st (answer_of ready)) step_is
              (subst (λ (stage : Stage). HasVerdict (transcript_of_entries (with_ready 0 entries new.worker))
              is.job.call stage is.step
              (answer_of ready)) same.1
              (verdict_of (with_ready 0 entries new.worker) (progress_of worker) made ready is)) in
              made_tells o later e is_of.begun commit.place place_is (answer_of ready)
              (sym (ap is_idle progress_then) ∙ ends)
              (subst (λ (es : List Entry). IsReplyAt (transcript_of_entries es) commit.place (answer_of ready))
              entries_then is_reply_at)

          answer_made : (found : Option CallAnswer)
              → is_some found ≡ (not (is_idle (progress_of worker)) && is_idle (progress_of new.worker))
              → IfSome found (IsAnswerOf (with_ready 0 entries new.worker) (progress_of worker) made)
              → IfSome found (λ ready. Tells o (Some e) ready.verdict later)
          answer_made None ends is = tt
          answer_made (Some ready) ends is =
              made_answer ready (both_true (not (is_idle (progress_of worker)))
              (is_idle (progress_of new.worker)) (sym ends)) is

          pub stepped_with : HasStepped o later new.worker
          unfolding calling_made
          stepped_with = record {
            calling = calling_made;
            ends = λ some. both_true (not (is_idle (progress_of worker))) (is_idle (progress_of new.worker))
                (sym tells.answer.ends ∙ some);
            answer = answer_made new.worker.work.answer tells.answer.ends tells.answer.is_of;
          }

      -- by whether it took a place
      pub stepped : (has_committed made ≡ false → IsRunningOver s calling.base (with_core store new.core)
          (fetches_of new.worker) now.boot o.first entries calling.last × LeavesLogUnchanged now.core new.core)
          → (has_committed made ≡ true → GoesOnWith s calling.base store new now.boot 0 o.first
          entries calling.last made (worker_and_core worker now.core))
          → ((before d : Device) (boot settled fewer : ℕ) (first : Tree) (entries more : List Entry)
          → HasPreservedFiles before d boot first entries settled → fewer ≤ settled
          → HasPreservedFiles before d boot first (entries ++ more) fewer)
          → HasStepped o later new.worker
      stepped log_unchanged committed longer_preserved = by (has_committed made) refl
        where
          by : (has : Bool) → has_committed made ≡ has → HasStepped o later new.worker
          by false is = let left = log_unchanged is in stepped_on is left.0 left.1
          by true is = stepped_with is (committed is) longer_preserved
