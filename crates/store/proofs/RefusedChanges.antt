-- A change that found no room is that of a plan for the call, over the files as they are.
use Rattle.std.proofs.Common.{◌≡◌, ◌∙◌, refl, sym, ap, subst, true≢false, ℕ, Bool, true, false, Option, Some}
use Rattle.std.proofs.Common.{List, ◌++◌, option_to_list}
use Rattle.std.specs.Prelude.{unwrap_or}
use Rattle.std.proofs.lemmas.List.{append-nil}
use Rattle.std.proofs.lemmas.List.Elements.{All-contains}
use Rattle.disk.specs.Crash.{Image}
use Rattle.nfs_spec.specs.Model.Entry.{Entry}
use Rattle.nfs_spec.specs.Model.Tree.{Tree}
use Rattle.nfs_types.specs.declared.call.Call.{Call}
use Rattle.nfs_types.specs.declared.ctx.Ctx.{Ctx}
use Rattle.nfs_spec.specs.Procedures.Step as procedures
use Rattle.layout.specs.declared.geometry.Geometry.{Geometry}
use Rattle.layout.specs.Stands.{Stands}
use Rattle.inode.specs.Read.{AreAsRead}
use Rattle.procs.specs.Outcome.{Outcome}
use Rattle.procs.specs.SoundCalls.{SoundCall}
use Rattle.procs.specs.Steps.{IsStepOf}
use Rattle.procs.specs.declared.next.Plan.TheVariants as plan
use Rattle.txn.specs.Outcomes.{IsCommit, IsTried}
use Rattle.txn.specs.declared.outcomes.Commit.{Commit}
use Rattle.txn.specs.declared.outcomes.Commit.TheVariants as commit
use Rattle.txn_law.specs.Commit.{IsReadBy}
use Rattle.txn_law.specs.Fetch.{Fetch}
use Rattle.txn_law.specs.Group.{blocks_of}
use Rattle.txn_law.specs.Window.{with_objects}
use Rattle.circ.specs.Log.Calls.{idle}
use Rattle.circ.specs.Log.Log.{added_blocks}
use Rattle.circ.specs.declared.log.outcomes.Room.TheVariants as log_space
use Rattle.store_promise.specs.History.{ctx_of}
use Rattle.store_promise.specs.OpenSince.{IsOpenSince, file_blocks}
use Rattle.store_promise.specs.Progress.{Begun, Job, At}
use Rattle.store_promise.specs.Progress as how
use Rattle.store_promise.specs.declared.events.Committing.TheVariants as committing
use Rattle.store_promise.specs.declared.events.Step.{Step}
use Rattle.store_promise.specs.declared.events.Step.TheVariants as step
use Rattle.store_promise.proofs.FileBlocks.{held_now, stands_now}
use Rattle.store_workers.specs.Seen.{seen_in}
use Rattle.store_workers.specs.Stages.{IsJobIn, StandsAt, at_stage, begun_of, handed, progress_in, progress_of}
use Rattle.store_workers.specs.WorkerAnswers.{committing_of}
use Rattle.store_workers.specs.WorkerSteps.{GoesOn, IsNext, WorkerAndCore, given_step, planned_of, worker_and_core}
use Rattle.store_workers.specs.declared.workers.parts.Job.{Job as WorkJob}
use Rattle.store_workers.specs.declared.workers.parts.Phase as phases
use Rattle.store_workers.specs.declared.workers.parts.Phase.TheVariants as Phase
use Rattle.store_workers.specs.declared.workers.parts.State.{State}
use Rattle.store_workers.proofs.WorkCases.{Cases, by_cases}
use Rattle.store.proofs.RunsLemmas.AtWorkStays.{some_of}
use Rattle.store.specs.Calling.{ComesTo, FindsNoLogSpace, IsAfter, IsCalling, IsPlannedFor, IsAtStage, Outset}
use Rattle.store.specs.Calling.{StandsWith}
use Rattle.store_images.specs.Opening.{Opened}

-- ---- the step

-- a commit was refused since the numbers are spent
abbrev pub is_spent : Option Step → Bool
is_spent (Some (step.Commit added committing.Spent)) = true
is_spent _ = false

-- what the worker's plan is done with found no room
pub record FindsNone (old : WorkerAndCore) : Type 0 where
  pub planning : old.worker.phase ≡ Phase.Planning
  pub tx : ℕ
  pub done : Outcome
  pub next : IsNext old.worker (plan.Done done)
  pub tried : IsTried old.core tx (planned_of done) log_space.Spent

module _ (old new : WorkerAndCore) where
  abbrev FindsIn : phases.Phase → Option Step → Type 0
  FindsIn phase made = old.worker.phase ≡ phase → is_spent made ≡ true → FindsNone old

  by_answer : (tx : ℕ) (done : Outcome) → IsNext old.worker (plan.Done done) → (answer : Commit Outcome)
      → IsCommit old.core tx (planned_of done) done answer new.core
      → FindsIn Phase.Planning (Some (step.Commit (blocks_of done.written) (committing_of answer)))
  by_answer tx done next (commit.Spent back same) is planning spent =
      record { planning = planning; tx = tx; done = done; next = next; tried = is.1 }
  by_answer tx done next (commit.Committed receipt) is planning spent = absurd (true≢false (sym spent))
  by_answer tx done next (commit.Full back same) is planning spent = absurd (true≢false (sym spent))
  by_answer tx done next (commit.Foreign back same) is planning spent = absurd (true≢false (sym spent))
  by_answer tx done next (commit.NoMemory back same error) is planning spent = absurd (true≢false (sym spent))
  by_answer tx done next (commit.Broken back same) is planning spent = absurd (true≢false (sym spent))

  given_not : (ok : Bool) (io : Fetch) → FindsIn (Phase.Read ok) (Some (given_step ok io))
  given_not true io reading spent = absurd (true≢false (sym spent))
  given_not false io reading spent = absurd (true≢false (sym spent))

  finds_cases : Cases old new FindsIn
  finds_cases = record {
    idle = λ is at spent. absurd (true≢false (sym spent));
    reading = λ is at spent. absurd (true≢false (sym spent));
    begun = λ job one job_is served was at spent. absurd (true≢false (sym spent));
    not_begun = λ job why job_is served none core is at spent. absurd (true≢false (sym spent));
    replied = λ job job_is served core is at spent. absurd (true≢false (sym spent));
    wanted = λ tx addr mode made tx_is next was at spent. absurd (true≢false (sym spent));
    claimed = λ tx block made tx_is next was at spent. absurd (true≢false (sym spent));
    committed = λ job tx done made tx_is next none job_is was. by_answer tx done next was.answer was.core;
    lacked = λ tx made tx_is none was at spent. absurd (true≢false (sym spent));
    given = λ ok io made io_is gave. given_not ok io;
    refused = λ why job tx made job_is tx_is was at spent. absurd (true≢false (sym spent));
    left = λ tx made tx_is was at spent. absurd (true≢false (sym spent));
    waited = λ place made was at spent. absurd (true≢false (sym spent));
  }

  pub finds : (made : Option Step) → GoesOn old.worker.phase old made new → is_spent made ≡ true → FindsNone old
  finds made goes spent = by_cases old new FindsIn finds_cases old.worker.phase made goes refl spent

-- ---- its plan

module _ (o : Outset) (now : Opened) (worker : State) (calling : IsCalling o now worker)
    (one_geometry : (g h : Geometry) → g.version ≡ h.version → g.blocks ≡ h.blocks → g.inodes ≡ h.inodes → g ≡ h)
    (none : FindsNone (worker_and_core worker now.core)) where
  abbrev job : WorkJob
  job = none.next.job

  abbrev begun : Begun
  begun = begun_of worker.begun.tx (seen_in worker.work.planner) worker.known

  progress_is : progress_of worker ≡ At (handed job) (how.Planning begun)
  progress_is = ap (λ (p : phases.Phase). progress_in p worker.work.job begun worker.asked worker.known) none.planning
      ∙ ap (λ (found : Option WorkJob). at_stage found (how.Planning begun)) none.next.job_is

  so_far : (handed job ≡ o.asked) × StandsWith o calling.entry now (how.Planning begun)
  so_far = subst (IsAtStage o calling.entry now) progress_is calling.so_far

  runs : IsJobIn o.store.boot worker.begun.tx job
  runs = some_of (IsJobIn o.store.boot worker.begun.tx) worker.work.job job none.next.job_is
      (subst (λ (p : phases.Phase). StandsAt o.store.boot (o.entries ++ option_to_list calling.entry) p worker)
      none.planning calling.stands.stands)

  abbrev ctx : Ctx
  ctx = ctx_of o.store.boot o.asked begun

  number_is : begun.number ≡ job.ctx.transaction
  number_is = ap (λ (tx : Option ℕ). unwrap_or tx 0) runs.transaction

  ctx_is : job.ctx ≡ ctx
  ctx_is = λ i. record {
    credential = (so_far.0 i).credential;
    moment = (so_far.0 i).moment;
    boot = runs.boot_is i;
    transaction = sym number_is i;
  }

  call_is : job.call ≡ o.asked.call
  call_is = ap (λ (j : Job). j.call) so_far.0

  sound : SoundCall o.asked.credential o.asked.moment o.asked.call
  sound = subst (λ (j : Job). SoundCall j.credential j.moment j.call) so_far.0 runs.handed

  -- ---- the files as they are

  entries_are : o.entries ++ option_to_list calling.entry ≡ o.entries
  entries_are = ap (λ (e : Option Entry). o.entries ++ option_to_list e) so_far.1.0 ∙ append-nil o.entries

  last_is : calling.last ≡ o.last
  last_is = subst (λ (e : Option Entry). ComesTo o now e calling.last) so_far.1.0 calling.comes

  open_so : IsOpenSince calling.base now.device now.core idle idle now.boot o.first o.entries o.last
  open_so = subst (λ (es : List Entry). IsOpenSince calling.base now.device now.core idle idle now.boot
      o.first es o.last) entries_are
      (subst (λ (tree : Tree). IsOpenSince calling.base now.device now.core idle idle now.boot o.first
      (o.entries ++ option_to_list calling.entry) tree) last_is calling.opened.since)

  abbrev blocks : Image
  blocks = file_blocks calling.base now.core

  geometry_is : none.next.snap.geometry ≡ open_so.over.files.super.geometry
  geometry_is = one_geometry none.next.snap.geometry open_so.over.files.super.geometry
      (none.next.snap.newest ∙ sym open_so.over.files.newest)
      (sym none.next.plan.0.named.blocks ∙ none.tried.own.blocks ∙ sym open_so.over.files.blocks_are)
      (sym none.next.plan.0.named.inodes ∙ none.tried.own.inodes ∙ sym open_so.over.files.inodes_are)

  stands : Stands none.next.snap.geometry blocks o.last
  stands = subst (λ (g : Geometry). Stands g blocks o.last) (sym geometry_is)
      (stands_now calling.base now.device now.core idle idle now.boot o.first o.last o.entries open_so)

  read : AreAsRead blocks none.done.read
  read object there = held_now calling.base now.device now.core idle idle now.boot o.first o.last o.entries open_so
      none.tx object (All-contains (IsReadBy now.core none.tx) none.done.read object none.tried.own.read there)

  is_step : IsStepOf none.next.snap.geometry ctx o.asked.call none.done
  is_step = subst (λ (c : Ctx). IsStepOf none.next.snap.geometry c o.asked.call none.done) ctx_is
      (subst (λ (call : Call). IsStepOf none.next.snap.geometry job.ctx call none.done) call_is none.next.is_step)

  transition : (next : Tree) × procedures.step o.last ctx o.asked.call none.done.reply next
      × Stands none.next.snap.geometry (with_objects blocks none.done.written) next
  transition = is_step blocks o.last sound stands read

  planned : IsPlannedFor o now none.done
  planned = record {
    begun = begun;
    begun_for = so_far.1.1;
    base = calling.base;
    open_so = open_so;
    snap = none.next.snap;
    ends = none.next.plan.0;
    few = none.next.plan.1;
    read = read;
    is_step = is_step;
    next = transition.0;
    goes = transition.1;
    leaves = transition.2;
  }

  pub no_log_space : (later : Opened) → IsAfter now later
      → FindsNoLogSpace o later (added_blocks now.core.log (blocks_of none.done.written))
  no_log_space later after = record {
    at = now;
    since = record {
      past = calling.past;
      failures = calling.counted;
      further = calling.further;
      failed = calling.broken;
    };
    until = after;
    sound = none.tried.sound;
    done = none.done;
    planned = planned;
    none = none.tried.log_space;
    lacked = refl;
  }
