-- A call begins, its read keeps it under way, and so does the settling that it waits for.
use Rattle.std.proofs.Common.{arith, ◌≡◌, ◌∙◌, refl, sym, ap, subst, true≢false, ℕ, ◌<◌, ◌≤◌, inl, Bool}
use Rattle.std.proofs.Common.{true, false, nat_eq}
use Rattle.std.specs.List.{list_any}
use Rattle.std.proofs.Common.{IfSome, Option, Some, None, Result, Ok, Err, is_ok, is_some, length, List, []}
use Rattle.std.proofs.Common.{◌++◌, option_to_list}
use Rattle.std.specs.Prelude.{IsSomeAnd}
use Rattle.std.proofs.lemmas.List.{append-nil}
use Rattle.std.proofs.lemmas.List.Elements.{All-nil}
use Rattle.base.specs.declared.TheConstants.{MOST_UNINSTALLED_COMMITS}
use Rattle.disk.specs.Blocks.{AreBlocks}
use Rattle.disk.specs.Crash.{Image, IsCrashImage}
use Rattle.disk.specs.Device.{Content, CountsFailure, Device, OneLater}
use Rattle.disk.specs.declared.device.Failed.{Failed}
use Rattle.layout.specs.Geometry.{IsLawful}
use Rattle.nfs_spec.specs.Model.Entry.{Entry}
use Rattle.nfs_spec.specs.Model.Calls.{begins_transaction}
use Rattle.nfs_spec.specs.Model.Tree.{Tree}
use Rattle.txn_law.specs.Core.{CoreState, IsOut}
use Rattle.txn_law.specs.Fetch.{Fetch}
use Rattle.circ.specs.Log.Calls.{Pending, idle as nothing_out}
use Rattle.circ.specs.Log.Log.{settled_place}
use Rattle.procs.specs.SoundCalls.{SoundCall}
use Rattle.store_promise.specs.OpenSince.{HasPreservedFiles, IsOpenSince, PreservesFiles, LeavesBeginning}
use Rattle.store_promise.specs.Progress.{Begun, Progress, Stage, At, Idle, Called, Planning, Reading, Read}
use Rattle.store_promise.specs.Progress.{Refused, Again}
use Rattle.store_promise.specs.Progress.{Waiting, is_idle, progressed}
use Rattle.store_promise.specs.Running.{IsFetchOver, IsRunningOver, at_rest as quiet}
use Rattle.store_promise.specs.Schedule.{IsStepOfRead}
use Rattle.store_promise.specs.declared.answers.CallAnswer.{CallAnswer}
use Rattle.store_promise.specs.declared.answers.Verdict.{Verdict}
use Rattle.store_promise.specs.declared.events.Step.{Step}
use Rattle.store_promise.specs.declared.events.Step.TheVariants as step
use Rattle.store.specs.Runs.AtWork.{IsCoreAtWork, fetches_in, fetches_of}
use Rattle.store.specs.Calling.{IsBegunFor, GoesTo, HasAnswered, HasStepped, HasWaited, IsCalling, IsOpenAt, IsOpenWith}
use Rattle.store.specs.Calling.{IsAfter, IsAtStage}
use Rattle.store.specs.Calling.{LeavesFiles, Outset, StandsWith, Tells}
use Rattle.store_images.specs.Further.{LeavesOpen, RunsOn}
use Rattle.store_images.specs.Opening.{Opened, store_of}
use Rattle.store_images.specs.Settling.{IsIdle}
use Rattle.store_images.specs.SettlingStops.{PreservesPrefixes, StaysOpen}
use Rattle.store_workers.specs.Phases.{is_ready}
use Rattle.store_workers.specs.Seen.{seen_in}
use Rattle.store_workers.specs.Knowing.{nothing_known}
use Rattle.store_workers.specs.Stages.{IsJobIn, IsJobOf, IsWorkerAt, StandsAt, at_stage, begun_of}
use Rattle.store_workers.specs.Stages.{progress_in, progress_of}
use Rattle.store_workers.specs.RunReports.{reported}
use Rattle.store_workers.specs.WorkTells.{TellsRead}
use Rattle.store_workers.specs.Worker.{Fits, GoesWith, IsCoreOf, ReadsWithin, at_rest, ctx_of, with_call}
use Rattle.store_workers.specs.WorkerReads.{with_read}
use Rattle.store_workers.specs.declared.workers.Worker.{Worker}
use Rattle.store_workers.specs.declared.workers.parts.Job.{Job as WorkJob}
use Rattle.store_workers.specs.declared.workers.parts.Phase as phases
use Rattle.store_workers.specs.declared.workers.parts.Phase.TheVariants as Phase
use Rattle.store_workers.specs.declared.workers.parts.State.{State}
use Rattle.store_workers.specs.declared.workers.parts.Work.{Work}
use Rattle.store.proofs.CallStages.{begun_then, broken_after, comes_then, stage_still, tells_still}
use Rattle.store.proofs.CallSteps.{open_of, runs_of, setting_of}
use Rattle.store.proofs.DrivenSingle.{starts_single}
use Rattle.store.proofs.RunsLemmas.GoingOn.{still_at_work}
use Rattle.store_workers.proofs.HowFar.{some_of}
use Rattle.store_promise.proofs.Later.{past_more, past_none, past_one}
use Rattle.store_images.proofs.Later.{some_image}
use Rattle.store_images.proofs.Staying.{preserved_along, none_left, stops_along}
use Rattle.store_images.proofs.Lost.{broken_along}
use Rattle.store_images.proofs.StillOpen.{further_then, same_further}

-- ---- a call begins

abbrev handed_to : Outset → State
handed_to o = with_call (ctx_of o.asked.credential o.asked.moment) o.asked.call at_rest

pub begins : (o : Outset) (worker : State) → SoundCall o.asked.credential o.asked.moment o.asked.call
    → IsIdle o.store.core
    → worker ≡ handed_to o
    → GoesWith worker o.store.core → IsOpenWith o.store o.first o.entries o.last → IsCalling o o.store worker
begins o worker sound idle is with opened = record {
  entry = None;
  last = o.last;
  base = opened.base;
  boot = refl;
  comes = refl;
  past = past_none o.store.device;
  is_preserved = none_left o.store.device o.store.boot o.first (o.entries ++ []) (settled_place o.store.core.log);
  opened = subst (λ (w : State). IsOpenAt opened.base o.store (fetches_of w) o.first (o.entries ++ [])
      o.last) (sym is)
      (subst (λ (es : List Entry). IsOpenAt opened.base o.store [] o.first es o.last)
      (sym (append-nil o.entries)) opened.opened);
  stands = subst (λ (w : State). IsWorkerAt o.store.boot (o.entries ++ []) w) (sym is) (record {
    entry = refl;
    answer = refl;
    stands = sound;
  });
  at_work = subst (λ (w : State). IsCoreAtWork w o.store.core) (sym is) (record {
    with = subst (λ (w : State). GoesWith w o.store.core) is with;
    single_worker = starts_single (handed_to o) o.store.core (ctx_of o.asked.credential o.asked.moment) o.asked.call refl idle.out idle.fetches;
    loads = tt;
    traces = tt;
  });
  so_far = subst (λ (w : State). IsAtStage o None o.store (progress_of w)) (sym is)
      (refl, (refl, λ unserved. refl));
  counted = omega arith;
  further = same_further o.store.core;
  broken = λ broken. inl broken;
}

-- ---- a read

more_failed : (before after : Device) (answer : Result Unit Failed) → CountsFailure before after answer
    → before.failures ≤ after.failures
more_failed before after (Ok done) counts = omega (arith, counts)
more_failed before after (Err failed) counts = omega (arith, counts)

was_counted : (before after : Device) (answer : Result Unit Failed) → CountsFailure before after answer
    → is_ok answer ≡ false → before.failures < after.failures
was_counted before after (Ok done) counts failed = cc
was_counted before after (Err error) counts failed = omega (arith, counts)

none_made : (made : Step) → Some made ≡ None → ⊥
none_made made same = cc

-- a call of the device leaves what each stop before it left
abbrev pub PreservesByCall : Type 0
PreservesByCall = (before old new : Device) (base : Image) (core : CoreState) (logging installing : Pending)
    (boot settled : ℕ) (first last : Tree) (entries : List Entry)
    → HasPreservedFiles before old boot first entries settled
    → IsOpenSince base old core logging installing boot first entries last → settled ≤ settled_place core.log
    → OneLater old new → HasPreservedFiles before new boot first entries settled

module _ (o : Outset) (now : Opened) (device : Device) (worker : State)
    (calling : IsCalling o now worker) (io : Fetch) (content : Content) (answer : Result Unit Failed)
    (failure : CountsFailure now.device device answer) (one : OneLater now.device device) where
  abbrev later : Opened
  later = record now { device = device }

  abbrev read : State
  read = with_read (is_ok answer) io content worker

  abbrev made : Step
  made = step.Read io.block (is_ok answer)

  after : IsAfter now later
  after = record {
    past = past_one now.device device one;
    failures = more_failed now.device device answer failure;
    further = same_further now.core;
  }

  stage_by : (broken : Bool) (p : Progress) → IsStepOfRead p (Some made) → IsAtStage o calling.entry now p
      → IsAtStage o calling.entry later (progressed broken made p)
  stage_by broken Idle may has = tt
  stage_by broken (At job (Called known)) may has = absurd (none_made made may)
  stage_by broken (At job (Planning begun)) may has = absurd (none_made made may)
  stage_by broken (At job (Reading begun taken)) may has = (has.0, by (is_ok answer) refl)
    where
      by : (ok : Bool) → is_ok answer ≡ ok → StandsWith o calling.entry later (Read begun taken ok)
      by true is = (has.1.0, begun_then o now later after begun.number has.1.1)
      by false is =
          let was = calling.counted in
          let more = was_counted now.device device answer failure is in
          (has.1.0, begun_then o now later after begun.number has.1.1, omega (arith, was, more))
  stage_by broken (At job (Read begun taken ok)) may has = absurd (none_made made may)
  stage_by broken (At job (Refused begun why)) may has = absurd (none_made made may)
  stage_by broken (At job (Again begun request)) may has = absurd (none_made made may)
  stage_by broken (At job (Waiting place)) may has = absurd (none_made made may)

  preserved_then : PreservesByCall → HasPreservedFiles o.store.device device o.store.boot o.first
      (o.entries ++ option_to_list calling.entry) (settled_place o.store.core.log)
  preserved_then preserves = preserves o.store.device now.device device calling.base now.core nothing_out
      nothing_out o.store.boot
      (settled_place o.store.core.log) o.first calling.last
      (o.entries ++ option_to_list calling.entry) calling.is_preserved
      (subst (λ (boot : ℕ). IsOpenSince calling.base now.device now.core nothing_out nothing_out boot o.first
      (o.entries ++ option_to_list calling.entry) calling.last) calling.boot calling.opened.since)
      calling.further.settled one

  pub was_read : PreservesByCall
      → TellsRead o.store.boot (o.entries ++ option_to_list calling.entry) worker (Some made) read
      → IsCoreAtWork read now.core
      → IsRunningOver (setting_of calling.base now (fetches_of worker) o.first
      (o.entries ++ option_to_list calling.entry) calling.last calling.opened) calling.base
      (quiet device now.core)
      (fetches_of read) now.boot o.first (o.entries ++ option_to_list calling.entry) calling.last
      → IsCalling o later read
  was_read preserves tells at_work run = record {
    entry = calling.entry;
    last = calling.last;
    base = calling.base;
    boot = calling.boot;
    comes = comes_then o now later after calling.entry calling.last calling.comes;
    past = past_more o.store.device now.device device calling.past (past_one now.device device one);
    is_preserved = preserved_then preserves;
    opened = open_of _ calling.base later (fetches_of read) o.first (o.entries ++ option_to_list calling.entry)
        calling.last run;
    stands = tells.stands;
    at_work = at_work;
    so_far = subst (IsAtStage o calling.entry later) (sym (tells.progress now.core.log.broken))
        (stage_by now.core.log.broken (progress_of worker) tells.may calling.so_far);
    counted = let was = calling.counted in let more = after.failures in omega (arith, was, more);
    further = calling.further;
    broken = λ is. broken_after o now later after (calling.broken is);
  }

-- ---- a settling

module _ (o : Outset) (now : Opened) (device : Device) (core : CoreState) (worker : State) (waits : Bool)
    (served : waits ≡ true → begins_transaction o.asked.call ≡ true)
    (waited : HasWaited waits now.device now.core device core)
  where
    abbrev opens : LeavesOpen now.device now.core device core
    opens = waited.opens

    abbrev settled : Opened
    settled = store_of device core now.boot

    abbrev pub still_after : IsAfter now settled
    still_after = record { past = opens.past; failures = opens.failures; further = opens.further }

    -- where the call isn't served, there was nothing to wait for
    pub same_unserved : begins_transaction o.asked.call ≡ false → settled ≡ now
    same_unserved unserved = by waits refl
      where
        by : (is : Bool) → waits ≡ is → settled ≡ now
        by true is = absurd (true≢false (sym (served is) ∙ unserved))
        by false is = let none = waited.none is in λ i. store_of (none.0 i) (none.1 i) now.boot

    module _ (calling : IsCalling o now worker) (with : GoesWith worker core) where
      abbrev entries : List Entry
      entries = o.entries ++ option_to_list calling.entry

      run : IsRunningOver (setting_of calling.base now (fetches_of worker) o.first entries calling.last
          calling.opened) calling.base (quiet now.device now.core) (fetches_of worker) now.boot o.first
          entries calling.last
      run = runs_of calling.base now (fetches_of worker) o.first entries calling.last calling.opened

      next : RunsOn (setting_of calling.base now (fetches_of worker) o.first entries calling.last
          calling.opened) device core (fetches_of worker) now.boot o.first entries calling.last
      next = opens.runs _ calling.base (fetches_of worker) now.boot o.first calling.last entries run

      stays : StaysOpen now.device now.core device core now.boot o.first entries calling.last
      stays = waited.stays calling.base now.boot o.first calling.last entries calling.opened.since

      preserved_on : HasPreservedFiles o.store.device device o.store.boot o.first entries (settled_place o.store.core.log)
      preserved_on = preserved_along o.store.device now.device device o.store.boot (settled_place o.store.core.log)
          (settled_place now.core.log) o.first entries calling.past stays.past
          calling.further.settled calling.is_preserved
          (subst (λ (boot : ℕ). HasPreservedFiles now.device device boot o.first entries
          (settled_place now.core.log)) calling.boot stays.left)

      abbrev settles_on : IsCalling o settled worker
      settles_on = record {
        entry = calling.entry;
        last = calling.last;
        base = next.home;
        boot = calling.boot;
        comes = comes_then o now settled still_after calling.entry calling.last calling.comes;
        past = past_more o.store.device now.device device calling.past stays.past;
        is_preserved = preserved_on;
        opened = open_of _ next.home settled (fetches_of worker) o.first entries calling.last next.running;
        stands = calling.stands;
        at_work = still_at_work now.core core opens.core (sym next.running.blocks ∙ run.blocks) worker with
            calling.at_work;
        so_far = stage_still o now settled still_after same_unserved calling.entry (progress_of worker)
            calling.so_far;
        counted = let was = calling.counted in let more = opens.failures in omega (arith, was, more);
        further = further_then o.store.core now.core core calling.further opens.further;
        broken = λ is. broken_along o.store.core.log now.core.log o.store.device now.device device
            calling.past opens.past calling.broken (opens.failed is);
      }

answer_still : (o : Outset) (now new : Opened) (is_after : IsAfter now new) → new.core.begun ≡ now.core.begun
    → (begins_transaction o.asked.call ≡ false → new ≡ now) → (entry : Option Entry) (found : Option CallAnswer)
    → IfSome found (λ ready. Tells o entry ready.verdict now)
    → IfSome found (λ ready. Tells o entry ready.verdict new)
answer_still o now new is_after begun same entry None is = tt
answer_still o now new is_after begun same entry (Some ready) is =
    tells_still o now new is_after begun (λ unserved few. same unserved) entry ready.verdict is

pub settled_step : (o : Outset) (now : Opened) (device : Device) (core : CoreState) (worker : State)
    (waits : Bool)
    (served : waits ≡ true → begins_transaction o.asked.call ≡ true)
    (waited : HasWaited waits now.device now.core device core)
    → HasStepped o now worker → GoesWith (reported worker) core
    → HasStepped o (store_of device core now.boot) worker
settled_step o now device core worker waits served waited stepped with = record {
  calling = settles_on o now device core (reported worker) waits served waited stepped.calling with;
  ends = stepped.ends;
  answer = answer_still o now (store_of device core now.boot)
      (still_after o now device core (reported worker) waits served waited) waited.opens.core.begun
      (same_unserved o now device core (reported worker) waits served waited) stepped.calling.entry
      worker.work.answer stepped.answer;
}

-- one store led to another, and that to a third
pub gone_on : (a b c : Opened) → GoesTo a b → GoesTo b c → GoesTo a c
gone_on a b c one two = record {
  past = past_more a.device b.device c.device one.past two.past;
  failures = let x = one.failures in let y = two.failures in omega (arith, x, y);
  further = further_then a.core b.core c.core one.further two.further;
  failed = λ broken. broken_along a.core.log b.core.log a.device b.device c.device one.past two.past one.failed
      (two.failed broken);
}

-- what is settled behind an open store's call leaves it open, for whatever it was
pub settled_open : (now : Opened) (device : Device) (core : CoreState) (first : Tree) (entries : List Entry)
    (last : Tree) → LeavesOpen now.device now.core device core → IsOpenWith now first entries last
    → IsOpenWith (store_of device core now.boot) first entries last
settled_open now device core first entries last opens opened =
    let at = opened.opened in
    let s = setting_of opened.base now [] first entries last at in
    let next = opens.runs s opened.base [] now.boot first last entries
    (runs_of opened.base now [] first entries last at)
    in
    record {
      base = next.home;
      opened = open_of s next.home (store_of device core now.boot) [] first entries last next.running;
    }

-- what each stop leaves then
files_then : (o : Outset) (entries : List Entry) (last : Tree) (now : Opened) (device : Device)
    (core : CoreState)
    → AreBlocks device → now.boot ≡ o.store.boot → settled_place o.store.core.log ≤ settled_place now.core.log
    → PreservesPrefixes now.device now.core device core → IsOpenWith now o.first entries last
    → LeavesFiles o entries now
    → LeavesFiles o entries (store_of device core now.boot)
files_then o entries last now device core blocks boot further preserves opened files =
    let is_preserved = preserves opened.base now.boot o.first last entries opened.opened.since in
    let past = past_more o.store.device now.device device files.past is_preserved.past in
    record {
      past = past;
      left = some_image o.store.device device blocks;
      stops = stops_along o.store.device now.device device o.store.boot (settled_place o.store.core.log)
          (settled_place now.core.log) o.first entries is_preserved.past further
          (λ clock image above below crash. files.stops clock image above (omega (arith, below)) crash)
          (subst (λ (b : ℕ). PreservesFiles now.device device b o.first entries (settled_place now.core.log)) boot
          is_preserved.stops);
      ended = λ image crash.
          subst (λ (b : ℕ). LeavesBeginning device.size b o.first entries (settled_place core.log) image) boot
          (is_preserved.ended image crash);
    }

-- The store once a call was answered: where it kept too many commits, it is settled.
pub settled_answer : (o : Outset) (verdict : Verdict) (now : Opened) (device : Device) (core : CoreState)
    (opens : LeavesOpen now.device now.core device core) → PreservesPrefixes now.device now.core device core
    → AreBlocks device → MOST_UNINSTALLED_COMMITS < length now.core.records → HasAnswered o verdict now
    → HasAnswered o verdict (store_of device core now.boot)
settled_answer o verdict now device core opens preserves blocks many has = record {
  entry = has.entry;
  last = has.last;
  boot = has.boot;
  comes = comes_then o now (store_of device core now.boot)
      (record { past = opens.past; failures = opens.failures; further = opens.further }) has.entry has.last
      has.comes;
  files = files_then o (o.entries ++ option_to_list has.entry) has.last now device core blocks has.boot
      has.goes.further.settled preserves has.opened has.files;
  opened = settled_open now device core o.first (o.entries ++ option_to_list has.entry) has.last
      opens has.opened;
  goes = gone_on o.store now (store_of device core now.boot) has.goes
      (record {
        past = opens.past;
        failures = opens.failures;
        further = opens.further;
        failed = opens.failed;
      });
  tells = tells_still o now (store_of device core now.boot)
      (record { past = opens.past; failures = opens.failures; further = opens.further }) opens.core.begun
      (λ unserved few. absurd (omega (arith, many, few))) has.entry verdict has.tells;
}

-- ---- it begins again

stage_again : (o : Outset) (now : Opened) (entry : Option Entry) (job : Option WorkJob) (begun other : Begun)
    → begun.number ≡ other.number → IsAtStage o entry now (at_stage job (Planning begun))
    → IsAtStage o entry now (at_stage job (Again other None))
stage_again o now entry None begun other same has = tt
stage_again o now entry (Some job) begun other same has =
    (has.0, (has.1.0, subst (IsBegunFor o now) same has.1.1))

ends_again : (job : Option WorkJob) (begun other : Begun) → is_idle (at_stage job (Planning begun)) ≡ true
    → is_idle (at_stage job (Again other None)) ≡ true
ends_again None begun other ends = refl
ends_again (Some job) begun other ends = ends

-- a worker that begins again, and knows nothing
abbrev pub again : State → State
again worker = record worker { phase = Phase.Again; known = nothing_known }

pub again_goes : (o : Outset) (now : Opened) (worker : State) → HasStepped o now worker
    → worker.phase ≡ Phase.Planning → GoesWith (reported (again worker)) now.core → HasStepped o now (again worker)
again_goes o now worker stepped planning with =
    let was = stepped.calling in
    let entries = o.entries ++ option_to_list was.entry in
    record {
      calling = record {
        entry = was.entry;
        last = was.last;
        base = was.base;
        boot = was.boot;
        comes = was.comes;
        past = was.past;
        is_preserved = was.is_preserved;
        opened = subst (λ fetches. IsOpenAt was.base now fetches o.first entries was.last)
            (ap (λ (p : phases.Phase). fetches_in p worker.begun.io) planning) was.opened;
        stands = record {
          entry = was.stands.entry;
          answer = was.stands.answer;
          stands = subst (λ (p : phases.Phase). StandsAt o.store.boot entries p (reported worker)) planning
              was.stands.stands;
        };
        at_work = record {
          with = with;
          single_worker = record {
            out = was.at_work.single_worker.out;
            fetches = was.at_work.single_worker.fetches;
            left = refl;
            plans = tt;
          };
          loads = tt;
          traces = tt;
        };
        so_far = stage_again o now was.entry worker.work.job
            (begun_of worker.begun.tx (seen_in worker.work.planner) worker.known)
            (begun_of worker.begun.tx (seen_in worker.work.planner) nothing_known) refl
            (subst (λ (p : phases.Phase). IsAtStage o was.entry now (progress_in p worker.work.job
            (begun_of worker.begun.tx (seen_in worker.work.planner) worker.known) worker.asked worker.known)) planning
            was.so_far);
        counted = was.counted;
        further = was.further;
        broken = was.broken;
      };
      ends = λ some. ends_again worker.work.job
          (begun_of worker.begun.tx (seen_in worker.work.planner) worker.known)
          (begun_of worker.begun.tx (seen_in worker.work.planner) nothing_known)
          (subst (λ (p : phases.Phase). is_idle (progress_in p worker.work.job
          (begun_of worker.begun.tx (seen_in worker.work.planner) worker.known) worker.asked worker.known)
          ≡ true) planning (stepped.ends some));
      answer = stepped.answer;
    }

-- ---- what a worker goes with, once what it gave was taken

ready_once_reported : (phase : phases.Phase) (work : Work)
    → is_ready phase (record work { entry = None; answer = None }) ≡ is_ready phase work
ready_once_reported Phase.Idle work = refl
ready_once_reported Phase.Called work = refl
ready_once_reported Phase.Planning work = refl
ready_once_reported Phase.Reading work = refl
ready_once_reported (Phase.Read ok) work = refl
ready_once_reported (Phase.Refused why) work = refl
ready_once_reported Phase.Again work = refl
ready_once_reported (Phase.Waiting place) work = refl

pub goes_once_reported : (worker : Worker) (core : CoreState) → Fits worker core → GoesWith (reported worker.state) core
goes_once_reported worker core fits = record {
  sound = record {
    transaction = worker.transaction;
    fetch = worker.fetch;
    ready = ready_once_reported worker.state.phase worker.state.work ∙ worker.ready;
  };
  core_of = record { out = fits.out; reads = fits.reads; lawful = fits.lawful };
}

-- a worker of which nothing lies ready has nothing to tell
pub none_to_tell : (worker : State) → worker.work.entry ≡ None → worker.work.answer ≡ None
    → reported worker ≡ worker
none_to_tell worker entry answer = λ i.
    record worker { work = record worker.work { entry = sym entry i; answer = sym answer i } }

-- a transaction is out of a core with the same transactions, too
still_out : (old new : CoreState) (tx : Option ℕ) → new.out ≡ old.out → IfSome tx (IsOut old)
    → IfSome tx (IsOut new)
still_out old new None out is = tt
still_out old new (Some tx) out is = ap (λ (o : List ℕ). list_any (λ other. nat_eq other tx) o) out ∙ is

-- and so such a core fits the worker
pub still_fits : (state : State) (old new : CoreState) → IsCoreOf state old → new.out ≡ old.out
    → new.log.blocks ≡ old.log.blocks → new.inodes ≡ old.inodes → IsCoreOf state new
still_fits state old new fits out blocks inodes = record {
  out = still_out old new state.begun.tx out fits.out;
  reads = subst (λ (n : ℕ). ReadsWithin n state) (sym blocks) fits.reads;
  lawful = subst (λ (n : ℕ). IsLawful n new.inodes) (sym blocks)
      (subst (λ (n : ℕ). IsLawful old.log.blocks n) (sym inodes) fits.lawful);
}

-- ---- a call that was answered

no_stage : (found : Option WorkJob) (job : WorkJob) (stage : Stage) → found ≡ Some job
    → is_idle (at_stage found stage) ≡ true → ⊥
no_stage found job stage is idle =
    true≢false (sym (subst (λ (o : Option WorkJob). is_idle (at_stage o stage) ≡ true) is idle))

none_of : (P : WorkJob → Type 0) (found : Option WorkJob) (stage : Stage) → IsSomeAnd found P
    → is_idle (at_stage found stage) ≡ true → ⊥
none_of P found stage has idle = let (job, is, rest) = some_of found has in no_stage found job stage is idle

idle_by : (boot : ℕ) (done : List Entry) (state : State) (phase : phases.Phase) → StandsAt boot done phase state
    → is_idle (progress_in phase state.work.job (begun_of state.begun.tx (seen_in state.work.planner)
    state.known) state.asked state.known) ≡ true
    → phase ≡ Phase.Idle
idle_by boot done state Phase.Idle stands idle = refl
idle_by boot done state Phase.Called stands idle =
    absurd (none_of IsJobOf state.work.job _ stands idle)
idle_by boot done state Phase.Planning stands idle =
    absurd (none_of (IsJobIn boot state.begun.tx) state.work.job _ stands idle)
idle_by boot done state Phase.Reading stands idle =
    absurd (none_of (IsJobIn boot state.begun.tx) state.work.job _ stands.0 idle)
idle_by boot done state (Phase.Read ok) stands idle =
    absurd (none_of (IsJobIn boot state.begun.tx) state.work.job _ stands.0 idle)
idle_by boot done state (Phase.Refused why) stands idle =
    absurd (none_of (IsJobIn boot state.begun.tx) state.work.job _ stands idle)
idle_by boot done state Phase.Again stands idle =
    absurd (none_of (IsJobIn boot state.begun.tx) state.work.job _ stands idle)
idle_by boot done state (Phase.Waiting place) stands idle =
    absurd (no_stage state.asked.waiting stands.job _ stands.job_is idle)

-- each stop leaves a beginning, by the laws on a store that is open
abbrev pub PreservesNow : Type 0
PreservesNow = (before d : Device) (base : Image) (core : CoreState) (logging installing : Pending)
    (boot settled : ℕ) (first last : Tree) (entries : List Entry)
    → HasPreservedFiles before d boot first entries settled
    → IsOpenSince base d core logging installing boot first entries last → settled ≤ settled_place core.log
    → PreservesFiles before d boot first entries settled

abbrev pub StopsNow : Type 0
StopsNow = (base : Image) (d : Device) (core : CoreState) (logging installing : Pending) (boot : ℕ)
    (first last : Tree) (entries : List Entry) (image : Image)
    → IsOpenSince base d core logging installing boot first entries last → IsCrashImage d d.clock image
    → LeavesBeginning d.size boot first entries (settled_place core.log) image

files_now : PreservesNow → StopsNow → (o : Outset) (now : Opened) (worker : State) → AreBlocks now.device
    → (was : IsCalling o now worker) → LeavesFiles o (o.entries ++ option_to_list was.entry) now
files_now preserves stops o now worker blocks was =
    let entries = o.entries ++ option_to_list was.entry in
    let since = subst (λ (boot : ℕ). IsOpenSince was.base now.device now.core nothing_out nothing_out boot
    o.first entries was.last)
    was.boot was.opened.since in
    record {
      past = was.past;
      left = some_image o.store.device now.device blocks;
      stops = preserves o.store.device now.device was.base now.core nothing_out nothing_out o.store.boot
          (settled_place o.store.core.log) o.first was.last entries was.is_preserved since was.further.settled;
      ended = λ image crash.
          stops was.base now.device now.core nothing_out nothing_out o.store.boot o.first was.last entries
          image since crash;
    }

-- the store is open with what the call came to, and its worker is idle
pub answered : PreservesNow → StopsNow → (o : Outset) (now : Opened) (worker : State) (ready : CallAnswer)
    → AreBlocks now.device → HasStepped o now worker → Some ready ≡ worker.work.answer
    → HasAnswered o ready.verdict now × (worker.phase ≡ Phase.Idle)
answered preserves stops o now worker ready blocks stepped is =
    let was = stepped.calling in
    let some : is_some worker.work.answer ≡ true = ap is_some (sym is) in (
      record {
        entry = was.entry;
        last = was.last;
        boot = was.boot;
        comes = was.comes;
        files = files_now preserves stops o now (reported worker) blocks was;
        opened = record {
          base = was.base;
          opened = record {
            since = was.opened.since;
            stands = was.opened.stands;
            fetched = All-nil (IsFetchOver was.base now.core);
          };
        };
        goes = record {
          past = was.past;
          failures = was.counted;
          further = was.further;
          failed = was.broken;
        };
        tells = subst (λ (o2 : Option CallAnswer). IfSome o2
            (λ ready. Tells o was.entry ready.verdict now)) (sym is) stepped.answer;
      },
      idle_by o.store.boot (o.entries ++ option_to_list was.entry) (reported worker) worker.phase was.stands.stands
          (stepped.ends some),
    )
