-- What is told of a call that is handed to a worker, and of its read.
use Rattle.std.proofs.Common.{◌≡◌, ◌∙◌, refl, sym, ap, subst, ℕ, Bool, Option, Some, None, List}
use Rattle.std.specs.Prelude.{IsSomeAnd}
use Rattle.disk.specs.Device.{Content}
use Rattle.nfs_types.specs.declared.call.Call.{Call}
use Rattle.nfs_types.specs.declared.ctx.Credential.{Credential}
use Rattle.nfs_types.specs.declared.ctx.Moment.{Moment}
use Rattle.objects.specs.declared.addr.Addr.{Addr}
use Rattle.objects.specs.declared.mode.Mode.{Mode}
use Rattle.nfs_spec.specs.Model.Entry.{Entry}
use Rattle.txn.specs.Fetch.{Fetch}
use Rattle.procs.specs.SoundCalls.{SoundCall}
use Rattle.store_promise.specs.Progress.{Progress}
use Rattle.store_promise.specs.Progress as run_progress
use Rattle.store_promise.specs.Schedule.{IsStepOfCall, IsStepOfRead}
use Rattle.store_promise.specs.declared.events.Cause.{Cause}
use Rattle.store_promise.specs.declared.events.Step.{Step}
use Rattle.store_promise.specs.declared.events.Step.TheVariants as step
use Rattle.store_workers.proofs.HowFar.{some_of}
use Rattle.store_promise.specs.declared.lock_requests.LockRequest.{LockRequest}
use Rattle.store_workers.specs.Asked.{Asking}
use Rattle.store_workers.specs.Knowing.{Knowing, known_in}
use Rattle.store_workers.specs.Seen.{seen_in}
use Rattle.store_workers.specs.Stages.{IsFetchOf, IsJobIn, IsJobOf, IsWorkerAt, RunsIn, StandsAt, at_fetch}
use Rattle.store_workers.specs.Stages.{at_stage, begun_of, progress_in}
use Rattle.store_workers.specs.Stages.{progress_of}
use Rattle.store_workers.specs.RunReports.{TakesCall}
use Rattle.store_workers.specs.WorkTells.{TellsCall, TellsRead, progress_after}
use Rattle.store_workers.specs.Worker.{ctx_of}
use Rattle.store_workers.specs.WorkerReads.{with_read}
use Rattle.store_workers.specs.declared.workers.parts.Job.{Job}
use Rattle.store_workers.specs.declared.workers.parts.Phase.{Phase}
use Rattle.store_workers.specs.declared.workers.parts.Phase.TheVariants.{Idle, Called, Planning}
use Rattle.store_workers.specs.declared.workers.parts.Phase.TheVariants.{Reading, Read}
use Rattle.store_workers.specs.declared.workers.parts.Phase.TheVariants.{Refused, Again, Waiting}
use Rattle.store_workers.specs.declared.workers.parts.State.{State}

-- ---- a call

-- a worker with a call takes none
takes_none : (boot : ℕ) (entries : List Entry) (state : State) (phase : Phase)
    → StandsAt boot entries phase state
    → (phase ≡ Idle → ⊥)
    → IsStepOfCall (progress_in phase state.work.job (begun_of state.begun.tx (seen_in state.work.planner)
    state.known) state.asked state.known) None
takes_none boot entries state phase stands busy = by phase stands busy
  where
    at : (found : Option Job) (job : Job) (stage : run_progress.Stage) → found ≡ Some job
        → IsStepOfCall (at_stage found stage) None
    at found job stage is = subst (λ j. IsStepOfCall (at_stage j stage) None) (sym is) refl

    has : (P : Job → Type 0) (stage : run_progress.Stage) → IsSomeAnd state.work.job P
        → IsStepOfCall (at_stage state.work.job stage) None
    has P stage some = let (job, is, rest) = some_of state.work.job some in at state.work.job job stage is

    runs : (stage : run_progress.Stage) → RunsIn boot state → IsStepOfCall (at_stage state.work.job stage) None
    runs stage stands = has (IsJobIn boot state.begun.tx) stage stands

    by : (phase : Phase) → StandsAt boot entries phase state → (phase ≡ Idle → ⊥)
        → IsStepOfCall (progress_in phase state.work.job (begun_of state.begun.tx (seen_in state.work.planner)
        state.known) state.asked state.known) None
    by Idle stands busy = absurd (busy refl)
    by Called stands busy = has IsJobOf (run_progress.Called (known_in state.known)) stands
    by Planning stands busy = runs _ stands
    by Reading stands busy = runs _ stands.0
    by (Read ok) stands busy = runs _ stands.0
    by (Refused why) stands busy = runs _ stands
    by Again stands busy = runs _ stands
    by (Waiting place) stands busy = at state.asked.waiting stands.job _ stands.job_is

pub call_is_traced : (boot : ℕ) (entries : List Entry) (credential : Credential) (moment : Moment) (call : Call)
    (old new : State) (made : Option Step) → SoundCall credential moment call
    → IsWorkerAt boot entries old
    → TakesCall (ctx_of credential moment) call old made new
    → TellsCall boot entries (record { credential = credential; moment = moment; call = call }) old made new
call_is_traced boot entries credential moment call old new (Some made) sound at takes = record {
  may = subst (λ p. IsStepOfCall (progress_in p old.work.job (begun_of old.begun.tx (seen_in old.work.planner)
      old.known) old.asked old.known) (Some made)) (sym takes.1) (ap (λ m. Some m) takes.0);
  progress = ap progress_of takes.2;
  stands = subst (λ s. IsWorkerAt boot entries s) (sym takes.2) (record {
    entry = at.entry;
    answer = at.answer;
    stands = sound;
  });
}
call_is_traced boot entries credential moment call old new None sound at takes = record {
  may = takes_none boot entries old old.phase at.stands takes.1;
  progress = ap progress_of takes.0;
  stands = subst (λ s. IsWorkerAt boot entries s) (sym takes.0) at;
}

-- ---- a read

-- nothing is read at another stage
module _ (found : Option Job) where
  at_called : (known : List LockRequest) → IsStepOfRead (at_stage found (run_progress.Called known)) None
  at_called known = by found
    where
      by : (o : Option Job) → IsStepOfRead (at_stage o (run_progress.Called known)) None
      by None = refl
      by (Some job) = refl

  at_planning : (begun : run_progress.Begun) → IsStepOfRead (at_stage found (run_progress.Planning begun)) None
  at_planning begun = by found
    where
      by : (o : Option Job) → IsStepOfRead (at_stage o (run_progress.Planning begun)) None
      by None = refl
      by (Some job) = refl

  at_read : (begun : run_progress.Begun) (ok : Bool) (mode : Mode) (fetch_addr : Option Addr)
      → IsStepOfRead (at_stage found (at_fetch (λ taken. run_progress.Read begun taken ok) begun mode fetch_addr)) None
  at_read begun ok mode fetch_addr = by found fetch_addr
    where
      by : (o : Option Job) (fetch_addr : Option Addr)
          → IsStepOfRead (at_stage o (at_fetch (λ taken. run_progress.Read begun taken ok) begun mode fetch_addr)) None
      by None fetch_addr = refl
      by (Some job) None = refl
      by (Some job) (Some addr) = refl

  at_refused : (begun : run_progress.Begun) (why : Cause) → IsStepOfRead (at_stage found (run_progress.Refused begun why)) None
  at_refused begun why = by found
    where
      by : (o : Option Job) → IsStepOfRead (at_stage o (run_progress.Refused begun why)) None
      by None = refl
      by (Some job) = refl

  at_again : (begun : run_progress.Begun) (request : Option LockRequest)
      → IsStepOfRead (at_stage found (run_progress.Again begun request)) None
  at_again begun request = by found
    where
      by : (o : Option Job) → IsStepOfRead (at_stage o (run_progress.Again begun request)) None
      by None = refl
      by (Some job) = refl

  at_waiting : (place : ℕ) → IsStepOfRead (at_stage found (run_progress.Waiting place)) None
  at_waiting place = by found
    where
      by : (o : Option Job) → IsStepOfRead (at_stage o (run_progress.Waiting place)) None
      by None = refl
      by (Some job) = refl

none_due : (phase : Phase) (found : Option Job) (begun : run_progress.Begun) (asked : Asking) (knowing : Knowing)
    → (phase ≡ Reading → ⊥)
    → IsStepOfRead (progress_in phase found begun asked knowing) None
none_due Idle found begun asked knowing not = refl
none_due Called found begun asked knowing not = at_called found (known_in knowing)
none_due Planning found begun asked knowing not = at_planning found begun
none_due Reading found begun asked knowing not = absurd (not refl)
none_due (Read ok) found begun asked knowing not = at_read found begun ok asked.mode asked.fetch_addr
none_due (Refused why) found begun asked knowing not = at_refused found begun why
none_due Again found begun asked knowing not = at_again found begun knowing.off
none_due (Waiting place) found begun asked knowing not = at_waiting asked.waiting place.0

pub no_read_is_traced : (boot : ℕ) (entries : List Entry) (old : State) → IsWorkerAt boot entries old
    → (old.phase ≡ Reading → ⊥) → TellsRead boot entries old None old
no_read_is_traced boot entries old at not = record {
  may = none_due old.phase old.work.job _ old.asked old.known not;
  progress = λ broken. refl;
  stands = at;
}

-- the block that was due is read
module _ (boot : ℕ) (entries : List Entry) (old : State) (ok : Bool) (io : Fetch) (content : Content)
    (phase_is : old.phase ≡ Reading) (io_is : old.begun.io ≡ Some io) (at : IsWorkerAt boot entries old) where
  abbrev begun_then : run_progress.Begun
  begun_then = begun_of old.begun.tx (seen_in old.work.planner) old.known

  stood : RunsIn boot old × IsFetchOf old
  stood = subst (λ p. StandsAt boot entries p old) phase_is at.stands

  job_is : (job : Job) × (old.work.job ≡ Some job) × IsJobIn boot old.begun.tx job
  job_is = some_of old.work.job stood.0

  fetch_addr_is : (addr : Addr) × (old.asked.fetch_addr ≡ Some addr)
      × IsSomeAnd old.begun.io (λ (io : Fetch). io.block ≡ addr.block)
  fetch_addr_is = some_of old.asked.fetch_addr stood.1

  -- how far the worker was, by parts
  abbrev was : Phase → Option Job → Option Addr → Progress
  was phase job fetch_addr =
      progress_in phase job begun_then (record { fetch_addr = fetch_addr; mode = old.asked.mode; waiting = old.asked.waiting }) old.known

  was_reading : progress_of old ≡ was Reading (Some job_is.0) (Some fetch_addr_is.0)
  was_reading = ap (λ p. was p old.work.job old.asked.fetch_addr) phase_is
      ∙ ap (λ j. was Reading j old.asked.fetch_addr) job_is.1 ∙ ap (λ w. was Reading (Some job_is.0) w) fetch_addr_is.1

  same_block : io.block ≡ fetch_addr_is.0.block
  same_block = subst (λ o. IsSomeAnd o (λ (io : Fetch). io.block ≡ fetch_addr_is.0.block)) io_is fetch_addr_is.2

  pub read_is_traced : TellsRead boot entries old (Some (step.Read io.block ok)) (with_read ok io content old)
  read_is_traced = record {
    may = subst (λ p. IsStepOfRead p (Some (step.Read io.block ok))) (sym was_reading) same_block;
    progress = λ broken. ap (λ j. was (Read ok) j old.asked.fetch_addr) job_is.1
        ∙ ap (λ w. was (Read ok) (Some job_is.0) w) fetch_addr_is.1
        ∙ sym (ap (progress_after broken (Some (step.Read io.block ok))) was_reading);
    stands = record {
      entry = at.entry;
      answer = at.answer;
      stands = (
        stood.0,
        subst (λ o. IsSomeAnd o (λ (addr : Addr). io.block ≡ addr.block))
            (sym fetch_addr_is.1) same_block,
      );
    };
  }
