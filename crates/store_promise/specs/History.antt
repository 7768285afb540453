-- Which procedures a run may say were committed.
use Rattle.std.specs.Prelude.{◌≡◌, ℕ, ◌+◌, ◌<◌, List, slice_get, Some}
use Rattle.disk.specs.declared.block.BlockNo.{BlockNo}
use Rattle.nfs_types.specs.declared.ctx.Ctx.{Ctx}
use Rattle.store_promise.specs.declared.events.Committing.TheVariants as committing
use Rattle.store_promise.specs.declared.events.Event.TheVariants as event
use Rattle.store_promise.specs.declared.events.Step.TheVariants as step
use Rattle.store_promise.specs.declared.transcript.Committed.{Committed}
use Rattle.store_promise.specs.Progress.{Job, Begun, At, Planning}
use Rattle.store_promise.specs.Schedule.{Schedule, progress_before}
use Rattle.store_promise.specs.Transcript.{Transcript, step_at, committed_at, device_calls}

-- what a procedure is run with: for whom and when its call was handed over, in this boot, and in the
-- transaction that was begun for it
abbrev pub ctx_of : ℕ → Job → Begun → Ctx
ctx_of boot job begun = record {
  credential = job.credential;
  moment = job.moment;
  boot = boot;
  transaction = begun.number;
}

-- The procedure was committed at this place: by a step of its worker that says so, for the call that the
-- worker was last handed, and at the clock of the device calls made by then.
pub record WasCommitted (events : Schedule) (t : Transcript) (place : ℕ) (c : Committed) : Type 0 where
  pub event : slice_get events c.event ≡ Some (event.Work c.worker)
  pub blocks : List BlockNo
  pub step : step_at t c.event ≡ Some (step.Commit blocks (committing.Committed (record { 0 = place })))
  pub job : Job
  pub begun : Begun
  pub planned : progress_before events t.steps c.worker c.event ≡ At job (Planning begun)
  pub ctx : c.ctx ≡ ctx_of t.boot job begun
  pub call : c.call ≡ job.call
  pub clock : c.clock ≡ device_calls t c.event

-- The history is that of the events: each entry was committed at its place, each commit has its entry, later
-- places were committed later, and no two have one transaction number.
pub record IsHistory (events : Schedule) (t : Transcript) : Type 0 where
  pub each : (index : ℕ) (c : Committed) → slice_get t.history index ≡ Some c
      → WasCommitted events t (index + 1) c
  pub whole : (at place : ℕ) (blocks : List BlockNo)
      → step_at t at ≡ Some (step.Commit blocks (committing.Committed (record { 0 = place })))
      → (c : Committed) × (committed_at t place ≡ Some c) × (c.event ≡ at)
  pub ordered : (one other : ℕ) (a b : Committed) → slice_get t.history one ≡ Some a
      → slice_get t.history other ≡ Some b → one < other → a.event < b.event
  pub numbers : (one other : ℕ) (a b : Committed) → slice_get t.history one ≡ Some a
      → slice_get t.history other ≡ Some b → a.ctx.transaction ≡ b.ctx.transaction → one ≡ other
