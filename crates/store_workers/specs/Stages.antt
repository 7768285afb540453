-- How far a worker is with its call, as a function of its state, and what holds of it between the events of a
-- run.
use Rattle.std.specs.Prelude.{◌≡◌, ℕ, zero, suc, true, Option, Some, None, IsSomeAnd, List, [], map, slice_get}
use Rattle.std.specs.Prelude.{◌^◌, ◌<◌, IfSome, unwrap_or}
use Rattle.disk.specs.declared.block.BlockNo.{BlockNo}
use Rattle.nfs_types.specs.declared.status.Status.TheVariants as status
use Rattle.objects.specs.declared.addr.Addr.{Addr}
use Rattle.objects.specs.declared.mode.Mode.{Mode}
use Rattle.nfs_spec.specs.Model.Entry.{Entry}
use Rattle.nfs_spec.specs.Model.Calls.{is_answered_stable}
use Rattle.nfs_spec.specs.Model.Refused.{refused}
use Rattle.circ.specs.declared.log.outcomes.Seq.{Seq}
use Rattle.txn.specs.Fetch.{Fetch}
use Rattle.store_promise.specs.Progress.{Progress, Stage, Taken}
use Rattle.store_promise.specs.Progress as run_progress
use Rattle.procs.specs.SoundCalls.{SoundCall}
use Rattle.store_workers.specs.Asked.{Asking}
use Rattle.store_workers.specs.Knowing.{Knowing, known_in}
use Rattle.store_workers.specs.Seen.{Seen, mode_in, seen_in}
use Rattle.store_workers.specs.declared.workers.parts.Job.{Job}
use Rattle.store_workers.specs.declared.workers.parts.Phase.{Phase}
use Rattle.store_workers.specs.declared.workers.parts.Phase.TheVariants.{Idle, Called, Planning}
use Rattle.store_workers.specs.declared.workers.parts.Phase.TheVariants.{Reading, Read}
use Rattle.store_workers.specs.declared.workers.parts.Phase.TheVariants.{Refused, Again, Waiting}
use Rattle.store_workers.specs.declared.workers.parts.State.{State}

-- an object in a mode
abbrev pub taken_as : Mode → Addr → Taken
taken_as mode addr = record { addr = addr; mode = mode }

-- the objects that were read, each in the mode in which it was asked for last, and the blocks that were claimed
abbrev pub held_in : Option Seen → List Taken
held_in None = []
held_in (Some seen) = map (λ object. taken_as (mode_in seen.exclusives object.addr) object.addr) seen.objects

abbrev pub claimed_in : Option Seen → List BlockNo
claimed_in None = []
claimed_in (Some seen) = seen.claims

-- a transaction, with what was read and claimed in it, what it has taken, and what is left to be taken again
abbrev pub begun_of : Option ℕ → Option Seen → Knowing → run_progress.Begun
begun_of tx seen knowing = record {
  number = unwrap_or tx 0;
  held = held_in seen;
  claimed = claimed_in seen;
  taken = knowing.taken;
  left = knowing.left;
}

-- what the worker was handed
abbrev pub handed : Job → run_progress.Job
handed job = record { credential = job.ctx.credential; moment = job.ctx.moment; call = job.call }

-- it is at this stage with a call
abbrev pub at_stage : Option Job → Stage → Progress
at_stage None stage = run_progress.Idle
at_stage (Some job) stage = run_progress.At (handed job) stage

-- a stage of an object whose block is fetched, as it is asked for in this mode
abbrev pub at_fetch : (Taken → Stage) → run_progress.Begun → Mode → Option Addr → Stage
at_fetch stage begun mode None = run_progress.Planning begun
at_fetch stage begun mode (Some addr) = stage (taken_as mode addr)

abbrev pub progress_in : Phase → Option Job → run_progress.Begun → Asking → Knowing → Progress
progress_in Idle job begun asked knowing = run_progress.Idle
progress_in Called job begun asked knowing = at_stage job (run_progress.Called (known_in knowing))
progress_in Planning job begun asked knowing = at_stage job (run_progress.Planning begun)
progress_in Reading job begun asked knowing =
    at_stage job (at_fetch (λ taken. run_progress.Reading begun taken) begun asked.mode asked.fetch_addr)
progress_in (Read ok) job begun asked knowing =
    at_stage job (at_fetch (λ taken. run_progress.Read begun taken ok) begun asked.mode asked.fetch_addr)
progress_in (Refused why) job begun asked knowing = at_stage job (run_progress.Refused begun why)
progress_in Again job begun asked knowing = at_stage job (run_progress.Again begun knowing.off)
progress_in (Waiting place) job begun asked knowing = at_stage asked.waiting (run_progress.Waiting place.0)

-- how far it is, as its steps tell it
abbrev pub progress_of : State → Progress
progress_of state = progress_in state.phase state.work.job
    (begun_of state.begun.tx (seen_in state.work.planner) state.known) state.asked state.known

-- ---- between the events

-- the entry of a place; places count from 1
abbrev pub entry_at : List Entry → ℕ → Option Entry
entry_at entries zero = None
entry_at entries (suc index) = slice_get entries index

-- a call that can be spelled was handed over,
abbrev pub IsJobOf : Job → Type 0
IsJobOf job = SoundCall job.ctx.credential job.ctx.moment job.call

-- as is the worker's, if it has one,
abbrev pub HasSoundJob : State → Type 0
HasSoundJob state = IfSome state.work.job IsJobOf

-- and runs in this boot and in this transaction
pub record IsJobIn (boot : ℕ) (tx : Option ℕ) (job : Job) : Type 0 where
  pub handed : IsJobOf job
  pub boot_is : job.ctx.boot ≡ boot
  pub transaction : tx ≡ Some job.ctx.transaction
  pub counted : job.ctx.transaction < 2 ^ 64

-- the worker's call does
abbrev pub RunsIn : ℕ → State → Type 0
RunsIn boot state = IsSomeAnd state.work.job (IsJobIn boot state.begun.tx)

-- the block that is fetched is that of the object that was asked for
abbrev pub IsFetchOf : State → Type 0
IsFetchOf state = IsSomeAnd state.asked.fetch_addr (λ addr.
    IsSomeAnd state.begun.io (λ (io : Fetch). io.block ≡ addr.block))

-- The procedure of a call that is to be answered stable was committed at this place: kept for it are its
-- reply and the refusal in its stead.
pub record WaitsFor (entries : List Entry) (place : Seq) (state : State) : Type 0 where
  pub job : Job
  pub job_is : state.asked.waiting ≡ Some job
  pub entry : Entry
  pub entry_is : entry_at entries place.0 ≡ Some entry
  pub call : entry.call ≡ job.call
  pub stable : is_answered_stable job.call ≡ true
  pub reply : state.work.reply ≡ Some entry.reply
  pub broken_reply : state.work.broken_reply ≡ Some (refused status.Io job.call)

-- what holds of it in each phase
abbrev pub StandsAt : ℕ → List Entry → Phase → State → Type 0
StandsAt boot entries Idle state = Unit {0}
StandsAt boot entries Called state = IsSomeAnd state.work.job IsJobOf
StandsAt boot entries Planning state = RunsIn boot state
StandsAt boot entries Reading state = RunsIn boot state × IsFetchOf state
StandsAt boot entries (Read ok) state = RunsIn boot state × IsFetchOf state
StandsAt boot entries (Refused why) state = RunsIn boot state
StandsAt boot entries Again state = RunsIn boot state
StandsAt boot entries (Waiting place) state = WaitsFor entries place state

-- A worker of a store of this boot, in which these procedures were committed: all that it gave is told.
pub record IsWorkerAt (boot : ℕ) (entries : List Entry) (state : State) : Type 0 where
  pub entry : state.work.entry ≡ None
  pub answer : state.work.answer ≡ None
  pub stands : StandsAt boot entries state.phase state
