-- One call of one thread: what it begins from, what holds while it is under way, and what it answers.
use Rattle.std.specs.Prelude.{◌≡◌, ℕ, ◌+◌, ◌^◌, ◌<◌, ◌≤◌, ◌⊎◌, true, false, Option, Some, None, IfSome, is_some}
use Rattle.std.specs.Prelude.{Bool, List, [], ◌++◌, All, length, option_to_list}
use Rattle.std.proofs.Common.{inl, inr}
use Rattle.base.specs.declared.TheConstants.{CHANGED_BLOCKS, MOST_UNINSTALLED_COMMITS}
use Rattle.disk.specs.Crash.{Image, IsCrashImage}
use Rattle.disk.specs.Device.{Device}
use Rattle.nfs_spec.specs.Model.Entry.{Entry}
use Rattle.nfs_spec.specs.Model.Calls.{begins_transaction, is_answered_stable}
use Rattle.nfs_spec.specs.Model.Refused.{refused}
use Rattle.nfs_spec.specs.Procedures.Step as procedures
use Rattle.nfs_spec.specs.Model.Tree.{Tree}
use Rattle.nfs_types.specs.declared.call.Call.{Call}
use Rattle.nfs_types.specs.declared.ctx.Credential.{Credential}
use Rattle.nfs_types.specs.declared.ctx.Moment.{Moment}
use Rattle.nfs_types.specs.declared.status.Status.TheVariants as status
use Rattle.nfs_types.specs.declared.reply.Reply.TheVariants.{Null}
use Rattle.layout.specs.Stands.{Stands}
use Rattle.inode.specs.Read.{AreAsRead}
use Rattle.inode.specs.declared.snap.Snap.{Snap}
use Rattle.txn_law.specs.Core.{CoreState}
use Rattle.txn_law.specs.Fetch.{Fetch}
use Rattle.txn_law.specs.Group.{blocks_of}
use Rattle.txn_law.specs.Window.{with_objects}
use Rattle.circ.specs.Log.Calls.{idle}
use Rattle.circ.specs.Log.Log.{added_blocks, settled_place}
use Rattle.circ.specs.Log.Room.{HasPlaces}
use Rattle.store_promise.specs.History.{ctx_of}
use Rattle.store_promise.specs.OpenSince.{HasPreservedFiles, IsOpenSince, PreservesFiles, LeavesBeginning, file_blocks}
use Rattle.store_promise.specs.Openings.{IsLater, LeavesImages}
use Rattle.procs.specs.Finished.{ChangesFew, EndsFrom}
use Rattle.procs.specs.Outcome.{Outcome}
use Rattle.procs.specs.SoundCalls.{SoundCall}
use Rattle.procs.specs.Steps.{IsStepOf}
use Rattle.store_promise.specs.Progress.{Begun, Job, Progress, Stage, At, Idle, Called, Planning, Reading, Read}
use Rattle.store_promise.specs.Progress.{Refused, Again, Waiting, is_idle}
use Rattle.store_promise.specs.Running.{IsFetchOver}
use Rattle.store_promise.specs.LogStateOf.{StandsAtHome}
use Rattle.store_promise.specs.Verdicts.{refusal}
use Rattle.store_promise.specs.declared.answers.Verdict.{Verdict}
use Rattle.store_promise.specs.declared.answers.Verdict.TheVariants as verdict
use Rattle.store_promise.specs.declared.events.Cause.{Cause}
use Rattle.store_promise.specs.declared.events.Cause.TheVariants as cause
use Rattle.store.specs.Runs.AtWork.{IsCoreAtWork, fetches_of}
use Rattle.store_images.specs.Further.{IsFurther, LeavesOpen}
use Rattle.store_images.specs.Opening.{Opened}
use Rattle.store_images.specs.Settling.{HasBroken, HasFailed}
use Rattle.store_images.specs.SettlingStops.{StayOpen}
use Rattle.store_workers.specs.Stages.{IsWorkerAt, progress_of}
use Rattle.store_workers.specs.RunReports.{reported}
use Rattle.store_workers.specs.declared.workers.parts.State.{State}

-- ---- an open store

-- A store is open over what is at home: its files lead from the first tree by these entries to the last, and
-- what was read and isn't given back yet is what is at home.
pub record IsOpenAt (base : Image) (store : Opened) (fetches : List Fetch) (first : Tree) (entries : List Entry)
    (last : Tree) : Type 0 where
  pub since : IsOpenSince base store.device store.core idle idle store.boot first entries last
  pub stands : StandsAtHome store.core.log
  pub fetched : All (IsFetchOver base store.core) fetches

-- so it is where no call is under way
pub record IsOpenWith (store : Opened) (first : Tree) (entries : List Entry) (last : Tree) : Type 0 where
  pub base : Image
  pub opened : IsOpenAt base store [] first entries last

-- One store led to another: its device's past stays, no failure is taken back, what is settled stays settled,
-- no number is given back, and it breaks only with a write or a barrier that failed. A read that failed breaks
-- nothing.
pub record GoesTo (old new : Opened) : Type 0 where
  pub past : IsLater old.device new.device
  pub failures : old.device.failures ≤ new.device.failures
  pub further : IsFurther old.core new.core
  pub failed : new.core.log.broken ≡ true → HasBroken old.core.log old.device new.device

-- a store later on: its device's past stays, no failure was taken back, and it has gone further
pub record IsAfter (now new : Opened) : Type 0 where
  pub past : IsLater now.device new.device
  pub failures : now.device.failures ≤ new.device.failures
  pub further : IsFurther now.core new.core

-- ---- a call

-- what was asked: for whom, when, and the call
abbrev pub asked_of : Credential → Moment → Call → Job
asked_of credential moment call = record { credential = credential; moment = moment; call = call }

-- what a call begins from: an open store, which has these files, and what is asked of it
pub record Outset : Type 0 where
  pub store : Opened
  pub first : Tree
  pub entries : List Entry
  pub last : Tree
  pub asked : Job

-- A transaction was begun for the call, which is one that is served. Its number is above each that was taken
-- before the call, and was taken by now: so no two calls, one after another, have the same.
pub record IsBegunFor (o : Outset) (now : Opened) (number : ℕ) : Type 0 where
  pub begins : begins_transaction o.asked.call ≡ true
  pub fresh : o.store.core.begun < number
  pub taken : number ≤ now.core.begun

-- the procedure of the call was committed: in this boot, in a transaction of its own, as a step of the
-- sequential server from the files as they were
pub record IsMadeFor (o : Outset) (now : Opened) (entry : Entry) (next : Tree) : Type 0 where
  pub begun : Begun
  pub begun_for : IsBegunFor o now begun.number
  pub ctx : entry.ctx ≡ ctx_of o.store.boot o.asked begun
  pub call : entry.call ≡ o.asked.call
  pub step : procedures.step o.last entry.ctx entry.call entry.reply next

-- so it was, or none was, and then the files are what they were
abbrev pub ComesTo : Outset → Opened → Option Entry → Tree → Type 0
ComesTo o now None last = last ≡ o.last
ComesTo o now (Some entry) last = IsMadeFor o now entry last

-- ---- why a call is refused

-- What a plan of the call is done with, in a transaction of the call: what it has read is what the blocks have that
-- stand for the files as they are. So its reply is that of a step of the sequential server from these files, and
-- the blocks with what it writes stand for the tree that the step leads to. It changes no more blocks than a
-- transaction may.
pub record IsPlannedFor (o : Outset) (at : Opened) (done : Outcome) : Type 0 where
  pub begun : Begun
  pub begun_for : IsBegunFor o at begun.number
  pub base : Image
  pub open_so : IsOpenSince base at.device at.core idle idle at.boot o.first o.entries o.last
  pub snap : Snap
  pub ends : EndsFrom snap done
  pub few : ChangesFew CHANGED_BLOCKS done
  pub read : AreAsRead (file_blocks base at.core) done.read
  pub is_step : IsStepOf snap.geometry (ctx_of o.store.boot o.asked begun) o.asked.call done
  pub next : Tree
  pub goes : procedures.step o.last (ctx_of o.store.boot o.asked begun) o.asked.call done.reply next
  pub leaves : Stands snap.geometry (with_objects (file_blocks base at.core) done.written) next

-- The change of the call was refused, at a moment of the call at which the store wasn't broken: no place was left,
-- or too few log positions for the blocks that it changes and that the tail of the log lacked. These are so many.
pub record FindsNoLogSpace (o : Outset) (now : Opened) (added : ℕ) : Type 0 where
  pub at : Opened
  pub since : GoesTo o.store at
  pub until : IsAfter at now
  pub sound : at.core.log.broken ≡ false
  pub done : Outcome
  pub planned : IsPlannedFor o at done
  pub none : HasPlaces at.core.log (blocks_of done.written) → ⊥
  pub lacked : added ≡ added_blocks at.core.log (blocks_of done.written)

-- no transaction was begun, of a store that wasn't broken: no number is left
pub record FindsNoNumber (o : Outset) (now : Opened) : Type 0 where
  pub sound : o.store.core.log.broken ≡ false
  pub none : 2 ^ 64 ≤ now.core.begun + 1

-- the store was broken when the call began, or a device call failed since; no number of a transaction is left, or
-- no room for the change of this call, which lacks so many blocks of the log's tail; or memory was refused since the
-- call began
abbrev pub HasCause : Outset → Opened → ℕ → Cause → Type 0
HasCause o now added cause.Io = HasFailed o.store.core.log o.store.device now.device
HasCause o now added cause.Spent = FindsNoNumber o now ⊎ FindsNoLogSpace o now added
HasCause o now added (cause.NoMemory error) = o.store.core.refused < now.core.refused

-- ---- what it answers

-- the reply of its procedure, once the place is settled where the call is to be answered so
pub record IsReplyOf (o : Outset) (entry : Entry) (given_verdict : Verdict) (now : Opened) : Type 0 where
  pub verdict_is_reply : given_verdict ≡ verdict.Reply entry.reply
  pub settled : is_answered_stable o.asked.call ≡ true → length o.entries + 1 ≤ settled_place now.core.log

-- IO in its stead, where the store broke before
pub record IsUnsettled (o : Outset) (given_verdict : Verdict) (now : Opened) : Type 0 where
  pub stable : is_answered_stable o.asked.call ≡ true
  pub verdict_is_reply : given_verdict ≡ verdict.Reply (refused status.Io o.asked.call)
  pub broken : now.core.log.broken ≡ true
  pub failed : HasBroken o.store.core.log o.store.device now.device

-- That it is NULL: no transaction was begun for it, and the store is as it was, but that it is settled where it
-- kept too many commits.
pub record IsOfNull (o : Outset) (given_verdict : Verdict) (now : Opened) : Type 0 where
  pub begins : begins_transaction o.asked.call ≡ false
  pub begun : now.core.begun ≡ o.store.core.begun
  pub left : length o.store.core.records ≤ MOST_UNINSTALLED_COMMITS → now ≡ o.store
  pub verdict_is_reply : given_verdict ≡ verdict.Reply Null

-- that it was refused, for a cause, though it begins transactions
pub record IsRefusal (o : Outset) (given_verdict : Verdict) (now : Opened) : Type 0 where
  pub begins : begins_transaction o.asked.call ≡ true
  pub why : Cause
  pub verdict_is_reply : given_verdict ≡ refusal o.asked.call why
  pub added : ℕ
  pub because : HasCause o now added why

-- by whether a procedure was committed
abbrev pub Tells : Outset → Option Entry → Verdict → Opened → Type 0
Tells o (Some entry) given_verdict now = IsReplyOf o entry given_verdict now ⊎ IsUnsettled o given_verdict now
Tells o None given_verdict now = IsOfNull o given_verdict now ⊎ IsRefusal o given_verdict now

-- how many log positions the change of a call takes that was refused, as its cause says
abbrev pub added_in : (o : Outset) (entry : Option Entry) (given_verdict : Verdict) (now : Opened)
    → Tells o entry given_verdict now → ℕ
added_in o (Some entry) given_verdict now tells = 0
added_in o None given_verdict now (inl null) = 0
added_in o None given_verdict now (inr refused) = refused.added

-- What each stop leaves since the call began, those within a device call included: some image, and each that
-- is left is good, with the boot number and with the files after a beginning of these entries, in which is
-- each place that was settled when the call began. At the end each that is settled then is in it.
pub record LeavesFiles (o : Outset) (entries : List Entry) (now : Opened) : Type 0 where
  pub past : IsLater o.store.device now.device
  pub left : LeavesImages o.store.device now.device
  pub stops : PreservesFiles o.store.device now.device o.store.boot o.first entries (settled_place o.store.core.log)
  pub ended : (image : Image) → IsCrashImage now.device now.device.clock image
      → LeavesBeginning now.device.size o.store.boot o.first entries (settled_place now.core.log) image

-- What comes of a call: the store is open with the entries that there were, and with the call's, where its
-- procedure was committed; so each stop on the way leaves its files; it led on from the store that there was;
-- and the answer is that procedure's, or says why there is none.
pub record HasAnswered (o : Outset) (given_verdict : Verdict) (now : Opened) : Type 0 where
  pub entry : Option Entry
  pub last : Tree
  pub boot : now.boot ≡ o.store.boot
  pub comes : ComesTo o now entry last
  pub files : LeavesFiles o (o.entries ++ option_to_list entry) now
  pub opened : IsOpenWith now o.first (o.entries ++ option_to_list entry) last
  pub goes : GoesTo o.store now
  pub tells : Tells o entry given_verdict now

-- so it does of any call that can be spelled, handed to a store that is open with any entries
abbrev pub Answers : Type 0 → Opened → Job → Verdict → Opened → Type 0
Answers keeps_model old asked given_verdict new = (first last : Tree) (entries : List Entry) → keeps_model
    → SoundCall asked.credential asked.moment asked.call → IsOpenWith old first entries last
    → HasAnswered (record {
      store = old;
      first = first;
      entries = entries;
      last = last;
      asked = asked;
    }) given_verdict new

-- ---- while it is under way

-- what is known at a stage: whether the procedure was committed, in which transaction it may be, and why the
-- call will be refused
abbrev pub StandsWith : Outset → Option Entry → Opened → Stage → Type 0
StandsWith o entry now (Called known) = (entry ≡ None)
    × (begins_transaction o.asked.call ≡ false → now ≡ o.store)
StandsWith o entry now (Planning begun) = (entry ≡ None) × IsBegunFor o now begun.number
StandsWith o entry now (Reading begun taken) = (entry ≡ None) × IsBegunFor o now begun.number
StandsWith o entry now (Read begun taken true) = (entry ≡ None) × IsBegunFor o now begun.number
StandsWith o entry now (Read begun taken false) = (entry ≡ None) × IsBegunFor o now begun.number
    × (o.store.device.failures < now.device.failures)
StandsWith o entry now (Refused begun why) = (entry ≡ None) × IsBegunFor o now begun.number
    × (added : ℕ) × HasCause o now added why
StandsWith o entry now (Again begun request) = (entry ≡ None) × IsBegunFor o now begun.number
StandsWith o entry now (Waiting place) = (place ≡ length o.entries + 1) × (is_some entry ≡ true)
    × (is_answered_stable o.asked.call ≡ true)

-- the worker has no call any more, or is so far with this one
abbrev pub IsAtStage : Outset → Option Entry → Opened → Progress → Type 0
IsAtStage o entry now Idle = Unit {0}
IsAtStage o entry now (At job stage) = (job ≡ o.asked) × StandsWith o entry now stage

-- A call is under way: the store is open with the entries that there were and with the call's, where its
-- procedure was committed; each stop before now left its files; its worker has it alone, and is so far; and
-- whatever broke the store was a write or a barrier that failed.
pub record IsCalling (o : Outset) (now : Opened) (worker : State) : Type 0 where
  pub entry : Option Entry
  pub last : Tree
  pub base : Image
  pub boot : now.boot ≡ o.store.boot
  pub comes : ComesTo o now entry last
  pub past : IsLater o.store.device now.device
  pub is_preserved : HasPreservedFiles o.store.device now.device o.store.boot o.first (o.entries ++ option_to_list entry)
      (settled_place o.store.core.log)
  pub opened : IsOpenAt base now (fetches_of worker) o.first (o.entries ++ option_to_list entry) last
  pub stands : IsWorkerAt o.store.boot (o.entries ++ option_to_list entry) worker
  pub at_work : IsCoreAtWork worker now.core
  pub so_far : IsAtStage o entry now (progress_of worker)
  pub counted : o.store.device.failures ≤ now.device.failures
  pub further : IsFurther o.store.core now.core
  pub broken : now.core.log.broken ≡ true → HasBroken o.store.core.log o.store.device now.device

-- So it is after a step of the worker's own, once its entry and its answer are taken; and its answer, if it
-- gave one, is what the call comes to.
pub record HasStepped (o : Outset) (now : Opened) (worker : State) : Type 0 where
  pub calling : IsCalling o now (reported worker)
  pub ends : is_some worker.work.answer ≡ true → is_idle (progress_of worker) ≡ true
  pub answer : IfSome worker.work.answer (λ ready. Tells o calling.entry ready.verdict now)

-- What waiting for the log leaves, or not waiting: an open store stays open, each stop on the way leaves its
-- files, and without it nothing has changed.
pub record HasWaited (waits : Bool) (before : Device) (old : CoreState) (after : Device)
    (new : CoreState) : Type 0 where
  pub opens : LeavesOpen before old after new
  pub stays : StayOpen before old after new
  pub none : waits ≡ false → (after ≡ before) × (new ≡ old)
